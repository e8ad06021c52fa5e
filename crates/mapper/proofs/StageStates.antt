-- From layer to layer: what one leaves in the words is what the next asks.
use Rattle.std.specs.Prelude.{Ok}
use Rattle.model.specs.{Verdict, refused_with}
use Rattle.base.specs.{ℕ, ◌+◌, ◌*◌, ◌≤◌, ◌<◌, arith, ◌≡◌, refl, sym, ◌∙◌, ap, subst, Bool, true, false, cond, Option, None, Some, List, []}
use Rattle.base.specs.{◌∷◌, ◌++◌, Memᴰ, Memᴰ-head, Memᴰ-tail, add-one, eqb, length, get_or, length-append, get_or-append}
use Rattle.model.specs.{lowest, smaller, holds, refused_at, first_of, Node, constant, input, undefined, both, node, order_from, topological_order}
use Rattle.model.specs.{unordered, and_vars, cuts_of, cut_at, cut_table, over_limit, read_header, read_graph, InputArrival, read_arrivals, input_arrival_of, timed_by}
use Rattle.model.specs.{Lists, order_verdict, cuts_verdict}
use Rattle.model.specs.Graph.{Graph}
use Rattle.model.specs.declared.Library.{Library}
use Rattle.model.specs.declared.Header.{Header}
use Rattle.theory_graph.proofs.{front-distinct, order_small, timed-accepted, timed-unordered}
use Rattle.theory_text.proofs.{graph-known, graph-accepted, graph-counted, graph-fits, timed-fits, InputArrivalRead, input-arrival-read}
use Rattle.base_words.specs.{ordered_count, HasCapacity, HasCapacityFor, left_at, right_at, slot_at, position_at, position_addr, output_at, output_addr, count_addr}
use Rattle.base_words.specs.{needed_at, needed_addr, input_arrival_at, input_arrival_addr, positive_addr, lists_from, node_at, cuts_at, function_of, RepresentsGraph}
use Rattle.base_words.specs.{RepresentsOrder, RepresentsCuts}
use Rattle.base_words.proofs.{capacity-need}
use Rattle.graph_order.specs.{Fit, kind_of, left_of, right_of, LoadedGraph, Operands, ordered_words}
use Rattle.graph_order.proofs.{fit_length, loaded_operands, ordering_law, holds-nodes}
use Rattle.graph_reader.specs.{loaded_words}
use Rattle.graph_reader.proofs.{load_law}
use Rattle.graph_arrivals.specs.{Listable, put_all, listed}
use Rattle.graph_arrivals.proofs.{Slotted, Stored, stored-all, listed-all}
use Rattle.cut_lists.specs.RepresentedWords.{Represents}
use Rattle.cut_lists.proofs.{represents-kept}
use Rattle.cut_pass.specs.{enumerated}
use Rattle.cut_pass.specs.EnumeratedLists.{Listed as Filed}
use Rattle.cut_pass.proofs.{enumerate_listed, enumerate_represents}
use Rattle.cover_choice.proofs.{ordered-is}
use Rattle.mapper.specs.{LibraryOk, Given, Loaded, OrderedGraph, Timed, Cut}
use Rattle.theory_graph.specs.AcceptedGraph as accepted

verdicts_differ : {n k : ℕ} → ◌≡◌ {A = Verdict} (refused_with n k) (Ok tt) → ⊥
verdicts_differ e = let z : ◌≡◌ {A = ℕ} 0 1 = cc in omega arith

-- a verdict without a refusal says that there is nothing to refuse
none-lowest : (n : ℕ) (us : List ℕ) → refused_at n (lowest us) ≡ Ok tt → us ≡ []
unfolding refused_at lowest smaller
none-lowest n [] e = refl
none-lowest n (u ∷ us) e = go (lowest us) e
  where
    go : (o : Option ℕ) → refused_at n (smaller u o) ≡ Ok tt → u ∷ us ≡ []
    go None q = absurd (verdicts_differ q)
    go (Some x) q = absurd (verdicts_differ q)

pub none_first : (n : ℕ) (us : List ℕ) → refused_at n (first_of us) ≡ Ok tt → us ≡ []
unfolding refused_at first_of
none_first n [] e = refl
none_first n (u ∷ us) e = absurd (verdicts_differ e)

pub all-ordered : (g : Graph) → order_verdict g ≡ Ok tt → unordered g ≡ []
unfolding order_verdict
all-ordered g e = none-lowest 15 (unordered g) e

pub none-over_limit : (g : Graph) → cuts_verdict g ≡ Ok tt → over_limit g ≡ []
unfolding cuts_verdict
none-over_limit g e = none_first 16 (over_limit g) e

-- ---- `load`

pub loaded_after : (lib : Library) (ids : List ℕ) → LibraryOk lib ids → (s : List ℕ) (h : Header) (w : List ℕ) → Fit h w → read_header s ≡ holds h → (g : Graph) → read_graph s h ≡ holds g
    → Loaded (loaded_words w s h) lib ids h g
loaded_after lib ids ok s h w fit d g e =
    let c = graph-counted s h g d e in
    record {
      given = record {
        library = ok;
        header = record { size = sym c.size; inputs = sym c.inputs; outputs = sym c.outputs; ands = sym c.ands };
        fits = graph-fits s h g d e;
        accepted = graph-accepted s h g d e;
      };
      distinct = front-distinct g.inputs (and_vars g) (graph-known s h g d e).once.1;
      before = w;
      fit = fit;
      graph_loaded = load_law w s h fit g e;
    }

-- ---- `place`

pub ordered-after : (w : List ℕ) (lib : Library) (ids : List ℕ) (h : Header) (g : Graph) → Loaded w lib ids h g → OrderedGraph (ordered_words w h) lib ids h g
ordered-after w lib ids h g l = record {
  given = l.given;
  distinct = l.distinct;
  before = l.before;
  fit = l.fit;
  graph_loaded = ordering_law l.before h l.fit w g l.graph_loaded;
}

pub loaded_asks : (w : List ℕ) (lib : Library) (ids : List ℕ) (h : Header) (g : Graph) → Loaded w lib ids h g → Fit h w × Operands w h.size
loaded_asks w lib ids h g l = (fit_length h l.before w l.fit l.graph_loaded.represented.long, loaded_operands l.before h w g (0 ∷ g.inputs) l.graph_loaded)

-- ---- `graph_arrivals::read`

-- a graph that is timed is one that was read
timed-given : (lib : Library) (ids : List ℕ) (h : Header) (g : Graph) (es : List InputArrival) → Given lib ids h g → Given lib ids h (timed_by g es)
unfolding timed_by
timed-given lib ids h g es k = record {
  library = k.library;
  header = record { size = k.header.size; inputs = k.header.inputs; outputs = k.header.outputs; ands = k.header.ands };
  fits = timed-fits g es k.fits;
  accepted = λ p. timed-accepted g es (k.accepted (sym (timed-unordered g es) ∙ p));
}

timed-represents : (w : List ℕ) (m n : ℕ) (g : Graph) (es : List InputArrival) → Represents w m n g → Represents w m n (timed_by g es)
unfolding timed_by node topological_order
timed-represents w m n g es r = record {
  capacity = r.capacity;
  size = r.size;
  nodes = r.nodes;
  lefts = r.lefts;
  rights = r.rights;
  within = r.within;
  long = r.long;
  order = r.order;
  places = r.places;
}

-- "each 0 to 65,535"
input-arrival-soon : (inputs : List ℕ) (es : List InputArrival) → ((e : InputArrival) → Memᴰ e es → e.arrival ≤ 65535) → (v : ℕ) → input_arrival_of inputs es v ≤ 65535
unfolding input_arrival_of
input-arrival-soon inputs [] h v = omega arith
input-arrival-soon inputs (e ∷ es) h v = go (eqb v (get_or inputs e.index 0)) (input-arrival-soon inputs es (λ x m. h x (Memᴰ-tail m)) v)
  where
    go : (b : Bool) → input_arrival_of inputs es v ≤ 65535 → cond b e.arrival (input_arrival_of inputs es v) ≤ 65535
    go true later = h e (Memᴰ-head refl)
    go false later = later

module _ (w : List ℕ) (lib : Library) (ids : List ℕ) (h : Header) (g : Graph) (p : OrderedGraph w lib ids h g) where
  hold : LoadedGraph p.before h w g (topological_order g)
  hold = p.graph_loaded

  fits : Fit h w
  fits = fit_length h p.before w p.fit hold.represented.long

  capacity : HasCapacity w h.size
  capacity = capacity-need w h.size h.outputs fits.capacity

  -- the inputs stand behind variable 0
  input-slot : (k : ℕ) → k < length g.inputs → (k + 1 < length (topological_order g)) × (get_or (topological_order g) (k + 1) 0 ≡ get_or g.inputs k 0)
  unfolding topological_order
  input-slot k l =
      let rest : List ℕ = order_from (length g.ands) g.ands (0 ∷ g.inputs) in (
        omega (arith, length-append g.inputs rest),
        ap (λ (i : ℕ). get_or (0 ∷ g.inputs ++ rest) i 0) (add-one k) ∙ get_or-append g.inputs rest 0 k l,
      )

  slotted : Slotted w h.size g.inputs
  slotted = record {
    listable = record {
      capacity = capacity;
      few = omega (arith, hold.ins, fits.lines);
      within = λ k l. let i = input-slot k l in omega (arith, hold.represented.in_order.slots (k + 1) i.0, hold.small (k + 1) i.0);
    };
    slots = λ k l. let i = input-slot k l in hold.represented.in_order.slots (k + 1) i.0 ∙ i.1;
  }

  pub ordered-lists : Listable w h.size h.inputs
  ordered-lists = subst (Listable w h.size) hold.ins slotted.listable

  operands : Operands w h.size
  operands = loaded_operands p.before h w g (topological_order g) hold

  lefts : (v : ℕ) → v ≤ h.size → left_at w h.size v ≤ 2 * h.size + 1
  lefts v l = go (node g v) refl
    where
      go : (k : Node) → node g v ≡ k → left_at w h.size v ≤ 2 * h.size + 1
      go constant e = omega (arith, hold.represented.lefts v l ∙ ap left_of e)
      go input e = omega (arith, hold.represented.lefts v l ∙ ap left_of e)
      go undefined e = omega (arith, hold.represented.lefts v l ∙ ap left_of e)
      go (both a b) e = operands.left v l (hold.represented.kinds v l ∙ ap kind_of e)

  rights : (v : ℕ) → v ≤ h.size → right_at w h.size v ≤ 2 * h.size + 1
  rights v l = go (node g v) refl
    where
      go : (k : Node) → node g v ≡ k → right_at w h.size v ≤ 2 * h.size + 1
      go constant e = omega (arith, hold.represented.rights v l ∙ ap right_of e)
      go input e = omega (arith, hold.represented.rights v l ∙ ap right_of e)
      go undefined e = omega (arith, hold.represented.rights v l ∙ ap right_of e)
      go (both a b) e = operands.right v l (hold.represented.kinds v l ∙ ap kind_of e)

  module _ (all : unordered g ≡ []) where
    ordered_ok : accepted.Accepted g
    ordered_ok = p.given.accepted all

    ordered-represents : Represents w h.size (ordered_count h) g
    ordered-represents =
        let long : ordered_count h ≡ length (topological_order g) = ordered-is h g p.given.header ordered_ok in
        record {
          capacity = capacity;
          size = hold.size;
          nodes = holds-nodes p.before h w g (topological_order g) hold;
          lefts = lefts;
          rights = rights;
          within = omega (arith, fits.lines);
          long = sym long;
          order = λ i l. hold.represented.in_order.slots i (omega arith);
          places = λ i l. hold.represented.in_order.places i (omega arith);
        }

    module _ (t : List ℕ) (es : List InputArrival) (read : read_arrivals h.inputs t ≡ holds es) where
      known : InputArrivalRead h.inputs [] es
      known = input-arrival-read h.inputs t es read

      inside : (k : ℕ) → Lists es k → k < length g.inputs
      inside k m = subst (λ (n : ℕ). k < n) (sym hold.ins) (known.inside k m)

      stored : Stored w h.size (input_arrival_of g.inputs es) (put_all w h.size es)
      stored =
          stored-all h.size g.inputs p.distinct w slotted (λ u l. hold.represented.zero (input_arrival_addr h.size u) (omega arith) (omega arith)) es
          inside known.once

      timed : Timed (put_all w h.size es) lib ids h (timed_by g es)
      unfolding timed_by topological_order
      timed = record {
        given = timed-given lib ids h g es p.given;
        ordered = timed-unordered g es ∙ all;
        soon = input-arrival-soon g.inputs es known.small;
        fit = fit_length h w (put_all w h.size es) fits stored.long;
        represents = timed-represents (put_all w h.size es) h.size (ordered_count h) g es
            (represents-kept w (put_all w h.size es) h.size (ordered_count h) g ordered-represents ordered_ok stored.long (λ i l. stored.before i (omega arith)));
        uncut = record {
          none_yet = λ v l. stored.before (count_addr h.size v) (omega arith) ∙ hold.represented.zero (count_addr h.size v) (omega arith) (omega arith);
        };
        outputs = λ i l. stored.behind (output_addr h.size i) (omega arith) ∙ hold.represented.outs i l;
        waiting = λ v l n. stored.before (position_addr h.size v) (omega arith) ∙ hold.represented.in_order.waiting v l n;
        input_arrival = stored.here;
        unneeded = λ v l. stored.before (needed_addr h.size v) (omega arith) ∙ hold.represented.zero (needed_addr h.size v) (omega arith) (omega arith);
        unchosen = λ a x y. stored.behind a (omega arith) ∙ hold.represented.zero a (omega arith) (omega arith);
      }

      pub timed-after : Timed (put_all w h.size (listed h.inputs t)) lib ids h (timed_by g es)
      timed-after = subst (λ (x : List InputArrival). Timed (put_all w h.size x) lib ids h (timed_by g es)) (sym (listed-all h.inputs t es read)) timed

-- ---- `enumerate`

module _ (w : List ℕ) (lib : Library) (ids : List ℕ) (h : Header) (g : Graph) (p : Timed w lib ids h g) where
  pub timed_ok : accepted.Accepted g
  timed_ok = p.given.accepted p.ordered

  module _ (few : cuts_verdict g ≡ Ok tt) where
    out : List ℕ
    out = enumerated w h.size (ordered_count h)

    is-size : g.size ≡ h.size
    is-size = p.represents.size

    filed : Filed w h.size g out
    unfolding out
    filed = enumerate_listed w h.size (ordered_count h) g p.represents timed_ok p.uncut few

    again : Represents out h.size (ordered_count h) g
    unfolding out
    again = enumerate_represents w h.size (ordered_count h) g p.represents timed_ok p.uncut few

    graph : RepresentsGraph out g
    graph = record {
      capacity = subst (λ (m : ℕ). HasCapacityFor out m (length g.outputs)) (sym is-size) (record { small = p.fit.capacity.small; capacity = omega (arith, p.fit.capacity.capacity, filed.long, p.given.header.outputs) });
      nodes = subst (λ (m : ℕ). (v : ℕ) → v ≤ m → node_at out m v ≡ node g v) (sym is-size) again.nodes;
      outputs = subst (λ (m : ℕ). (i : ℕ) → i < length g.outputs → output_at out m i ≡ get_or g.outputs i 0) (sym is-size)
          (λ i l. filed.above (output_addr h.size i) (omega arith) ∙ p.outputs i l);
      input_arrival = subst (λ (m : ℕ). (v : ℕ) → v ≤ m → input_arrival_at out m v ≡ g.input_arrival v) (sym is-size)
          (λ v l. filed.middle (input_arrival_addr h.size v) (omega arith) (omega arith) ∙ p.input_arrival v l);
    }

    order : RepresentsOrder out g
    order =
        let long : ordered_count h ≡ length (topological_order g) = ordered-is h g p.given.header timed_ok in
        record {
          slots = subst (λ (m : ℕ). (i : ℕ) → i < length (topological_order g) → slot_at out m i ≡ get_or (topological_order g) i 0) (sym is-size) (λ i l. again.order i (omega arith));
          places = subst (λ (m : ℕ). (i : ℕ) → i < length (topological_order g) → position_at out m (get_or (topological_order g) i 0) ≡ i + 1) (sym is-size) (λ i l. again.places i (omega arith));
          waiting = subst (λ (m : ℕ). (v : ℕ) → v ≤ m → ¬ Memᴰ v (topological_order g) → position_at out m v ≡ 0) (sym is-size)
              (λ v l n. filed.below (position_addr h.size v) (omega arith) ∙ p.waiting v l n);
        }

    cuts : RepresentsCuts out g
    unfolding cut_at
    cuts = record {
      lists = subst (λ (m : ℕ). (v : ℕ) → v ≤ m → cuts_at out m v ≡ cuts_of g v) (sym is-size) filed.cuts;
      functions = subst (λ (m : ℕ). (v : ℕ) → Memᴰ v (topological_order g) → (k : ℕ) → k < length (cuts_of g v) → function_of out m v k ≡ cut_table g (get_or (cuts_of g v) k []) v) (sym is-size)
          (λ v m k l. filed.functions v k (subst (λ (s : ℕ). v ≤ s) is-size (order_small g timed_ok v m)) l);
    }

    pub cut-after : Cut (enumerated w h.size (ordered_count h)) lib ids h g
    unfolding out
    cut-after = record {
      given = p.given;
      represented = record { accepted = timed_ok; free = none-over_limit g few; soon = p.soon; graph = graph; order = order; cuts = cuts };
      unneeded = subst (λ (m : ℕ). (v : ℕ) → v ≤ m → needed_at out m v ≡ 0) (sym is-size)
          (λ v l. filed.middle (needed_addr h.size v) (omega arith) (omega arith) ∙ p.unneeded v l);
      unchosen = subst (λ (m : ℕ). (a : ℕ) → positive_addr m 0 ≤ a → a < lists_from m → get_or out a 0 ≡ 0) (sym is-size)
          (λ a x y. filed.middle a (omega arith) (omega arith) ∙ p.unchosen a x y);
    }
