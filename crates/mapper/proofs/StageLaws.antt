-- What each function of the call has once the layer below has answered: the next layer's premise, or the outcome.
use Rattle.std.specs.Prelude.{Ok}
use Rattle.model.specs.{Answer, Verdict, refused_with}
use Rattle.base.specs.{ℕ, arith, ◌≡◌, refl, sym, ◌∙◌, ap, subst, Bool, Option, None, Some, List, [], ◌∷◌, length}
use Rattle.model.specs.{lowest, Read, holds, fault, next, verdict_of, refused_at, first_of, cells_of, unordered, over_limit, read_header, read_graph}
use Rattle.model.specs.{InputArrival, read_arrivals, timed_by, Outcome, refused, cover_verdict, cuts_verdict, order_verdict, map_cut, map_ordered}
use Rattle.model.specs.{map_graph, followed, within, map_design}
use Rattle.model.specs.Graph.{Graph}
use Rattle.model.specs.declared.Library.{Library}
use Rattle.model.specs.declared.Header.{Header}
use Rattle.model.proofs.{refusal_parts}
use Rattle.theory_graph.proofs.{timed-unordered}
use Rattle.base_words.specs.{ordered_count}
use Rattle.cells_pairs.specs.{Coded}
use Rattle.graph_order.specs.{Fit, ordered_verdict, ordered_words}
use Rattle.graph_order.proofs.{order-verdict}
use Rattle.graph_reader.specs.{loaded_words}
use Rattle.graph_arrivals.specs.{Listable, put_all, listed}
use Rattle.cut_pass.specs.{Ready, enumerated}
use Rattle.cut_pass.proofs.{enumerate_ready, enumerate_verdict}
use Rattle.cover_choice.specs.{OutputsIn, SlotsIn, MatchesIn, missing, marked, chosen_up}
use Rattle.cover_choice.proofs.{mark_asked, uncovered_asked}
use Rattle.net_writer.specs.MappedWords.{Mapped}
use Rattle.mapper.specs.{Answered, LibraryOk, all_of, Loaded, OrderedGraph, Timed, Cut, Timeable, printed_for, cut_for, ordered_for, loaded_for}
use Rattle.mapper.specs.{times_of, times_for, design_of, graph_for}
use Rattle.mapper.proofs.NetlistStage.{answered-refused}
use Rattle.mapper.proofs.StageStates.{loaded_after, ordered-after, ordered-lists, timed-after, all-ordered, none-over_limit, timed_ok}
use Rattle.mapper.proofs.StageStates.{cut-after}
use Rattle.mapper.proofs.CoverLaws.{cut-printed, cut-refused, chosen-covered, chosen-verdict, marked-mapped, marked_timeable}
use Rattle.cut_lists.specs.CutLists as lists

-- what is told of one outcome is told of an equal one
pub answered_as : {o p : Outcome} {t u : List ℕ} {a : Answer} → p ≡ o → Answered o t a u → Answered p t a u
answered_as {t = t} {u = u} {a = a} e d = subst (λ (x : Outcome). Answered x t a u) (sym e) d

-- ---- after the choice, whose words are y

module _ (ranged : Bool) (w : List ℕ) (lib : Library) (ids : List ℕ) (h : Header) (g : Graph) (c : Cut w lib ids h g) (y : List ℕ) (e : y ≡ chosen_up (all_of lib ids) w h.size (ordered_count h)) where
  pub chosen-outputs : OutputsIn y h.size h.outputs
  chosen-outputs =
      subst (λ (x : List ℕ). OutputsIn x h.size h.outputs) (sym e)
      (uncovered_asked (chosen_up (all_of lib ids) w h.size (ordered_count h)) h g c.given.header (chosen-covered w lib ids h g c).represented)

  pub chosen_asks : Coded lib ids × MatchesIn (all_of lib ids) y h.size × OutputsIn y h.size h.outputs × SlotsIn y h.size (ordered_count h)
  chosen_asks =
      let k = subst (λ (x : List ℕ). MatchesIn (all_of lib ids) x h.size × OutputsIn x h.size h.outputs × SlotsIn x h.size (ordered_count h)) (sym e)
      (mark_asked (chosen_up (all_of lib ids) w h.size (ordered_count h)) (all_of lib ids) h g c.given.header (chosen-covered w lib ids h g c)) in
      (c.given.library.coded, k.0, k.1, k.2)

  module _ (r : Verdict) (answered : r ≡ missing y h.size h.outputs) where
    cover-is : r ≡ cover_verdict (all_of lib ids) g
    cover-is = answered ∙ ap (λ (x : List ℕ). missing x h.size h.outputs) e ∙ chosen-verdict w lib ids h g c

    pub cover-mapped : r ≡ Ok tt → (z : List ℕ) → z ≡ marked (all_of lib ids) y h.size h.outputs (ordered_count h) → Mapped z lib ids h g
    cover-mapped a z f =
        subst (λ (x : List ℕ). Mapped x lib ids h g) (sym (f ∙ ap (λ (x : List ℕ). marked (all_of lib ids) x h.size h.outputs (ordered_count h)) e))
        (marked-mapped w lib ids h g c (sym cover-is ∙ a))

    pub cover_timeable : (z : List ℕ) → z ≡ marked (all_of lib ids) y h.size h.outputs (ordered_count h) → Timeable z lib ids h g
    cover_timeable z f =
        subst (λ (x : List ℕ). Timeable x lib ids h g) (sym (f ∙ ap (λ (x : List ℕ). marked (all_of lib ids) x h.size h.outputs (ordered_count h)) e)) (marked_timeable w lib ids h g c)

    pub cover_goes : r ≡ Ok tt → (bytes : ℕ) → cut_for ranged lib ids g bytes ≡ printed_for ranged lib ids g bytes
    cover_goes a bytes = cut-printed ranged lib ids g bytes (sym cover-is ∙ a)

    pub cover-stops : (n k : ℕ) → r ≡ refused_with n k → (t : List ℕ) → Answered (cut_for ranged lib ids g (length t)) t (refused_with n k) t
    cover-stops n k a t = answered_as (cut-refused ranged lib ids g (length t) n k (sym cover-is ∙ a)) (answered-refused n k t)

-- ---- after the cuts

module _ (ranged : Bool) (w : List ℕ) (lib : Library) (ids : List ℕ) (h : Header) (g : Graph) (p : Timed w lib ids h g) where
  pub timed_asks : Ready w h.size (ordered_count h)
  timed_asks = enumerate_ready w h.size (ordered_count h) g p.represents (timed_ok w lib ids h g p) p.uncut

  module _ (r : Verdict) (answered : r ≡ (lists.listing w h.size (ordered_count h)).answer) where
    cuts-is : r ≡ cuts_verdict g
    cuts-is = answered ∙ enumerate_verdict w h.size (ordered_count h) g p.represents (timed_ok w lib ids h g p) p.uncut

    pub cuts-cut : r ≡ Ok tt → (y : List ℕ) → y ≡ enumerated w h.size (ordered_count h) → Cut y lib ids h g
    cuts-cut a y e = subst (λ (x : List ℕ). Cut x lib ids h g) (sym e) (cut-after w lib ids h g p (sym cuts-is ∙ a))

    pub cuts_go : r ≡ Ok tt → (bytes : ℕ) → ordered_for ranged lib ids g bytes ≡ cut_for ranged lib ids g bytes
    unfolding map_cut
    cuts_go a bytes = ap (λ (vs : List ℕ). within bytes (followed ranged (all_of lib ids) g (map_cut (cells_of lib) (all_of lib ids) g vs))) (none-over_limit g (sym cuts-is ∙ a))

    pub cuts_stop : (n k : ℕ) → r ≡ refused_with n k → (t : List ℕ) → Answered (ordered_for ranged lib ids g (length t)) t (refused_with n k) t
    unfolding map_cut cuts_verdict refused_at first_of within followed
    cuts_stop n k a t = answered_as (go (over_limit g) (sym cuts-is ∙ a)) (answered-refused n k t)
      where
        go : (vs : List ℕ) → refused_at 16 (first_of vs) ≡ refused_with n k → within (length t) (followed ranged (all_of lib ids) g (map_cut (cells_of lib) (all_of lib ids) g vs)) ≡ refused n k
        go [] q = absurd (let z : ◌≡◌ {A = ℕ} 0 1 = cc in omega arith)
        go (v ∷ vs) q = let x = (refusal_parts q).0 in let y = (refusal_parts q).1 in (λ i. refused (x i) (y i))

-- ---- after the ordering

module _ (ranged : Bool) (w : List ℕ) (lib : Library) (ids : List ℕ) (h : Header) (g : Graph) (l : Loaded w lib ids h g) (r : Verdict) (answered : r ≡ ordered_verdict w h) (y : List ℕ) (e : y ≡ ordered_words w h) where
  ordering_is : r ≡ order_verdict g
  ordering_is = answered ∙ order-verdict l.before h l.fit w g l.graph_loaded

  ordering_ordered : OrderedGraph y lib ids h g
  ordering_ordered = subst (λ (x : List ℕ). OrderedGraph x lib ids h g) (sym e) (ordered-after w lib ids h g l)

  pub ordering_lists : Listable y h.size h.inputs
  ordering_lists = ordered-lists y lib ids h g ordering_ordered

  -- ---- and after the reading of the arrivals' text t

  -- the graph is timed, and the outcome from there on is the call's
  pub record Times (t z : List ℕ) : Type 0 where
    pub graph : Graph
    pub timed : Timed z lib ids h graph
    pub outcome : (bytes : ℕ) → times_for ranged lib ids t h g bytes ≡ ordered_for ranged lib ids graph bytes

  module _ (t : List ℕ) (u : Verdict) (said : u ≡ verdict_of (read_arrivals h.inputs t)) where
    -- 25 and 26
    pub times_stop : (n k : ℕ) → u ≡ refused_with n k → (text : List ℕ) → Answered (times_for ranged lib ids t h g (length text)) text (refused_with n k) text
    unfolding verdict_of times_for map_design next
    times_stop n k a text = go (read_arrivals h.inputs t) refl (sym said ∙ a)
      where
        go : (x : Read (List InputArrival)) → read_arrivals h.inputs t ≡ x → verdict_of x ≡ refused_with n k → Answered (map_design (length text) (times_of ranged lib ids t h g)) text (refused_with n k) text
        go (holds es) q z = absurd (let x : ◌≡◌ {A = ℕ} 0 1 = cc in omega arith)
        go (fault m j) q z =
            let x = (refusal_parts z).0 in let y = (refusal_parts z).1 in
            answered_as (ap (λ (v : Read (List InputArrival)). map_design (length text) (next v (λ es. holds (record { listed = cells_of lib; cells = all_of lib ids; ranged = ranged; graph = timed_by g es })))) q ∙ (λ i. refused (x i) (y i))) (answered-refused n k text)

    module _ (a : u ≡ Ok tt) where
      times-read : (es : List InputArrival) × (read_arrivals h.inputs t ≡ holds es)
      unfolding verdict_of
      times-read = go (read_arrivals h.inputs t) refl (sym said ∙ a)
        where
          go : (x : Read (List InputArrival)) → read_arrivals h.inputs t ≡ x → verdict_of x ≡ Ok tt → (es : List InputArrival) × (read_arrivals h.inputs t ≡ holds es)
          go (holds es) q z = (es, q)
          go (fault m j) q z = absurd (let x : ◌≡◌ {A = ℕ} 0 1 = cc in omega arith)

      times_are : (bytes : ℕ) → times_for ranged lib ids t h g bytes ≡ loaded_for ranged lib ids (timed_by g times-read.0) bytes
      unfolding times_for map_design next
      times_are bytes = ap (λ (v : Read (List InputArrival)). map_design bytes (next v (λ es. holds (record { listed = cells_of lib; cells = all_of lib ids; ranged = ranged; graph = timed_by g es })))) times-read.1

      -- 15
      pub ordering_stops : (n k : ℕ) → r ≡ refused_with n k → (text : List ℕ) → Answered (times_for ranged lib ids t h g (length text)) text (refused_with n k) text
      unfolding map_graph map_ordered order_verdict refused_at within followed
      ordering_stops n k b text =
          answered_as (times_are (length text) ∙ go (lowest (unordered (timed_by g times-read.0))) (ap (λ (us : List ℕ). refused_at 15 (lowest us)) (timed-unordered g times-read.0) ∙ sym ordering_is ∙ b))
          (answered-refused n k text)
        where
          go : (o : Option ℕ) → refused_at 15 o ≡ refused_with n k → within (length text) (followed ranged (all_of lib ids) (timed_by g times-read.0) (map_ordered (cells_of lib) (all_of lib ids) (timed_by g times-read.0) o)) ≡ refused n k
          go None q = absurd (let z : ◌≡◌ {A = ℕ} 0 1 = cc in omega arith)
          go (Some v) q = let x = (refusal_parts q).0 in let z = (refusal_parts q).1 in (λ i. refused (x i) (z i))

      pub ordering_timed : r ≡ Ok tt → (z : List ℕ) → z ≡ put_all y h.size (listed h.inputs t) → Times t z
      unfolding map_graph map_ordered lowest
      ordering_timed b z f =
          let all : unordered g ≡ [] = all-ordered g (sym ordering_is ∙ b) in
          record {
            graph = timed_by g times-read.0;
            timed = subst (λ (x : List ℕ). Timed x lib ids h (timed_by g times-read.0)) (sym f) (timed-after y lib ids h g ordering_ordered all t times-read.0 times-read.1);
            outcome = λ bytes. times_are bytes
                ∙ ap (λ (us : List ℕ). within bytes (followed ranged (all_of lib ids) (timed_by g times-read.0) (map_ordered (cells_of lib) (all_of lib ids) (timed_by g times-read.0) (lowest us)))) (timed-unordered g times-read.0 ∙ all);
          }

-- ---- after the reading of the graph

pub record Reads (ranged : Bool) (lib : Library) (ids : List ℕ) (s t : List ℕ) (h : Header) (y : List ℕ) : Type 0 where
  pub graph : Graph
  pub loaded : Loaded y lib ids h graph
  pub outcome : (bytes : ℕ) → graph_for ranged lib ids s t h bytes ≡ times_for ranged lib ids t h graph bytes

module _ (ranged : Bool) (lib : Library) (ids : List ℕ) (ok : LibraryOk lib ids) (s t : List ℕ) (h : Header) (w : List ℕ) (fit : Fit h w) (d : read_header s ≡ holds h) (r : Verdict) (answered : r ≡ verdict_of (read_graph s h)) where
  pub reading_loaded : r ≡ Ok tt → (y : List ℕ) → y ≡ loaded_words w s h → Reads ranged lib ids s t h y
  unfolding verdict_of graph_for times_for map_design next
  reading_loaded a y e = go (read_graph s h) refl (sym answered ∙ a)
    where
      go : (x : Read Graph) → read_graph s h ≡ x → verdict_of x ≡ Ok tt → Reads ranged lib ids s t h y
      go (holds g) q z = record {
        graph = g;
        loaded = subst (λ (u : List ℕ). Loaded u lib ids h g) (sym e) (loaded_after lib ids ok s h w fit d g q);
        outcome = λ bytes. ap (λ (u : Read Graph). map_design bytes (next u (times_of ranged lib ids t h))) q;
      }
      go (fault n k) q z = absurd (let x : ◌≡◌ {A = ℕ} 0 1 = cc in omega arith)

  pub reading_stops : (n k : ℕ) → r ≡ refused_with n k → (text : List ℕ) → Answered (graph_for ranged lib ids s t h (length text)) text (refused_with n k) text
  unfolding verdict_of graph_for map_design next
  reading_stops n k a text = go (read_graph s h) refl (sym answered ∙ a)
    where
      go : (x : Read Graph) → read_graph s h ≡ x → verdict_of x ≡ refused_with n k → Answered (map_design (length text) (design_of ranged lib ids s t h)) text (refused_with n k) text
      go (holds g) q z = absurd (let x : ◌≡◌ {A = ℕ} 0 1 = cc in omega arith)
      go (fault m j) q z =
          let x = (refusal_parts z).0 in let y = (refusal_parts z).1 in
          answered_as (ap (λ (u : Read Graph). map_design (length text) (next u (times_of ranged lib ids t h))) q ∙ (λ i. refused (x i) (y i))) (answered-refused n k text)
