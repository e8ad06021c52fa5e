-- A graph that is read is in the limits, and accepted if all its ANDs can be ordered.
use Rattle.base.specs.{ℕ, zero, suc, ◌+◌, ◌*◌, ◌≤◌, ◌<◌, le_of_suc-le-suc, not-suc-le-zero, arith, ◌≡◌, refl, sym, ◌∙◌, ap, ap₂, subst}
use Rattle.base.specs.{⊎_elim, Bool, true, false, not, cond, ◌&&◌, ◌||◌, false≢true, List, [], ◌∷◌, ◌++◌, map, Memᴰ, Memᴰ-not-nil}
use Rattle.base.specs.{Memᴰ-cases_cons, Memᴰ-append_cases, Memᴰ-eq_of_singleton, Memᴰ-cast, cons≢nil, nil≢cons}
use Rattle.base.specs.{head-eq_of_cons-eq, tail-eq_of_cons-eq, T, eqb, leb, leb→le, le→leb, lit<, not_T, length, get_or, drop, replicate}
use Rattle.base.specs.{length-append, length-map, and_yes, yes_and, eqb_yes, leb_yes}
use Rattle.model.specs.{all, elem, keep, each, lines_from, holds, next, from?, And, var_of, unordered, and_vars, closed, header_of, in_limits}
use Rattle.model.specs.{in_sequence, read_header, Kind, an_input, an_output, an_and, how_many, defines, expected, Item, read_items, uses, defined_by}
use Rattle.model.specs.{check_uses, same_kind, is_kind, graph_of, read_graph, Distinct}
use Rattle.model.specs.Graph.{Graph}
use Rattle.model.specs.declared.Header.{Header}
use Rattle.theory_graph.proofs.{map_out, keep_out, each_out, elem_out, map-map, get_or_in, all_of, all_in, is_true, keep_append, by_bool}
use Rattle.theory_graph.proofs.{by_list, by_nat, by_member}
use Rattle.theory_graph.specs.AcceptedGraph.{Accepted}
use Rattle.theory_graph.specs.{distinct}
use Rattle.theory_text.specs.{LowLiterals, GraphFits}
use Rattle.theory_text.proofs.ReadSteps.{holds-once, unless_out, next_out}
use Rattle.theory_text.proofs.GraphItems.{head, Good, defined_cons, kinds_of, Lawful, expected_lawful}
use Rattle.theory_text.proofs.Binary.{binary-parts, binary_lawful}

-- the AND of a line
abbrev pub and_of : Item → And
and_of i = record { var = head i; left = get_or i.literals 1 0; right = get_or i.literals 2 0 }

-- ---- the layout of the lines

abbrev ins : List Item → List ℕ
ins is = map head (keep (is_kind an_input) is)

abbrev ans : List Item → List ℕ
ans is = map head (keep (is_kind an_and) is)

pub keep_of : (k j : Kind) (i : Item) (is : List Item) → i.kind ≡ j → keep (is_kind k) (i ∷ is) ≡ cond (same_kind k j) (i ∷ keep (is_kind k) is) (keep (is_kind k) is)
unfolding keep is_kind
keep_of k j i is e = ap (λ (t : Kind). cond (same_kind k t) (i ∷ keep (is_kind k) is) (keep (is_kind k) is)) e

defined_of : (j : Kind) (i : Item) (is : List Item) → i.kind ≡ j → defined_by (i ∷ is) ≡ cond (defines j) (head i ∷ defined_by is) (defined_by is)
defined_of j i is e = defined_cons (defines j) i is (ap defines e)

-- only ANDs are left
of_ands_lem : (a : ℕ) (is : List Item) → kinds_of is ≡ replicate a an_and → (ins is ≡ []) × (ans is ≡ defined_by is)
unfolding defined_by keep same_kind defines
of_ands_lem zero [] e = (refl, refl)
of_ands_lem zero (i ∷ is) e = absurd (cons≢nil e)
of_ands_lem (suc a) [] e = absurd (nil≢cons e)
of_ands_lem (suc a) (i ∷ is) e =
    let k : i.kind ≡ an_and = head-eq_of_cons-eq e in
    let r = of_ands_lem a is (tail-eq_of_cons-eq e) in (
      ap (map head) (keep_of an_input an_and i is k) ∙ r.0,
      ap (map head) (keep_of an_and an_and i is k) ∙ ap (λ (xs : List ℕ). head i ∷ xs) r.1 ∙ sym (defined_of an_and i is k),
    )

-- outputs are left, and then ANDs
of_outputs_lem : (o a : ℕ) (is : List Item) → kinds_of is ≡ replicate o an_output ++ replicate a an_and → (ins is ≡ []) × (ans is ≡ defined_by is)
unfolding defined_by keep same_kind defines
of_outputs_lem zero a is e = of_ands_lem a is e
of_outputs_lem (suc o) a [] e = absurd (nil≢cons e)
of_outputs_lem (suc o) a (i ∷ is) e =
    let k : i.kind ≡ an_output = head-eq_of_cons-eq e in
    let r = of_outputs_lem o a is (tail-eq_of_cons-eq e) in (
      ap (map head) (keep_of an_input an_output i is k) ∙ r.0,
      ap (map head) (keep_of an_and an_output i is k) ∙ r.1 ∙ sym (defined_of an_output i is k),
    )

-- the inputs' and the ANDs' variables, in this order, are those that the lines define
of_all : (n o a : ℕ) (is : List Item) → kinds_of is ≡ replicate n an_input ++ (replicate o an_output ++ replicate a an_and) → ins is ++ ans is ≡ defined_by is
unfolding defined_by keep same_kind defines
of_all zero o a is e = let r = of_outputs_lem o a is e in ap (λ (xs : List ℕ). xs ++ ans is) r.0 ∙ r.1
of_all (suc n) o a [] e = absurd (nil≢cons e)
of_all (suc n) o a (i ∷ is) e =
    let k : i.kind ≡ an_input = head-eq_of_cons-eq e in
    cc (keep_of an_input an_input i is k, keep_of an_and an_input i is k, of_all n o a is (tail-eq_of_cons-eq e), defined_of an_input i is k)

-- ---- uses

pub uses_out : (known : List ℕ) (is js : List Item) → check_uses known is ≡ holds js
    → (is ≡ js) × ((i : Item) → Memᴰ i is → T (all (λ (l : ℕ). elem (var_of l) (0 ∷ known)) (uses i)))
unfolding check_uses
uses_out known [] js e = (holds-once e, (λ i m. absurd (Memᴰ-not-nil m)))
uses_out known (i ∷ is) js e =
    let a = unless_out (all (λ (l : ℕ). elem (var_of l) (0 ∷ known)) (uses i)) 14 i.offset
    (next (check_uses known is) (λ ks. holds (i ∷ ks))) js e in
    let b = next_out (check_uses known is) (λ ks. holds (i ∷ ks)) js a.1 in
    let r = uses_out known is b.0 b.1 in
    (ap (λ (ks : List Item). i ∷ ks) r.0 ∙ holds-once b.2, (λ j m. ⊎_elim (λ q. rw q a.0) (r.1 j) (Memᴰ-cases_cons m)))

pub kind-is : (k j : Kind) → T (same_kind k j) → j ≡ k
unfolding same_kind
kind-is an_input an_input t = refl
kind-is an_input an_output t = absurd t
kind-is an_input an_and t = absurd t
kind-is an_output an_input t = absurd t
kind-is an_output an_output t = refl
kind-is an_output an_and t = absurd t
kind-is an_and an_input t = absurd t
kind-is an_and an_output t = absurd t
kind-is an_and an_and t = refl

pub once-distinct : (xs : List ℕ) → Distinct xs → T (distinct xs)
unfolding distinct
once-distinct [] h = tt
once-distinct (x ∷ xs) h =
    yes_and (not (elem x xs)) (distinct xs) (not_T (elem x xs) (λ t. h.0 (elem_out x xs (is_true (elem x xs) t)))) (once-distinct xs h.1)

-- a line's literal after those that it defines is one that it uses
use_in : (i : Item) (k : Kind) → i.kind ≡ k → length i.literals ≡ how_many k → (n : ℕ) → n < how_many k → (defines k ≡ true → 0 < n) → Memᴰ (get_or i.literals n 0) (uses i)
unfolding uses
use_in i k e h n b later = rw e (go (defines k) i.literals (omega arith) later n b)
  where
    go : (d : Bool) (ns : List ℕ) → n < length ns → (d ≡ true → 0 < n) → (m : ℕ) → m < how_many k → Memᴰ (get_or ns n 0) (cond d (drop 1 ns) ns)
    go true ns q z m r = by_list ns (λ e. rw e (absurd (not-suc-le-zero (rw e at q)))) (λ x xs p. rw p (by_nat n
        (λ w. rw w (absurd (not-suc-le-zero (rw w at (z refl))))) (λ u v. rw v (get_or_in xs u 0 (le_of_suc-le-suc (rw v at (rw p at q)))))))
    go false ns q z m r = get_or_in ns n 0 q

-- ---- the graph

-- what is known of a graph that is read, whether or not its ANDs can be ordered: every variable is defined once, none is 0, all are in range, and what
-- is used is defined
pub record Known (g : Graph) : Type 0 where
  pub once : Distinct (0 ∷ g.inputs ++ and_vars g)
  pub in_range : (v : ℕ) → Memᴰ v (g.inputs ++ and_vars g) → v ≤ g.size
  pub used : (l : ℕ) → Memᴰ l (g.outputs ++ each (λ (a : And). a.left ∷ a.right ∷ []) g.ands) → Memᴰ (var_of l) (0 ∷ g.inputs ++ and_vars g)

known-accepted : (g : Graph) → Known g → unordered g ≡ [] → Accepted g
known-accepted g k p = record {
  defined = once-distinct (0 ∷ g.inputs ++ and_vars g) k.once;
  in_range = all_in (λ (v : ℕ). leb v g.size) (g.inputs ++ and_vars g) (λ x m. le→leb x g.size (k.in_range x m));
  used = k.used;
  ordered = p;
}

module _ (h : Header) (is : List Item) (lawful : Lawful h is)
    (used : (i : Item) → Memᴰ i is → T (all (λ (l : ℕ). elem (var_of l) (0 ∷ defined_by is)) (uses i))) where
  abbrev whole : Graph
  whole = graph_of h.size is

  vars : whole.inputs ++ and_vars whole ≡ defined_by is
  unfolding graph_of expected
  vars = cc (map-map (λ (a : And). a.var) and_of (keep (is_kind an_and) is), of_all h.inputs h.outputs h.ands is lawful.kinds)

  -- a literal that a line of kind k has at place n is of a variable that is defined, or 0
  known : (k : Kind) (i : Item) → Memᴰ i (keep (is_kind k) is) → (n : ℕ) → n < how_many k → (defines k ≡ true → 0 < n)
      → Memᴰ (var_of (get_or i.literals n 0)) (0 ∷ whole.inputs ++ and_vars whole)
  unfolding is_kind
  known k i m n b later =
      let o = keep_out (is_kind k) is m in
      let e : i.kind ≡ k = kind-is k i.kind o.1 in
      rw vars (elem_out (var_of (get_or i.literals n 0)) (0 ∷ defined_by is)
      (is_true (elem (var_of (get_or i.literals n 0)) (0 ∷ defined_by is)) (all_of (λ (l : ℕ). elem (var_of l) (0 ∷ defined_by is)) (uses i)
      (used i o.0) (get_or i.literals n 0) (use_in i k e ((lawful.good i o.0).long ∙ ap how_many e) n b later))))

  graph-is-known : Known whole
  unfolding graph_of how_many defines
  graph-is-known = record {
    once = subst (λ (xs : List ℕ). Distinct (0 ∷ xs)) (sym vars) ((λ m. (lawful.fresh 0 m).nonzero refl), lawful.once);
    in_range = λ v m. (lawful.fresh v (subst (λ (xs : List ℕ). Memᴰ v xs) vars m)).small;
    used = λ l m. (⊎_elim (λ q. let q = map_out (λ (i : Item). get_or i.literals 0 0) (keep (is_kind an_output) is) q in Memᴰ-cast
        (ap var_of q.2) (known an_output q.0 q.1 0 (lit< tt) (λ e. absurd (false≢true e))))
        (λ e. of_and_lem l (each_out (λ (a : And). a.left ∷ a.right ∷ []) whole.ands e)) (Memᴰ-append_cases whole.outputs m));
  }
    where
      of_and_lem : (l : ℕ) → (a : And) × Memᴰ a whole.ands × Memᴰ l (a.left ∷ a.right ∷ []) → Memᴰ (var_of l) (0 ∷ whole.inputs ++ and_vars whole)
      of_and_lem l o =
          let q = map_out and_of (keep (is_kind an_and) is) o.1 in
          by_member (rw q.2 at o.2) (λ e. Memᴰ-cast (ap var_of e) (known an_and q.0 q.1 1 (lit< tt) (λ e. lit< tt)))
          (λ n. Memᴰ-cast (ap var_of (Memᴰ-eq_of_singleton n)) (known an_and q.0 q.1 2 (lit< tt) (λ e. lit< tt)))

-- ---- how many lines there are of each kind

keep-replicate : (p : Kind → Bool) (n : ℕ) (k : Kind) → length (keep p (replicate n k)) ≡ cond (p k) n 0
unfolding keep
keep-replicate p zero k = by_bool (p k) (λ e. cc) (λ q. cc)
keep-replicate p (suc n) k = by_bool (p k) (λ e. rw e (ap suc (rw e at (keep-replicate p n k))))
    (λ q. rw q (rw q at (keep-replicate p n k)))

count-kinds : (k : Kind) (is : List Item) → length (keep (is_kind k) is) ≡ length (keep (same_kind k) (kinds_of is))
unfolding keep is_kind
count-kinds k [] = refl
count-kinds k (i ∷ is) = by_bool (same_kind k i.kind) (λ e. cc (count-kinds k is)) (λ q. cc (count-kinds k is))

count-expected : (k : Kind) (h : Header) (is : List Item) → Lawful h is
    → length (keep (is_kind k) is) ≡ cond (same_kind k an_input) h.inputs 0 + (cond (same_kind k an_output) h.outputs 0 + cond (same_kind k an_and) h.ands 0)
unfolding expected
count-expected k h is e = count-kinds k is ∙ ap (λ (ks : List Kind). length (keep (same_kind k) ks)) e.kinds
    ∙ both (replicate h.inputs an_input) (replicate h.outputs an_output ++ replicate h.ands an_and)
    ∙ ap₂ ◌+◌ (keep-replicate (same_kind k) h.inputs an_input) (both (replicate h.outputs an_output) (replicate h.ands an_and)
    ∙ ap₂ ◌+◌ (keep-replicate (same_kind k) h.outputs an_output) (keep-replicate (same_kind k) h.ands an_and))
  where
    both : (xs ys : List Kind) → length (keep (same_kind k) (xs ++ ys)) ≡ length (keep (same_kind k) xs) + length (keep (same_kind k) ys)
    both xs ys = ap length (keep_append (same_kind k) xs ys) ∙ length-append (keep (same_kind k) xs) (keep (same_kind k) ys)

-- a literal of a line is at most 2M+1
low-literal : (size : ℕ) (i : Item) → Good size i → (n : ℕ) → n < how_many i.kind → get_or i.literals n 0 ≤ 2 * size + 1
low-literal size i good n h = leb→le (get_or i.literals n 0) (2 * size + 1) (all_of (λ (m : ℕ). leb m (2 * size + 1)) i.literals
    good.low (get_or i.literals n 0) (get_or_in i.literals n 0 (omega (arith, good.long))))

-- ---- the header

-- a header that is read has no latches, and is in the limits; a binary one's M is I + A
pub record HeaderFits (h : Header) : Type 0 where
  pub latches : h.latches ≡ 0
  pub size : h.size ≤ 4095
  pub outputs : h.outputs ≤ 4096
  pub variables : h.inputs + h.ands ≤ h.size
  pub sequence : h.binary ≡ true → h.size ≡ h.inputs + h.ands

pub header-fits : (bytes : List ℕ) (h : Header) → read_header bytes ≡ holds h → HeaderFits h
unfolding read_header in_limits in_sequence
header-fits bytes h e =
    let a = next_out (from? (header_of (lines_from 0 [] bytes)) 7 0) _ h e in
    let b = unless_out (eqb a.0.latches 0) 8 0 _ h a.2 in
    let c = unless_out (in_limits a.0) 9 0 _ h b.1 in
    let d = unless_out (in_sequence a.0) 19 0 (holds a.0) h c.1 in
    let p = and_yes (leb a.0.size 4095) (leb a.0.outputs 4096 && leb (a.0.inputs + a.0.ands) a.0.size) c.0 in
    let q = and_yes (leb a.0.outputs 4096) (leb (a.0.inputs + a.0.ands) a.0.size) p.1 in
    subst HeaderFits (holds-once d.1) (record {
      latches = eqb_yes b.0;
      size = leb_yes p.0;
      outputs = leb_yes q.0;
      variables = leb_yes q.1;
      sequence = λ f. eqb_yes (subst (λ (x : Bool). T (not x || eqb a.0.size (a.0.inputs + a.0.ands))) f d.0);
    })

-- ---- the text

-- the lines of a graph that is read
record Lines (bytes : List ℕ) (h : Header) (g : Graph) : Type 0 where
  items : List Item
  is_lawful : Lawful h items
  is_used : (i : Item) → Memᴰ i items → T (all (λ (l : ℕ). elem (var_of l) (0 ∷ defined_by items)) (uses i))
  is_graph : graph_of h.size items ≡ g

-- lines are lawful in either form
items_lawful : (bytes : List ℕ) (h : Header) (is : List Item) → h.inputs + h.ands ≤ h.size → read_items bytes h ≡ holds is → Lawful h is
unfolding read_items
items_lawful bytes h is fit e = by_bool h.binary (λ q. binary_lawful bytes h is (binary-parts bytes h is (rw q at e)) fit)
    (λ p. expected_lawful (closed false) (length bytes) h (lines_from h.next [] (drop h.next bytes)) is (rw p at e))

graph-lines : (bytes : List ℕ) (h : Header) (g : Graph) → read_header bytes ≡ holds h → read_graph bytes h ≡ holds g → Lines bytes h g
unfolding read_graph
graph-lines bytes h g d e =
    let a = next_out (read_items bytes h) (λ is. next (check_uses (defined_by is) is) (λ js. holds (graph_of h.size js))) g e in
    let b = next_out (check_uses (defined_by a.0) a.0) (λ js. holds (graph_of h.size js)) g a.2 in
    let u = uses_out (defined_by a.0) a.0 b.0 b.1 in
    record {
      items = a.0;
      is_lawful = items_lawful bytes h a.0 (header-fits bytes h d).variables a.1;
      is_used = u.1;
      is_graph = ap (graph_of h.size) u.0 ∙ holds-once b.2;
    }

pub graph-known : (bytes : List ℕ) (h : Header) (g : Graph) → read_header bytes ≡ holds h → read_graph bytes h ≡ holds g → Known g
graph-known bytes h g d e = let s = graph-lines bytes h g d e in subst Known s.is_graph (graph-is-known h s.items s.is_lawful s.is_used)

-- a graph text that is read gives, if all its ANDs can be ordered, an accepted graph
pub graph-accepted : (bytes : List ℕ) (h : Header) (g : Graph) → read_header bytes ≡ holds h → read_graph bytes h ≡ holds g → unordered g ≡ [] → Accepted g
graph-accepted bytes h g d e p = known-accepted g (graph-known bytes h g d e) p

-- a graph has the numbers of its header
pub record Counted (h : Header) (g : Graph) : Type 0 where
  pub size : g.size ≡ h.size
  pub inputs : length g.inputs ≡ h.inputs
  pub outputs : length g.outputs ≡ h.outputs
  pub ands : length g.ands ≡ h.ands

pub graph-counted : (bytes : List ℕ) (h : Header) (g : Graph) → read_header bytes ≡ holds h → read_graph bytes h ≡ holds g → Counted h g
unfolding graph_of same_kind
graph-counted bytes h g d e =
    let s = graph-lines bytes h g d e in
    subst (Counted h) s.is_graph (record {
      size = refl;
      inputs = length-map (keep (is_kind an_input) s.items) head ∙ (let q = count-expected an_input h s.items s.is_lawful in omega (arith, q));
      outputs = length-map (keep (is_kind an_output) s.items) (λ (i : Item). get_or i.literals 0 0) ∙ (let q = count-expected an_output h s.items s.is_lawful in omega (arith, q));
      ands = length-map (keep (is_kind an_and) s.items) and_of
          ∙ (let q = count-expected an_and h s.items s.is_lawful in omega (arith, q));
    })

-- a graph's text says nothing of arrivals: every input arrives at 0
pub graph-untimed : (bytes : List ℕ) (h : Header) (g : Graph) → read_graph bytes h ≡ holds g → (λ (v : ℕ). 0) ≡ g.input_arrival
unfolding read_graph graph_of
graph-untimed bytes h g e =
    let a = next_out (read_items bytes h) (λ is. next (check_uses (defined_by is) is) (λ js. holds (graph_of h.size js))) g e in
    let b = next_out (check_uses (defined_by a.0) a.0) (λ js. holds (graph_of h.size js)) g a.2 in
    ap (λ (x : Graph). x.input_arrival) (holds-once b.2)

pub graph-low : (bytes : List ℕ) (h : Header) (g : Graph) → read_header bytes ≡ holds h → read_graph bytes h ≡ holds g → LowLiterals g
unfolding graph_of how_many
graph-low bytes h g d e =
    let s = graph-lines bytes h g d e in
    let low : (k : Kind) (i : Item) → Memᴰ i (keep (is_kind k) s.items) → (n : ℕ) → n < how_many k → get_or
    i.literals n 0 ≤ 2 * h.size + 1 = λ k i m n b. let o = keep_out (is_kind k) s.items m in low-literal h.size i
    (s.is_lawful.good i o.0) n (rw (kind-is k i.kind o.1) b) in
    rw (← s.is_graph) (record {
      outputs = λ l m. let q = map_out (λ (i : Item). get_or i.literals 0 0) (keep (is_kind an_output) s.items) m in rw q.2
          (low an_output q.0 q.1 0 (lit< tt));
      lefts = λ a m. let q = map_out and_of (keep (is_kind an_and) s.items) m in rw q.2 (low an_and q.0 q.1 1 (lit< tt));
      rights = λ a m. let q = map_out and_of (keep (is_kind an_and) s.items) m in rw q.2 (low an_and q.0 q.1 2 (lit< tt));
    })

pub graph-fits : (bytes : List ℕ) (h : Header) (g : Graph) → read_header bytes ≡ holds h → read_graph bytes h ≡ holds g → GraphFits g
graph-fits bytes h g d e =
    let f = header-fits bytes h d in
    let c = graph-counted bytes h g d e in
    record {
      size = omega (arith, f.size, c.size);
      outputs = omega (arith, f.outputs, c.outputs);
      variables = omega (arith, f.variables, c.size, c.inputs, c.ands);
      low = graph-low bytes h g d e;
    }
