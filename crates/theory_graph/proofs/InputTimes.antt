-- A graph whose inputs are timed is the same graph in everything but their arrivals, and each input arrives as is listed for its place in the file.
use Rattle.base.specs.{ℕ, zero, suc, ◌<◌, not-suc-le-zero, le_of_suc-le-suc, ◌≡◌, refl, sym, ◌∙◌, ap, subst, Bool, cond, List, [], ◌∷◌, map}
use Rattle.base.specs.{Memᴰ, Memᴰ-head, Memᴰ-tail, Memᴰ-cast, eqb, eqb_refl, length, get_or, no_eqb}
use Rattle.model.specs.Graph.{Graph}
use Rattle.model.specs.{node, topological_order, unordered, GraphValues, cuts_of, InputArrival, input_arrival_of, timed_by, Distinct, Lists, ListedFor}
use Rattle.theory_graph.specs.AcceptedGraph.{Accepted}
use Rattle.theory_graph.proofs.ListLaws.{is_true, is_false, get_or_in, map_in}

-- ---- what stays

module _ (g : Graph) (es : List InputArrival) where
  pub timed-node : (v : ℕ) → node (timed_by g es) v ≡ node g v
  unfolding timed_by node
  timed-node v = refl

  pub timed-order : topological_order (timed_by g es) ≡ topological_order g
  unfolding timed_by topological_order
  timed-order = refl

  pub timed-unordered : unordered (timed_by g es) ≡ unordered g
  unfolding timed_by unordered topological_order
  timed-unordered = refl

  pub timed-cuts : (v : ℕ) → cuts_of (timed_by g es) v ≡ cuts_of g v
  unfolding timed_by cuts_of topological_order node
  timed-cuts v = refl

  pub timed-values : (assignment w : ℕ → Bool) → GraphValues g assignment w → GraphValues (timed_by g es) assignment w
  unfolding timed_by
  timed-values assignment w v = record { at_constant = v.at_constant; at_inputs = v.at_inputs; at_ands = v.at_ands }

  pub timed-accepted : Accepted g → Accepted (timed_by g es)
  unfolding timed_by unordered topological_order
  timed-accepted a = record { defined = a.defined; in_range = a.in_range; used = a.used; ordered = a.ordered }

-- "or empty for none": a graph whose inputs arrive at 0 stays as it is
pub timed-none : (g : Graph) → (λ (v : ℕ). 0) ≡ g.input_arrival → timed_by g [] ≡ g
unfolding timed_by input_arrival_of
timed-none g e = ap (λ (f : ℕ → ℕ). record { size = g.size; inputs = g.inputs; outputs = g.outputs; ands = g.ands; input_arrival = f }) e

-- ---- which input arrives when

-- where no number stands twice, a number has one place
pub place-once : (xs : List ℕ) → Distinct xs → (i j : ℕ) → i < length xs → j < length xs → get_or xs i 0 ≡ get_or xs j 0 → i ≡ j
place-once [] d i j h k e = absurd (not-suc-le-zero h)
place-once (x ∷ xs) d zero zero h k e = refl
place-once (x ∷ xs) d zero (suc j) h k e = absurd (d.0 (Memᴰ-cast e (get_or_in xs j 0 (le_of_suc-le-suc k))))
place-once (x ∷ xs) d (suc i) zero h k e = absurd (d.0 (Memᴰ-cast (sym e) (get_or_in xs i 0 (le_of_suc-le-suc h))))
place-once (x ∷ xs) d (suc i) (suc j) h k e = ap suc (place-once xs d.1 i j (le_of_suc-le-suc h) (le_of_suc-le-suc k) e)

input-arrival-past : (inputs : List ℕ) (e : InputArrival) (es : List InputArrival) (v : ℕ) → ¬ (v ≡ get_or inputs e.index 0) → input_arrival_of inputs (e ∷ es) v ≡ input_arrival_of inputs es v
unfolding input_arrival_of
input-arrival-past inputs e es v h = ap (λ (b : Bool). cond b e.arrival (input_arrival_of inputs es v)) (is_false (eqb v (get_or inputs e.index 0)) (no_eqb h))

module _ (inputs : List ℕ) (once : Distinct inputs) where
  -- the input at a listed index arrives as its line says
  pub input-arrival-listed : (es : List InputArrival) → ((k : ℕ) → Lists es k → k < length inputs) → Distinct (map (λ (e : InputArrival). e.index) es) → (e : InputArrival) → Memᴰ e es
      → input_arrival_of inputs es (get_or inputs e.index 0) ≡ e.arrival
  input-arrival-listed (x ∷ es) inside d e (Memᴰ-head q) = subst (λ (y : InputArrival). input_arrival_of inputs (x ∷ es) (get_or inputs y.index 0) ≡ y.arrival) (sym q) (
      unfold input_arrival_of in cc (is_true (eqb (get_or inputs x.index 0) (get_or inputs x.index 0)) (eqb_refl (get_or inputs x.index 0))))
  input-arrival-listed (x ∷ es) inside d e (Memᴰ-tail m) =
      let i : Lists es e.index = map_in (λ (y : InputArrival). y.index) m in
      input-arrival-past inputs x es (get_or inputs e.index 0)
      (λ q. d.0 (Memᴰ-cast (sym (place-once inputs once e.index x.index (inside e.index (Memᴰ-tail i)) (inside x.index (Memᴰ-head refl)) q)) i))
      ∙ input-arrival-listed es (λ k n. inside k (Memᴰ-tail n)) d.1 e m
  input-arrival-listed [] inside d e x3 = elim x3 [ ]

  -- "Inputs not listed arrive at 0."
  pub input-arrival-others : (es : List InputArrival) → ((k : ℕ) → Lists es k → k < length inputs) → (k : ℕ) → k < length inputs → ¬ Lists es k → input_arrival_of inputs es (get_or inputs k 0) ≡ 0
  unfolding input_arrival_of
  input-arrival-others [] inside k h n = refl
  input-arrival-others (x ∷ es) inside k h n =
      input-arrival-past inputs x es (get_or inputs k 0) (λ q. n (Memᴰ-head (place-once inputs once k x.index h (inside x.index (Memᴰ-head refl)) q)))
      ∙ input-arrival-others es (λ j m. inside j (Memᴰ-tail m)) k h (λ m. n (Memᴰ-tail m))

pub listed_for : (g : Graph) → Distinct g.inputs → (es : List InputArrival) → ((k : ℕ) → Lists es k → k < length g.inputs) → Distinct (map (λ (e : InputArrival). e.index) es)
    → ListedFor (timed_by g es) es
unfolding timed_by
listed_for g once es inside d =
    record { inside = inside; once = d; listed = input-arrival-listed g.inputs once es inside d; others = input-arrival-others g.inputs once es inside }
