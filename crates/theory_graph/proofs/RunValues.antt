-- The values that `values` finds in topological order are those that AIGER's equations ask for, in an accepted graph.
use Rattle.base.specs.{ℕ, zero, suc, ◌≡◌, refl, sym, ◌∙◌, ap, ap₂, subst, ◌⊎◌, inl, inr, ⊎_elim, Bool, true, false, not, ◌&&◌, true≢false}
use Rattle.base.specs.{false≢true, Option, None, Some, List, [], ◌∷◌, ◌++◌, map, Memᴰ, Memᴰ-head, Memᴰ-tail}
use Rattle.base.specs.{Memᴰ-not-nil, Memᴰ-cases_cons, Memᴰ-append_left, Memᴰ-cast, T, eqb, eqb→eq, not_T, length, and_yes}
use Rattle.model.specs.{elem, keep, lowest, find, run, flip, And, Node, constant, input, undefined, both, find_and, node, ready, and_on}
use Rattle.model.specs.{order_from, topological_order, unordered, var_of, negated, literal_value, node_value, values, value_of, Distinct}
use Rattle.model.specs.Graph.{Graph}
use Rattle.theory_graph.specs.AcceptedGraph.{Accepted}
use Rattle.theory_graph.specs.{distinct}
use Rattle.theory_graph.proofs.ListLaws.{map_in, map_out, keep_in, keep_out, elem_out, lowest_in_lem, is_true}
use Rattle.theory_graph.proofs.OrderRuns.{no_twice-behind, along, run_stays, run_entry, run-split}
use Rattle.theory_graph.proofs.GraphWalk.{Valuation}
use Rattle.theory_graph.proofs.TopologicalOrder.{distinct-once, order-once}
use Rattle.theory_graph.proofs.GraphNodes.{node-input, input_out}
use Rattle.theory_graph.proofs.ListSplits.{by_bool, by_member}

-- an AND of the list, as its variable's node
pub record Found (ands : List And) (v l r : ℕ) : Type 0 where
  pub line : And
  pub is_line : Memᴰ line ands
  pub is_var : line.var ≡ v
  pub is_left : line.left ≡ l
  pub is_right : line.right ≡ r

is_both : Node → Bool
is_both constant = false
is_both input = false
is_both undefined = false
is_both (both l r) = true

find-and : (v : ℕ) (ands : List And) (l r : ℕ) → find_and v ands ≡ both l r → Found ands v l r
unfolding find_and is_both
find-and v [] l r e = absurd (false≢true (ap is_both e))
find-and v (a ∷ as') l r e = by_bool (eqb v a.var)
    (λ q. record { line = a; is_line = Memᴰ-head refl; is_var = sym ((rw q at (eqb→eq v a.var)) tt); is_left = cc; is_right = cc })
    (λ p. further ((find-and v as' l r) (rw p at e)))
  where
    further : Found as' v l r → Found (a ∷ as') v l r
    further f = record { line = f.line; is_line = Memᴰ-tail f.is_line; is_var = f.is_var; is_left = f.is_left; is_right = f.is_right }

pub node-and : (g : Graph) (v l r : ℕ) → node g v ≡ both l r → Found g.ands v l r
unfolding node is_both
node-and g v l r e = by_bool (eqb v 0) (λ q. absurd (false≢true (ap is_both (rw q at e)))) (λ p. by_bool (elem v g.inputs)
    (λ z. absurd (false≢true (ap is_both (rw z at (rw p at e))))) (λ w. find-and v g.ands l r (rw w at (rw p at e))))

-- two ANDs of one variable are one
pub and-once : (ands : List And) → Distinct (map (λ (a : And). a.var) ands) → (a b : And) → Memᴰ a ands → Memᴰ b ands → a.var ≡ b.var → a ≡ b
and-once (x ∷ xs) h a b (Memᴰ-head p) (Memᴰ-head q) e = p ∙ sym q
and-once (x ∷ xs) h a b (Memᴰ-head p) (Memᴰ-tail n) e =
    absurd (h.0 (Memᴰ-cast (sym (ap (λ (c : And). c.var) p) ∙ e) (map_in (λ (c : And). c.var) n)))
and-once (x ∷ xs) h a b (Memᴰ-tail m) (Memᴰ-head q) e =
    absurd (h.0 (Memᴰ-cast (sym (ap (λ (c : And). c.var) q) ∙ sym e) (map_in (λ (c : And). c.var) m)))
and-once (x ∷ xs) h a b (Memᴰ-tail m) (Memᴰ-tail n) e = and-once xs h.1 a b m n e
and-once [] h a b x4 _ e = elim x4 [ ]

-- each AND of a list has its operands before it
pub Closed : Graph → List ℕ → List ℕ → Type 0
Closed g before [] = Unit {0}
Closed g before (v ∷ vs) = ((l r : ℕ) → node g v ≡ both l r → Memᴰ (var_of l) before × Memᴰ (var_of r) before) × Closed g (v ∷ before) vs

module _ (g : Graph) (ok : Accepted g) where
  distinct-behind : (xs ys : List ℕ) → T (distinct (xs ++ ys)) → T (distinct ys)
  unfolding distinct
  distinct-behind [] ys t = t
  distinct-behind (x ∷ xs) ys t = distinct-behind xs ys (and_yes (not (elem x (xs ++ ys))) (distinct (xs ++ ys)) t).1

  pub ands-once : Distinct (map (λ (a : And). a.var) g.ands)
  ands-once =
      distinct-once (map (λ (a : And). a.var) g.ands) [] (rw (mathlib.Core.List.append-nil (map (λ (a : And). a.var) g.ands))
      (distinct-behind (0 ∷ g.inputs) (map (λ (a : And). a.var) g.ands) ok.defined))

  next-closed : (ordered : List ℕ) (v : ℕ) → lowest (map (λ (a : And). a.var) (keep (ready ordered) g.ands)) ≡ Some v → (l r : ℕ) → node g v ≡ both l r
      → Memᴰ (var_of l) ordered × Memᴰ (var_of r) ordered
  unfolding ready
  next-closed ordered v e l r q =
      let at = map_out (λ (a : And). a.var) (keep (ready ordered) g.ands) (lowest_in_lem (map (λ (a : And). a.var) (keep (ready ordered) g.ands)) v e) in
      let k = keep_out (ready ordered) g.ands at.1 in
      let f = node-and g v l r q in
      let s : at.0 ≡ f.line = and-once g.ands ands-once at.0 f.line k.0 f.is_line (sym at.2 ∙ sym f.is_var) in
      let t = and_yes (elem (var_of at.0.left) ordered) (elem (var_of at.0.right) ordered)
      (and_yes (not (elem at.0.var ordered)) (elem (var_of at.0.left) ordered && elem (var_of at.0.right) ordered) k.1).1 in (
        Memᴰ-cast (ap var_of (sym f.is_left ∙ ap (λ (a : And). a.left) (sym s))) (elem_out (var_of at.0.left) ordered (is_true (elem (var_of at.0.left) ordered) t.0)),
        Memᴰ-cast (ap var_of (sym f.is_right ∙ ap (λ (a : And). a.right) (sym s))) (elem_out (var_of at.0.right) ordered (is_true (elem (var_of at.0.right) ordered) t.1)),
      )

  place-closed : (fuel : ℕ) (ordered before : List ℕ) → ((x : ℕ) → Memᴰ x ordered → Memᴰ x before) → Closed g before (order_from fuel g.ands ordered)
  unfolding order_from and_on Closed
  place-closed zero ordered before sub = tt
  place-closed (suc fuel) ordered before sub = go (lowest (map (λ (a : And). a.var) (keep (ready ordered) g.ands))) (next-closed ordered)
      (λ v. place-closed fuel (v ∷ ordered) (v ∷ before) (λ y z. by_member z Memᴰ-head (λ m. Memᴰ-tail (sub y m))))
    where
      go : (o : Option ℕ) → ((v : ℕ) → o ≡ Some v → (l r : ℕ) → node g v ≡ both l r → Memᴰ (var_of l) ordered × Memᴰ (var_of r) ordered)
          → ((v : ℕ) → Closed g (v ∷ before) (order_from fuel g.ands (v ∷ ordered))) → Closed g before (and_on o (λ v. order_from fuel g.ands (v ∷ ordered)))
      go None h later = tt
      go (Some v) h later = ((λ l r q. let p = h v refl l r q in (sub (var_of l) p.0, sub (var_of r) p.1)), later v)

  not-both : (v : ℕ) (k : Node) → node g v ≡ k → is_both k ≡ false → (l r : ℕ) → ¬ (node g v ≡ both l r)
  unfolding is_both
  not-both v k e h l r q = true≢false (sym (ap is_both q) ∙ ap is_both e ∙ h)

  first-not-both : (v : ℕ) → Memᴰ v (0 ∷ g.inputs) → (l r : ℕ) → ¬ (node g v ≡ both l r)
  unfolding node is_both
  first-not-both v (Memᴰ-head e) = not-both v constant (ap (node g) e) refl
  first-not-both v (Memᴰ-tail m) = not-both v input (node-input g v (order-once g ok) m) refl

  closed_append : (xs ys before : List ℕ) → ((x : ℕ) → Memᴰ x xs → (l r : ℕ) → ¬ (node g x ≡ both l r))
      → ((after : List ℕ) → ((x : ℕ) → Memᴰ x xs → Memᴰ x after) → ((x : ℕ) → Memᴰ x before → Memᴰ x after) → Closed g after ys) → Closed g before (xs ++ ys)
  unfolding Closed
  closed_append [] ys before h rest = rest before (λ x m. absurd (Memᴰ-not-nil m)) (λ x m. m)
  closed_append (v ∷ xs) ys before h rest = (
    (λ l r q. absurd (h v (Memᴰ-head refl) l r q)),
    closed_append xs ys (v ∷ before) (λ x m. h x (Memᴰ-tail m))
        (λ after a b. rest after (λ x m. ⊎_elim (λ e. b x (Memᴰ-head e)) (a x) (Memᴰ-cases_cons m)) (λ x m. b x
        (Memᴰ-tail m))),
  )

  pub order-closed : Closed g [] (topological_order g)
  unfolding topological_order
  order-closed = closed_append (0 ∷ g.inputs) (order_from (length g.ands) g.ands (0 ∷ g.inputs)) [] first-not-both
      (λ after a b. place-closed (length g.ands) (0 ∷ g.inputs) after a)

  -- the operands of an ordered AND are ordered before it
  pub operands_before : (pre : List ℕ) (v : ℕ) (post before : List ℕ) → Closed g before (pre ++ (v ∷ post)) → Distinct (pre ++ (v ∷ post))
      → ((x : ℕ) → Memᴰ x before → ¬ Memᴰ x (pre ++ (v ∷ post))) → (l r : ℕ) → node g v ≡ both l r
      → (¬ Memᴰ (var_of l) (v ∷ post)) × (¬ Memᴰ (var_of r) (v ∷ post))
  unfolding Closed
  operands_before [] v post before c once apart l r e = let p = c.0 l r e in (apart (var_of l) p.0, apart (var_of r) p.1)
  operands_before (x ∷ pre) v post before c once apart l r e =
      operands_before pre v post (x ∷ before) c.1 once.1 (λ y m. go y (Memᴰ-cases_cons m)) l r e
    where
      go : (y : ℕ) → (y ≡ x) ⊎ Memᴰ y before → ¬ Memᴰ y (pre ++ (v ∷ post))
      go y (inl q) n = once.0 (Memᴰ-cast (sym q) n)
      go y (inr m) n = apart y m (Memᴰ-tail n)

  module _ (assignment : ℕ → Bool) where
    -- the step of `values`
    abbrev value_step : List (ℕ × Bool) → ℕ → Bool
    value_step known v = node_value assignment (λ u. find false u known) v (node g v)

    -- every AND is ordered
    all-ordered : (u : ℕ) → ¬ Memᴰ u (topological_order g) → (k : Node) → node g u ≡ k → node_value assignment (value_of g assignment) u k ≡ false
    unfolding node_value unordered topological_order
    all-ordered u h constant e = refl
    all-ordered u h input e = absurd (h (Memᴰ-tail (Memᴰ-append_left (order_from (length g.ands) g.ands (0 ∷ g.inputs)) (input_out g u e))))
    all-ordered u h undefined e = refl
    all-ordered u h (both l r) e =
        let f = node-and g u l r e in
        let m : Memᴰ u (map (λ (a : And). a.var) g.ands) = Memᴰ-cast (sym f.is_var) (map_in (λ (a : And). a.var) f.is_line) in
        absurd (Memᴰ-not-nil (subst (λ (xs : List ℕ). Memᴰ u xs) ok.ordered
        (keep_in (λ (v : ℕ). not (elem v (topological_order g))) m (not_T (elem u (topological_order g)) (λ t. h (elem_out u (topological_order g) (is_true (elem u (topological_order g)) t)))))))

    values-known : (pre : List ℕ) (v : ℕ) (post : List ℕ) → topological_order g ≡ pre ++ (v ∷ post) → (x : ℕ) → ¬ Memᴰ x (v ∷ post) → find false x (run value_step pre []) ≡ value_of g assignment x
    unfolding value_of values
    values-known pre v post e x h =
        sym (ap (λ (vs : List ℕ). find false x (run value_step vs [])) e ∙ ap (find false x) (run-split false value_step pre (v ∷ post) []) ∙ run_stays false value_step (v ∷ post) (run value_step pre []) x h)

    values-step : (pre : List ℕ) (v : ℕ) (post : List ℕ) → topological_order g ≡ pre ++ (v ∷ post) → (k : Node) → node g v ≡ k
        → node_value assignment (λ u. find false u (run value_step pre [])) v k ≡ node_value assignment (value_of g assignment) v k
    unfolding node_value literal_value
    values-step pre v post e constant q = refl
    values-step pre v post e input q = refl
    values-step pre v post e undefined q = refl
    values-step pre v post e (both l r) q =
        let o = operands_before pre v post [] (subst (Closed g []) e order-closed) (subst Distinct e (order-once g ok)) (λ x m. absurd (Memᴰ-not-nil m)) l r q in
        ap₂ (λ (a b : Bool). flip (negated l) a && flip (negated r) b) (values-known pre v post e (var_of l) o.0) (values-known pre v post e (var_of r) o.1)

    -- the AIGER values
    pub value_of_valuation : Valuation g assignment (value_of g assignment)
    unfolding value_of values find
    value_of_valuation = along (λ v. value_of g assignment v ≡ node_value assignment (value_of g assignment) v (node g v)) (topological_order g)
        (λ u h. run_stays false value_step (topological_order g) [] u h ∙ sym (all-ordered u h (node g u) refl)) (λ pre v post e ih.
        ap (λ (vs : List ℕ). find false v (run value_step vs [])) e ∙ ap (find false v) (run-split false value_step pre (v ∷ post) [])
        ∙ run_entry false value_step v post (run value_step pre []) (no_twice-behind pre (v ∷ post) (rw (← e) (order-once g ok))).0
        ∙ values-step pre v post e (node g v) refl)
