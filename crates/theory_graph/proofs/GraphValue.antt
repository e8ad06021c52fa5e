-- AIGER's values as a relation: the graph has values under each assignment, and any values that satisfy its ANDs are these.
use Rattle.base.specs.{ℕ, ◌≡◌, refl, sym, ◌∙◌, ap, ap₂, subst, ⊎_elim, Bool, ◌&&◌, List, [], ◌∷◌, ◌++◌, map, append-nil, Memᴰ}
use Rattle.base.specs.{Memᴰ-head, Memᴰ-tail, Memᴰ-not-nil, Memᴰ-append_cases, Memᴰ-append_right, Memᴰ-cast, T, eqb}
use Rattle.base.specs.{eqb→eq, length}
use Rattle.model.specs.{elem, flip, And, both, find_and, node, topological_order, var_of, negated, literal_value, node_value, value_of, GraphValues}
use Rattle.model.specs.{and_vars, Distinct}
use Rattle.model.specs.Graph.{Graph}
use Rattle.theory_graph.proofs.ListLaws.{map_in, map_out, each_in, elem_out}
use Rattle.theory_graph.proofs.OrderRuns.{along, twice-apart}
use Rattle.theory_graph.specs.AcceptedGraph.{Accepted}
use Rattle.theory_graph.proofs.TopologicalOrder.{distinct-once, order-once, ordered-and, defined-ordered}
use Rattle.theory_graph.proofs.GraphNodes.{node-input}
use Rattle.theory_graph.proofs.RunValues.{ands-once, order-closed, operands_before, Closed, value_of_valuation}
use Rattle.theory_graph.proofs.ListSplits.{by_bool, by_member}

-- the first AND of a variable is its only one
find-listed : (ands : List And) → Distinct (map (λ (a : And). a.var) ands) → (a : And) → Memᴰ a ands → find_and a.var ands ≡ both a.left a.right
unfolding find_and
find-listed (b ∷ bs) once a m = by_bool (eqb a.var b.var) (λ e. cc (by_member m
    (λ q. ap (λ (c : And). both c.left c.right) (sym q))
    (λ n. absurd (once.0 (Memᴰ-cast (sym ((rw e at (eqb→eq a.var b.var)) tt)) (map_in (λ (c : And). c.var) n)))))) (λ p. cc
    (by_member m (λ r. absurd (rw (ap (λ (c : And). eqb a.var c.var) r ∙ p) at (lib.Dec.eqb_refl a.var)))
    (find-listed bs once.1 a)))
find-listed [] once a m = elim m [ ]

module _ (g : Graph) (ok : Accepted g) where
  defined-once : Distinct (0 ∷ g.inputs ++ and_vars g)
  defined-once = distinct-once (0 ∷ g.inputs ++ and_vars g) [] (subst (λ (xs : List ℕ). T (Rattle.theory_graph.specs.AcceptedGraph.distinct xs)) (sym (append-nil (0 ∷ g.inputs ++ and_vars g))) ok.defined)

  -- an AND's variable has its literals
  pub and-node : (a : And) → Memᴰ a g.ands → node g a.var ≡ both a.left a.right
  unfolding node
  and-node a m =
      let is_var = map_in (λ (b : And). b.var) m in
      by_bool (eqb a.var 0)
      (λ e. rw e (absurd (defined-once.0 (Memᴰ-cast (sym ((rw e at (eqb→eq a.var 0)) tt)) (Memᴰ-append_right g.inputs is_var)))))
      (λ q. rw q (by_bool (elem a.var g.inputs)
      (λ e. rw e (absurd (twice-apart g.inputs (and_vars g) a.var defined-once.1 (elem_out a.var g.inputs e) is_var)))
      (λ q. rw q (find-listed g.ands (ands-once g ok) a m))))

  -- the graph has values
  pub values_exist : (assignment : ℕ → Bool) → GraphValues g assignment (value_of g assignment)
  unfolding node_value node
  values_exist assignment = record {
    at_constant = value_of_valuation g ok assignment 0;
    at_inputs = λ v m. value_of_valuation g ok assignment v ∙ ap (node_value assignment (value_of g assignment) v) (node-input g v (order-once g ok) m);
    at_ands = λ a m. value_of_valuation g ok assignment a.var ∙ ap (node_value assignment (value_of g assignment) a.var) (and-node a m);
  }

  -- and only these, at every ordered variable
  pub values-only : (assignment w : ℕ → Bool) → GraphValues g assignment w → (v : ℕ) → Memᴰ v (topological_order g) → w v ≡ value_of g assignment v
  unfolding topological_order literal_value
  values-only assignment w h =
      along (λ v. Memᴰ v (topological_order g) → w v ≡ value_of g assignment v) (topological_order g) (λ u n m. absurd (n m)) step
    where
      known : GraphValues g assignment (value_of g assignment)
      known = values_exist assignment

      operand : (a : And) → Memᴰ a g.ands → (l : ℕ) → Memᴰ l (a.left ∷ a.right ∷ []) → Memᴰ (var_of l) (topological_order g)
      operand a m l i = defined-ordered g ok (var_of l) (ok.used l (Memᴰ-append_right g.outputs (each_in (λ (b : And). b.left ∷ b.right ∷ []) m i)))

      step : (pre : List ℕ) (v : ℕ) (post : List ℕ) → topological_order g ≡ pre ++ (v ∷ post)
          → ((u : ℕ) → ¬ Memᴰ u (v ∷ post) → Memᴰ u (topological_order g) → w u ≡ value_of g assignment u) → Memᴰ v (topological_order g) → w v ≡ value_of g assignment v
      step pre v post e ih (Memᴰ-head q) = ap w q ∙ h.at_constant ∙ sym known.at_constant ∙ sym (ap (value_of g assignment) q)
      step pre v post e ih (Memᴰ-tail m) =
          let of_and : (a : And) → Memᴰ a g.ands → v ≡ a.var
          → w v ≡ value_of g assignment v = λ a i q. let o = operands_before g ok pre v post [] (subst (Closed g []) e (order-closed g ok))
          (subst Distinct e (order-once g ok)) (λ x n. absurd (Memᴰ-not-nil n)) a.left a.right (ap (node g) q ∙ and-node a i) in
          ap w q ∙ h.at_ands a i ∙ ap₂ (λ (x y : Bool). flip (negated a.left) x && flip (negated a.right) y)
          (ih (var_of a.left) o.0 (operand a i a.left (Memᴰ-head refl)))
          (ih (var_of a.right) o.1 (operand a i a.right (Memᴰ-tail (Memᴰ-head refl)))) ∙ sym (known.at_ands a i)
          ∙ sym (ap (value_of g assignment) q) in
          ⊎_elim (λ n. h.at_inputs v n ∙ sym (known.at_inputs v n)) (λ q. let o = map_out
          (λ (a : And). a.var) g.ands (ordered-and (length g.ands) g.ands (0 ∷ g.inputs) v q) in of_and o.0 o.1 o.2)
          (Memᴰ-append_cases g.inputs m)
