-- Where each AND's operands are defined and of lower variables, every AND can be ordered.
use Rattle.base.specs.{ℕ, zero, suc, ◌<◌, le_refl, not-suc-le-zero, arith, ◌≡◌, ⊎_elim, [], ◌∷◌, ◌++◌, Memᴰ, Memᴰ-append_cases}
use Rattle.base.specs.{Memᴰ-append_right, Memᴰ-cast}
use Rattle.model.specs.{And, var_of, topological_order, unordered, and_vars}
use Rattle.model.specs.Graph.{Graph}
use Rattle.theory_graph.proofs.{map_out}
use Rattle.theory_order.proofs.OrderSplits.{none_in}
use Rattle.theory_order.proofs.OrderProperties.{ready-ordered, first-ordered, unordered_in}

-- an operand's variable is defined, and lower
pub record Lower (g : Graph) (a : And) (l : ℕ) : Type 0 where
  pub less : var_of l < a.var
  pub defined : Memᴰ (var_of l) (0 ∷ g.inputs ++ and_vars g)

-- "ANDs follow in sequence"
pub record Rising (g : Graph) : Type 0 where
  pub left : (a : And) → Memᴰ a g.ands → Lower g a a.left
  pub right : (a : And) → Memᴰ a g.ands → Lower g a a.right

module _ (g : Graph) (rising : Rising g) where
  -- by the lower variables first
  ordered-below : (n v : ℕ) → v < n → Memᴰ v (0 ∷ g.inputs ++ and_vars g) → Memᴰ v (topological_order g)
  ordered-below zero v h m = absurd (not-suc-le-zero h)
  ordered-below (suc n) v h m = ⊎_elim (first-ordered g) (λ e. let o = map_out (λ (a : And). a.var) g.ands e in let p = rising.left
      o.0 o.1 in let q = rising.right o.0 o.1 in Memᴰ-cast o.2 (ready-ordered g o.0 o.1
      ((ordered-below n (var_of o.0.left) (omega (arith, p.less, o.2))) p.defined)
      ((ordered-below n (var_of o.0.right) (omega (arith, q.less, o.2))) q.defined))) (Memᴰ-append_cases (0 ∷ g.inputs) m)

  -- 15 refuses no such graph
  pub rising-ordered : unordered g ≡ []
  rising-ordered =
      none_in (unordered g) (λ v m. let k = (unordered_in g v).0 m in k.1 (ordered-below (suc v) v (le_refl (suc v)) (Memᴰ-append_right (0 ∷ g.inputs) k.0)))
