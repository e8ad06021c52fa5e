-- A cut's function by the walk as a relation, against the definition that computes it.
--     walk_iff                    the walk of a cut gives a value exactly where the computed one is it
use Rattle.base.specs.{ℕ, suc, ◌+◌, ◌<◌, zero-add, arith, ◌≡◌, refl, sym, ◌∙◌, ap, ap₂, subst, ◌↔◌, Bool, true, false, not, cond, ◌&&◌, Some, List}
use Rattle.base.specs.{[], ◌∷◌, Memᴰ, Memᴰ-head, Memᴰ-tail, Memᴰ-not-nil, T, eqb, eqb→eq, eqb_no}
use Rattle.model.specs.{bit, flip, or_else, And, constant, both, node, find_and, elem, var_of, negated, node_value, literal_value, leaf_bit, walk, Distinct}
use Rattle.model.specs.{IsCut}
use Rattle.model.specs.Graph.{Graph, span}
use Rattle.promises.specs.Covers.{At, first, later, Walk, at_leaf, at_constant, at_and}
use Rattle.theory_graph.specs.AcceptedGraph.{Accepted}
use Rattle.theory_graph.proofs.{Found, node-and, and-node, by_bool, order-once}
use Rattle.theory_graph.proofs.GraphWalk.{Under, leaf, nought, and}
use Rattle.theory_graph.proofs.CutFacts.{cut-under}
use Rattle.theory_order.proofs.{cuts_exactly}
use Rattle.theory_order.proofs.CutRecursion.{cut-ascends}
use Rattle.theory_order.proofs.AscendingCuts.{ascending_once}
use Rattle.theory_relations.proofs.Places.{at_in, at_once}

-- a leaf gives the bit of its number, and what is no leaf what is said of it
by_leaf : (P : Bool → Type 0) (leaves : List ℕ) (i r v : ℕ) (rest : Bool) → ((k : ℕ) → At leaves k v → P (bit r (i + k))) → (¬ Memᴰ v leaves → P rest)
    → P (or_else (leaf_bit leaves i r v) rest)
unfolding or_else leaf_bit
by_leaf P [] i r v rest found other = other Memᴰ-not-nil
by_leaf P (x ∷ xs) i r v rest found other = go (eqb v x) (eqb→eq v x) eqb_no
    (λ n. by_leaf P xs (suc i) r v rest (λ k a. subst (λ (j : ℕ). P (bit r j)) (let e : i + suc k ≡ suc i + k = omega arith in e) (found (suc k) (later a))) (λ h. other (neither n h)))
  where
    neither : ¬ (v ≡ x) → ¬ Memᴰ v xs → ¬ Memᴰ v (x ∷ xs)
    neither a b (Memᴰ-head e) = a e
    neither a b (Memᴰ-tail m) = b m

    go : (t : Bool) → (T t → v ≡ x) → (T (not t) → ¬ (v ≡ x)) → (¬ (v ≡ x) → P (or_else (leaf_bit xs (suc i) r v) rest)) → P (or_else (cond t (Some (bit r i)) (leaf_bit xs (suc i) r v)) rest)
    go true yes' no' behind = subst (λ (j : ℕ). P (bit r j)) (let e : i + 0 ≡ i = omega arith in e) (found 0 (rw (yes' tt) first))
    go false yes' no' behind = behind (no' tt)

found-and : (v : ℕ) (as' : List And) → ¬ (find_and v as' ≡ constant)
unfolding find_and
found-and v [] q = let z : ◌≡◌ {A = ℕ} 0 1 = cc in omega arith
found-and v (a ∷ as') q = by_bool (eqb v a.var) (λ t. let z : ◌≡◌ {A = ℕ} 0 1 = cc in omega arith) (λ f. found-and v as' (rw f at q))

-- variable 0 alone is constant
constant_zero : (g : Graph) (v : ℕ) → node g v ≡ constant → v ≡ 0
unfolding node
constant_zero g v e = by_bool (eqb v 0) (λ q. eqb→eq v 0 (subst T (sym q) tt)) (λ p. absurd (by_bool (elem v g.inputs)
    (λ r. let z : ◌≡◌ {A = ℕ} 0 1 = cc in omega arith) (λ r. found-and v g.ands (rw r at (rw p at e)))))

module _ (g : Graph) (ok : Accepted g) (leaves : List ℕ) (r : ℕ) where
  and-walk : (v l q : ℕ) {x y : Bool} → Found g.ands v l q → ¬ Memᴰ v leaves → Walk g leaves r (var_of l) x → Walk g leaves r (var_of q) y
      → Walk g leaves r v (flip (negated l) x && flip (negated q) y)
  and-walk v l q f h wx wy = rw (← f.is_var, ← f.is_left, ← f.is_right) (at_and f.is_line (rw (← f.is_var) at h) (rw (← f.is_left) at wx) (rw (← f.is_right) at wy))

  -- where each way down ends at a leaf or at variable 0, the walk has the computed value
  walk-holds : (n v : ℕ) → Under g leaves n v → Walk g leaves r v (walk n g leaves r v)
  unfolding walk node_value literal_value
  walk-holds (suc n) v (leaf m) = by_leaf (Walk g leaves r v) leaves 0 r v _ (λ k a. (rw zero-add (at_leaf a))) (λ h. absurd (h m))
  walk-holds (suc n) v (nought e) = by_leaf (Walk g leaves r v) leaves 0 r v _ (λ k a. (rw zero-add (at_leaf a)))
      (λ h. rw e (rw (constant_zero g v e) (at_constant (rw (constant_zero g v e) at h))))
  walk-holds (suc n) v (and {l = l} {r = q} e a b) = by_leaf (Walk g leaves r v) leaves 0 r v _ (λ k at. (rw zero-add (at_leaf at)))
      (λ h. rw e (and-walk v l q (node-and g v l q e) h (walk-holds n (var_of l) a) (walk-holds n (var_of q) b)))
  walk-holds Prim.Native.Nat.zero v x' = elim x' [ ]

  -- and no other
  walk_is : Distinct leaves → {v : ℕ} {b : Bool} → Walk g leaves r v b → (n : ℕ) → Under g leaves n v → walk n g leaves r v ≡ b
  unfolding walk node_value literal_value
  walk_is once {v} (at_leaf {i = i} at) (suc n) u = by_leaf (λ (b : Bool). b ≡ bit r i) leaves 0 r v _ (λ k a. ap (bit r) (zero-add k ∙ at_once once a at)) (λ h. absurd (h (at_in at)))
  walk_is once (at_constant h) (suc n) u = by_leaf (λ (b : Bool). b ≡ false) leaves 0 r 0 _ (λ k a. absurd (h (at_in a))) (λ q. unfold node in refl)
  walk_is once (at_and m h x y) (suc n) (leaf k) = absurd (h k)
  walk_is once (at_and {a = a} m h x y) (suc n) (nought e) = let z : ◌≡◌ {A = ℕ} 0 1 = cc (and-node g ok a m) in absurd (omega arith)
  walk_is once (at_and {a = a} {x = p} {y = q} m h x y) (suc n) (and {l = i} {r = j} e s t) =
      let both_is : both i j ≡ both a.left a.right = sym e ∙ and-node g ok a m in
      let left : i ≡ a.left = cc in
      let right : j ≡ a.right = cc in
      by_leaf (λ (b : Bool). b ≡ (flip (negated a.left) p && flip (negated a.right) q)) leaves 0 r a.var _ (λ k at. absurd (h (at_in at)))
      (λ k. rw (and-node g ok a m) (ap₂ (λ (u w : Bool). flip (negated a.left) u && flip (negated a.right) w)
      (walk_is once x n (subst (λ (l : ℕ). Under g leaves n (var_of l)) left s)) (walk_is once y n (subst (λ (l : ℕ). Under g leaves n (var_of l)) right t))))
  walk_is once (at_leaf {i = i} {v = v} at) Prim.Native.Nat.zero u = elim u [ ]
  walk_is once (at_constant h) Prim.Native.Nat.zero u = elim u [ ]
  walk_is once (at_and {a = a} {x = p} {y = q} m h x y) Prim.Native.Nat.zero u = elim u [ ]

-- "A cut's function": a cut has it, and no other
pub walk_iff : (g : Graph) → Accepted g → (v : ℕ) (c : List ℕ) → IsCut g v c → (r : ℕ) (b : Bool) → Walk g c r v b ↔ (walk (span g) g c r v ≡ b)
walk_iff g ok v c k r b =
    let u = cut-under g (order-once g ok) v c ((cuts_exactly g ok v c).1 k) in (
      (λ w. walk_is g ok c r (ascending_once ◌<◌ (λ x h. omega arith) c (cut-ascends k)) w (span g) u),
      (λ e. subst (Walk g c r v) e (walk-holds g ok c r (span g) v u)),
    )
