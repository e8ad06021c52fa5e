-- The topological order has no number twice, if the graph is accepted.
use Rattle.base.specs.{ℕ, zero, suc, ◌≤◌, arith, ◌≡◌, refl, sym, ◌∙◌, subst, ◌⊎◌, inl, inr, ⊎_elim, Bool, not, ◌&&◌, Option, None, Some}
use Rattle.base.specs.{List, [], ◌∷◌, ◌++◌, map, Memᴰ, Memᴰ-head, Memᴰ-tail, Memᴰ-not-nil, Memᴰ-append_cases}
use Rattle.base.specs.{Memᴰ-append_left, Memᴰ-append_right, Memᴰ-cast, T, leb, leb→le, T_not, length, and_yes}
use Rattle.model.specs.{elem, keep, lowest, And, ready, and_on, order_from, topological_order, unordered, var_of, and_vars, Distinct}
use Rattle.model.specs.Graph.{Graph}
use Rattle.theory_graph.proofs.Distinct.{append_distinct}
use Rattle.theory_graph.specs.AcceptedGraph.{Accepted}
use Rattle.theory_graph.specs.{distinct}
use Rattle.theory_graph.proofs.ListLaws.{map_in, map_out, keep_in, keep_out, elem-T, elem_out, lowest_in_lem, all_of}
use Rattle.theory_graph.proofs.ListSplits.{by_option, by_bool}

-- the AND that is ordered next is not ordered yet
pub next_new : (ands : List And) (ordered : List ℕ) (v : ℕ) → lowest (map (λ (a : And). a.var) (keep (ready ordered) ands)) ≡ Some v → ¬ Memᴰ v ordered
unfolding ready
next_new ands ordered v e m =
    let at = map_out (λ (a : And). a.var) (keep (ready ordered) ands) (lowest_in_lem (map (λ (a : And). a.var) (keep (ready ordered) ands)) v e) in
    let r = (keep_out (ready ordered) ands at.1).1 in
    T_not (elem at.0.var ordered)
    (and_yes (not (elem at.0.var ordered)) (elem (var_of at.0.left) ordered && elem (var_of at.0.right) ordered) r).0
    (elem-T at.0.var ordered (Memᴰ-cast (sym at.2) m))

-- what is ordered later is not ordered yet
ordered_new : (fuel : ℕ) (ands : List And) (ordered : List ℕ) (x : ℕ) → Memᴰ x (order_from fuel ands ordered) → ¬ Memᴰ x ordered
unfolding order_from and_on
ordered_new zero ands ordered x m = absurd (Memᴰ-not-nil m)
ordered_new (suc fuel) ands ordered x m =
    go (lowest (map (λ (a : And). a.var) (keep (ready ordered) ands))) (next_new ands ordered) m (λ v. ordered_new fuel ands (v ∷ ordered) x)
  where
    go : (o : Option ℕ) → ((v : ℕ) → o ≡ Some v → ¬ Memᴰ v ordered) → Memᴰ x (and_on o (λ v. order_from fuel ands (v ∷ ordered)))
        → ((v : ℕ) → Memᴰ x (order_from fuel ands (v ∷ ordered)) → ¬ Memᴰ x (v ∷ ordered)) → ¬ Memᴰ x ordered
    go None new n later = absurd (Memᴰ-not-nil n)
    go (Some v) new (Memᴰ-head e) later = λ k. new v refl (Memᴰ-cast (sym e) k)
    go (Some v) new (Memᴰ-tail n) later = λ k. later v n (Memᴰ-tail k)

ordered-once : (fuel : ℕ) (ands : List And) (ordered : List ℕ) → Distinct (order_from fuel ands ordered)
unfolding order_from and_on
ordered-once zero ands ordered = tt
ordered-once (suc fuel) ands ordered = by_option (lowest (map (λ (a : And). a.var) (keep (ready ordered) ands))) (λ e. rw e tt)
    (λ q p. rw p ((λ m. ordered_new fuel ands (q ∷ ordered) q m (Memᴰ-head refl)), (ordered-once fuel ands (q ∷ ordered))))

pub distinct-once : (xs ys : List ℕ) → T (distinct (xs ++ ys)) → Distinct xs
unfolding distinct
distinct-once [] ys t = tt
distinct-once (x ∷ xs) ys t =
    let p = and_yes (not (elem x (xs ++ ys))) (distinct (xs ++ ys)) t in
    ((λ m. T_not (elem x (xs ++ ys)) p.0 (elem-T x (xs ++ ys) (Memᴰ-append_left ys m))), distinct-once xs ys p.1)

-- an accepted graph's order has no number twice
pub order-once : (g : Graph) → Accepted g → Distinct (topological_order g)
unfolding topological_order
order-once g h = append_distinct (0 ∷ g.inputs) (order_from (length g.ands) g.ands (0 ∷ g.inputs))
    (distinct-once (0 ∷ g.inputs) (map (λ (a : And). a.var) g.ands) h.defined)
    (ordered-once (length g.ands) g.ands (0 ∷ g.inputs)) (λ x a b. ordered_new (length g.ands) g.ands (0 ∷ g.inputs) x b a)

-- what is ordered after the inputs is an AND
pub ordered-and : (fuel : ℕ) (ands : List And) (ordered : List ℕ) (x : ℕ) → Memᴰ x (order_from fuel ands ordered) → Memᴰ x (map (λ (a : And). a.var) ands)
unfolding order_from and_on
ordered-and zero ands ordered x m = absurd (Memᴰ-not-nil m)
ordered-and (suc fuel) ands ordered x m =
    go (lowest (map (λ (a : And). a.var) (keep (ready ordered) ands))) (lowest_in_lem (map (λ (a : And). a.var) (keep (ready ordered) ands))) m (λ v. ordered-and fuel ands (v ∷ ordered) x)
  where
    go : (o : Option ℕ) → ((v : ℕ) → o ≡ Some v → Memᴰ v (map (λ (a : And). a.var) (keep (ready ordered) ands))) → Memᴰ x (and_on o (λ v. order_from fuel ands (v ∷ ordered)))
        → ((v : ℕ) → Memᴰ x (order_from fuel ands (v ∷ ordered)) → Memᴰ x (map (λ (a : And). a.var) ands)) → Memᴰ x (map (λ (a : And). a.var) ands)
    go None h n later = absurd (Memᴰ-not-nil n)
    go (Some v) h (Memᴰ-head s) later =
        let o = map_out (λ (a : And). a.var) (keep (ready ordered) ands) (h v refl) in
        Memᴰ-cast (s ∙ o.2) (map_in (λ (a : And). a.var) (keep_out (ready ordered) ands o.1).0)
    go (Some v) h (Memᴰ-tail n) later = later v n

-- an ordered variable is at most M
pub order_small : (g : Graph) → Accepted g → (v : ℕ) → Memᴰ v (topological_order g) → v ≤ g.size
unfolding topological_order
order_small g ok v (Memᴰ-head e) = omega arith
order_small g ok v (Memᴰ-tail m) =
    let vars = and_vars g in
    let within : Memᴰ v (g.inputs ++ vars) → v ≤ g.size = λ n. leb→le v g.size
    (all_of (λ (u : ℕ). leb u g.size) (g.inputs ++ vars) ok.in_range v n) in
    ⊎_elim (λ n. within (Memᴰ-append_left vars n))
    (λ q. within (Memᴰ-append_right g.inputs (ordered-and (length g.ands) g.ands (0 ∷ g.inputs) v q)))
    (Memᴰ-append_cases g.inputs m)

-- what is defined is ordered
pub defined-ordered : (g : Graph) → Accepted g → (u : ℕ) → Memᴰ u (0 ∷ g.inputs ++ and_vars g) → Memᴰ u (topological_order g)
unfolding topological_order unordered
defined-ordered g ok u (Memᴰ-head e) = Memᴰ-head e
defined-ordered g ok u (Memᴰ-tail m) = go (Memᴰ-append_cases g.inputs m)
  where
    later : List ℕ
    later = order_from (length g.ands) g.ands (0 ∷ g.inputs)

    all : List ℕ
    all = 0 ∷ g.inputs ++ later

    go : Memᴰ u g.inputs ⊎ Memᴰ u (and_vars g) → Memᴰ u all
    go (inl n) = Memᴰ-tail (Memᴰ-append_left later n)
    go (inr n) = by_bool (elem u all) (λ e. elem_out u all e) (λ q. absurd (Memᴰ-not-nil (subst (λ (xs : List ℕ). Memᴰ u xs)
        ok.ordered (keep_in (λ (v : ℕ). not (elem v all)) n (subst (λ (b : Bool). T (not b)) (sym q) tt)))))
