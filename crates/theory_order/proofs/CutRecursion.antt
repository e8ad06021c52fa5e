-- The cut sets as document 01 states them, apart from the lists: "The cut set of variable 0 is {∅}; of input i, {{i}}; of AND n, {{n}} and every
-- union of a cut of one operand's variable with a cut of the other's that has at most four members." In an accepted graph each variable's list has
-- just these, each once, in the order that the document names.
--     cuts_exactly                a list holds a set exactly where it is a cut
--     cuts-listed, cuts-once      "Cuts are listed by size, then by ascending leaves compared left to right"; "Equal sets count once."
--     leaves_ascending, leaves-four, leaves-earlier       the leaves of a cut
--     cuts_constant, cuts-input, cuts-and                 the recursion as equations of the lists
use Rattle.base.specs.{ℕ, ◌≤◌, ◌<◌, compare, arith, ◌≡◌, refl, sym, ◌∙◌, ap, subst, subst₂, ◌⊎◌, inl, inr, ◌↔◌, ⊎_elim, List, [], ◌∷◌, ◌++◌}
use Rattle.base.specs.{map, Memᴰ, Memᴰ-head, Memᴰ-tail, Memᴰ-not-nil, Memᴰ-cases_cons, Memᴰ-eq_of_singleton}
use Rattle.base.specs.{Memᴰ-append_cases, Memᴰ-append_left, Memᴰ-append_right, Memᴰ-cast, leb, length, leb_yes, yes_leb, eq-eqb}
use Rattle.base.specs.{ne_eqb}
use Rattle.model.specs.{each, union, find, And, both, find_and, node, topological_order, var_of, and_vars, compare_cuts, unions, node_cuts, cut_lists_of}
use Rattle.model.specs.{cuts_of, Distinct, Ascending, Follows, IsUnion, IsCut, of_constant, of_input, of_and, of_operands}
use Rattle.model.specs.Graph.{Graph}
use Rattle.theory_graph.specs.AcceptedGraph.{Accepted}
use Rattle.theory_graph.proofs.{map_in, map_out, each_in, each_out, keep_in, keep_out, union_left, union_right, union-only, along}
use Rattle.theory_graph.proofs.{twice-apart, run_stays, run-split, order-once, defined-ordered, node-input, and-once, ands-once}
use Rattle.theory_graph.proofs.{compare-found, cut_step, cuts_known, cuts_entry, cuts-none, leaves-before, by_member}
use Rattle.theory_order.proofs.OrderSplits.{by_elem, not-elem, distinct-yes, split_at}
use Rattle.theory_order.proofs.AscendingCuts.{Before, ascending_once, ascending_unique, leaves_ascend, cuts-found, cuts_never}
use Rattle.theory_order.proofs.AscendingCuts.{cuts_ascend}
use Rattle.theory_order.proofs.OrderProperties.{order-step}

-- ---- unions

union-is : (c d : List ℕ) → Ascending ◌<◌ d → IsUnion c d (union compare c d)
union-is c d h = record { ascends = leaves_ascend c d h; has = λ x. (union-only compare x c d, back x) }
  where
    back : (x : ℕ) → Memᴰ x c ⊎ Memᴰ x d → Memᴰ x (union compare c d)
    back x (inl m) = union_left compare compare-found x c d m
    back x (inr m) = union_right compare x c d m

-- a union is one list
is_union_lem : (c d z : List ℕ) → Ascending ◌<◌ d → IsUnion c d z → z ≡ union compare c d
is_union_lem c d z h u = ascending_unique z (union compare c d) u.ascends (union-is c d h).ascends
    (λ x m. ((union-is c d h).has x).1 ((u.has x).0 m)) (λ x m. (u.has x).1 (((union-is c d h).has x).0 m))

-- a union of a cut of each list that has at most four members
record Joined (cs ds : List (List ℕ)) (z : List ℕ) : Type 0 where
  left : List ℕ
  right : List ℕ
  is_left : Memᴰ left cs
  is_right : Memᴰ right ds
  is_union : z ≡ union compare left right
  four : length z ≤ 4

unions_iff : (cs ds : List (List ℕ)) (z : List ℕ) → Memᴰ z (unions cs ds) ↔ Joined cs ds z
unfolding unions
unions_iff cs ds z = (
  (λ m.
      let kept = keep_out (λ (d : List ℕ). leb (length d) 4) (each (λ (c : List ℕ). map (union compare c) ds) cs) m in
      let at = each_out (λ (c : List ℕ). map (union compare c) ds) cs kept.0 in
      let back = map_out (union compare at.0) ds at.2 in
      record { left = at.0; right = back.0; is_left = at.1; is_right = back.1; is_union = back.2; four = leb_yes kept.1 }),
  (λ j.
      keep_in (λ (d : List ℕ). leb (length d) 4)
      (each_in (λ (c : List ℕ). map (union compare c) ds) j.is_left (Memᴰ-cast j.is_union (map_in (union compare j.left) j.is_right)))
      (yes_leb j.four)),
)

-- the list of an AND
abbrev pub and_cuts : ℕ → List (List ℕ) → List (List ℕ) → List (List ℕ)
and_cuts v cs ds = union compare_cuts ((v ∷ []) ∷ unions cs ds) []

and-cuts_iff : (v : ℕ) (cs ds : List (List ℕ)) (z : List ℕ) → Memᴰ z (and_cuts v cs ds) ↔ ((z ≡ v ∷ []) ⊎ Joined cs ds z)
and-cuts_iff v cs ds z = (
  (λ m. ⊎_elim (λ n. ⊎_elim inl (λ q. inr ((unions_iff cs ds z).0 q)) (Memᴰ-cases_cons n)) (λ q. absurd
      (Memᴰ-not-nil q))
      (union-only compare_cuts z ((v ∷ []) ∷ unions cs ds) [] m)),
  (λ x. ⊎_elim (λ e. union_left compare_cuts cuts-found z ((v ∷ []) ∷ unions cs ds) [] (Memᴰ-head e))
      (λ j. union_left compare_cuts cuts-found z ((v ∷ []) ∷ unions cs ds) [] (Memᴰ-tail ((unions_iff cs ds z).1 j))) x),
)

-- ---- the leaves of a cut

pub cut-ascends : {g : Graph} {v : ℕ} {c : List ℕ} → IsCut g v c → Ascending ◌<◌ c
cut-ascends of_constant = tt
cut-ascends (of_input m) = ((λ y n. absurd (Memᴰ-not-nil n)), tt)
cut-ascends (of_and m) = ((λ y n. absurd (Memᴰ-not-nil n)), tt)
cut-ascends (of_operands m l r u h) = u.ascends

pub cut-four : {g : Graph} {v : ℕ} {c : List ℕ} → IsCut g v c → length c ≤ 4
cut-four of_constant = omega arith
cut-four (of_input m) = omega arith
cut-four (of_and m) = omega arith
cut-four (of_operands m l r u h) = h

-- a leaf is an input or an AND
pub cut_leaf : {g : Graph} {v : ℕ} {c : List ℕ} → IsCut g v c → (x : ℕ) → Memᴰ x c → Memᴰ x (g.inputs ++ and_vars g)
cut_leaf of_constant x n = absurd (Memᴰ-not-nil n)
cut_leaf {g} (of_input m) x n = Memᴰ-append_left (and_vars g) (Memᴰ-cast (Memᴰ-eq_of_singleton n) m)
cut_leaf {g} (of_and m) x n = Memᴰ-append_right g.inputs (Memᴰ-cast (Memᴰ-eq_of_singleton n) (map_in (λ (b : And). b.var) m))
cut_leaf {g} (of_operands {c = c} {d = d} m l r u h) x n = go ((u.has x).0 n) (λ k. cut_leaf l x k) (λ k. cut_leaf r x k)
  where
    go : Memᴰ x c ⊎ Memᴰ x d → (Memᴰ x c → Memᴰ x (g.inputs ++ and_vars g)) → (Memᴰ x d → Memᴰ x (g.inputs ++ and_vars g))
        → Memᴰ x (g.inputs ++ and_vars g)
    go (inl k) a b = a k
    go (inr k) a b = b k

-- ---- an AND's node

find-line : (ands : List And) → Distinct (map (λ (b : And). b.var) ands) → (a : And) → Memᴰ a ands → find_and a.var ands ≡ both a.left a.right
unfolding find_and
find-line (x ∷ xs) h a (Memᴰ-head e) = cc (eq-eqb a.var x.var (ap (λ (b : And). b.var) e))
find-line (x ∷ xs) h a (Memᴰ-tail m) =
    cc (ne_eqb a.var x.var (λ e. h.0 (Memᴰ-cast (sym e) (map_in (λ (b : And). b.var) m))), find-line xs h.1 a m)
find-line [] h a x'' = elim x'' [ ]

-- an AND is neither variable 0 nor an input
and-apart : (g : Graph) → Accepted g → (v : ℕ) → Memᴰ v (and_vars g) → ¬ Memᴰ v (0 ∷ g.inputs)
and-apart g ok v m k = twice-apart (0 ∷ g.inputs) (and_vars g) v (distinct-yes (0 ∷ g.inputs ++ and_vars g) ok.defined) k m

node-line : (g : Graph) → Accepted g → (a : And) → Memᴰ a g.ands → node g a.var ≡ both a.left a.right
unfolding node
node-line g ok a m =
    let apart : ¬ Memᴰ a.var (0 ∷ g.inputs) = λ k. and-apart g ok a.var (map_in (λ (b : And). b.var) m) k in
    cc (
      ne_eqb a.var 0 (λ e. apart (Memᴰ-head e)),
      not-elem a.var g.inputs
          (λ k. apart (Memᴰ-tail k)),
      find-line g.ands (ands-once g ok) a m,
    )

module _ (g : Graph) (ok : Accepted g) where
  once : Distinct (topological_order g)
  once = order-once g ok

  -- what was known at a variable's turn of those before it is what is known at the end
  cuts-known : (pre : List ℕ) (v : ℕ) (post : List ℕ) → topological_order g ≡ pre ++ (v ∷ post) → (u : ℕ) → Memᴰ u pre → find [] u (cuts_known g pre) ≡ cuts_of g u
  unfolding cuts_of cut_lists_of
  cuts-known pre v post e u m = cc (
    run-split [] (cut_step g) pre (v ∷ post) [],
    run_stays [] (cut_step g) (v ∷ post) (cuts_known g pre) u
        (twice-apart pre (v ∷ post) u (rw (← e) once) m),
  )

  -- "The cut set of variable 0 is {∅}"
  pub cuts_constant : cuts_of g 0 ≡ [] ∷ []
  unfolding node_cuts node
  cuts_constant =
      let s = split_at (topological_order g) (defined-ordered g ok 0 (Memᴰ-head refl)) in
      cuts_entry g s.0 0 s.1 s.2 once

  -- "of input i, {{i}}"
  pub cuts-input : (i : ℕ) → Memᴰ i g.inputs → cuts_of g i ≡ (i ∷ []) ∷ []
  unfolding node_cuts
  cuts-input i m =
      let s = split_at (topological_order g) (defined-ordered g ok i (Memᴰ-append_left (and_vars g) (Memᴰ-tail m))) in
      cuts_entry g s.0 i s.1 s.2 once ∙ ap (node_cuts (λ u. find [] u (cuts_known g s.0)) i) (node-input g i once m)

  step-cuts : (pre : List ℕ) (v : ℕ) (post : List ℕ) → topological_order g ≡ pre ++ (v ∷ post) → (f : Follows g pre v)
      → cuts_of g v ≡ and_cuts v (cuts_of g (var_of f.line.left)) (cuts_of g (var_of f.line.right))
  unfolding node_cuts
  step-cuts pre v post e f = cc (
    cuts_entry g pre v post e once,
    f.is_var,
    node-line g ok f.line f.is_line,
    cuts-known pre v post e
        (var_of f.line.left) f.left,
    cuts-known pre v post e (var_of f.line.right) f.right,
  )

  -- "of AND n, {{n}} and every union of a cut of one operand's variable with a cut of the other's that has at most four members"
  pub cuts-and : (a : And) → Memᴰ a g.ands → cuts_of g a.var ≡ and_cuts a.var (cuts_of g (var_of a.left)) (cuts_of g (var_of a.right))
  cuts-and a m =
      let n : Memᴰ a.var (and_vars g) = map_in (λ (b : And). b.var) m in
      let s = split_at (topological_order g) (defined-ordered g ok a.var (Memᴰ-append_right (0 ∷ g.inputs) n)) in
      ⊎_elim (λ k. absurd (and-apart g ok a.var n k)) (λ f. step-cuts s.0 a.var s.1 s.2 f ∙ ap
      (λ (b : And). and_cuts a.var (cuts_of g (var_of b.left)) (cuts_of g (var_of b.right)))
      (and-once g.ands (ands-once g ok) f.line a f.is_line m f.is_var)) (order-step g s.0 a.var s.1 s.2)

  -- what is listed is a cut
  listed-cut : (v : ℕ) (c : List ℕ) → Memᴰ c (cuts_of g v) → IsCut g v c
  listed-cut = along (λ v. (c : List ℕ) → Memᴰ c (cuts_of g v) → IsCut g v c) (topological_order g)
      (λ u h c m. absurd (Memᴰ-not-nil (rw (cuts-none g u h) at m)))
      (λ pre v post e known c m. step pre v post e known c m (order-step g pre v post e))
    where
      step : (pre : List ℕ) (v : ℕ) (post : List ℕ) → topological_order g ≡ pre ++ (v ∷ post)
          → ((u : ℕ) → ¬ Memᴰ u (v ∷ post) → (c : List ℕ) → Memᴰ c (cuts_of g u) → IsCut g u c)
          → (c : List ℕ) → Memᴰ c (cuts_of g v) → Memᴰ v (0 ∷ g.inputs) ⊎ Follows g pre v → IsCut g v c
      step pre v post e known c m (inl (Memᴰ-head q)) =
          subst₂ (IsCut g) (sym q) (sym (Memᴰ-eq_of_singleton (rw (← ap (cuts_of g) q ∙ cuts_constant) m))) of_constant
      step pre v post e known c m (inl (Memᴰ-tail n)) = rw (Memᴰ-eq_of_singleton (rw (cuts-input v n) at m)) (of_input n)
      step pre v post e known c m (inr f) =
          let before : (u : ℕ) → Memᴰ u pre → (d : List ℕ) → Memᴰ d (cuts_of g u) → IsCut g u d = λ u k. known u
          (twice-apart pre (v ∷ post) u (subst Distinct e once) k) in
          ⊎_elim (λ q. subst (λ (u : ℕ). IsCut g u c) f.is_var
          (subst (IsCut g f.line.var) (sym (q ∙ ap (λ (u : ℕ). u ∷ []) (sym f.is_var))) (of_and f.is_line))) (λ j. let l = before
          (var_of f.line.left) f.left j.left j.is_left in let r = before (var_of f.line.right) f.right j.right
          j.is_right in subst (λ (u : ℕ). IsCut g u c) f.is_var (of_operands f.is_line l r
          (subst (IsUnion j.left j.right) (sym j.is_union) (union-is j.left j.right (cut-ascends r))) j.four))
          ((and-cuts_iff v (cuts_of g (var_of f.line.left)) (cuts_of g (var_of f.line.right)) c).0
          (subst (λ (cs : List (List ℕ)). Memᴰ c cs) (step-cuts pre v post e f) m))

  -- and every cut is listed
  cut-listed : {v : ℕ} {c : List ℕ} → IsCut g v c → Memᴰ c (cuts_of g v)
  cut-listed of_constant = subst (λ (cs : List (List ℕ)). Memᴰ [] cs) (sym cuts_constant) (Memᴰ-head refl)
  cut-listed (of_input {i} m) = subst (λ (cs : List (List ℕ)). Memᴰ (i ∷ []) cs) (sym (cuts-input i m)) (Memᴰ-head refl)
  cut-listed (of_and {a} m) =
      rw (cuts-and a m) ((and-cuts_iff a.var (cuts_of g (var_of a.left)) (cuts_of g (var_of a.right)) (a.var ∷ [])).1 (inl refl))
  cut-listed (of_operands {a} {c} {d} {z} m l r u h) =
      subst (λ (cs : List (List ℕ)). Memᴰ z cs) (sym (cuts-and a m))
      ((and-cuts_iff a.var (cuts_of g (var_of a.left)) (cuts_of g (var_of a.right)) z).1
      (inr record { left = c; right = d; is_left = cut-listed l; is_right = cut-listed r; is_union = is_union_lem c d z (cut-ascends r) u; four = h }))

  -- a list has just the cuts of its variable
  pub cuts_exactly : (v : ℕ) (c : List ℕ) → Memᴰ c (cuts_of g v) ↔ IsCut g v c
  cuts_exactly v c = (listed-cut v c, cut-listed)

  -- "Cuts are listed by size, then by ascending leaves compared left to right."
  pub cuts-listed : (v : ℕ) → Ascending Before (cuts_of g v)
  cuts-listed v = by_elem v (topological_order g) (λ m. let s = split_at (topological_order g) m in ⊎_elim (λ x. by_member x
      (λ q. subst (Ascending Before) (sym (ap (cuts_of g) q ∙ cuts_constant)) (one []))
      (λ n. subst (Ascending Before) (sym (cuts-input v n)) (one (v ∷ [])))) (λ f. rw (step-cuts s.0 v s.1 s.2 f)
      (cuts_ascend ((v ∷ []) ∷ unions (cuts_of g (var_of f.line.left)) (cuts_of g (var_of f.line.right))) [] tt))
      (order-step g s.0 v s.1 s.2)) (λ h. subst (Ascending Before) (sym (cuts-none g v h)) tt)
    where
      one : (c : List ℕ) → Ascending Before (c ∷ [])
      one c = ((λ d m. absurd (Memᴰ-not-nil m)), tt)

  -- "Equal sets count once."
  pub cuts-once : (v : ℕ) → Distinct (cuts_of g v)
  cuts-once v = ascending_once Before cuts_never (cuts_of g v) (cuts-listed v)

  -- the leaves of a cut ascend
  pub leaves_ascending : (v : ℕ) (c : List ℕ) → Memᴰ c (cuts_of g v) → Ascending ◌<◌ c
  leaves_ascending v c m = cut-ascends (listed-cut v c m)

  -- and are at most four
  pub leaves-four : (v : ℕ) (c : List ℕ) → Memᴰ c (cuts_of g v) → length c ≤ 4
  leaves-four v c m = cut-four (listed-cut v c m)

  -- and are ordered before the variable, in every cut but that of the variable alone
  pub leaves-earlier : (pre : List ℕ) (v : ℕ) (post : List ℕ) → topological_order g ≡ pre ++ (v ∷ post) → (c : List ℕ) → Memᴰ c (cuts_of g v) → ¬ (c ≡ v ∷ [])
      → (x : ℕ) → Memᴰ x c → Memᴰ x pre
  leaves-earlier pre v post e c m other x n = ⊎_elim (λ k. k) (λ q. absurd (leaves-before g pre v post e once c m other x n q))
      (Memᴰ-append_cases pre (rw e at (defined-ordered g ok x (Memᴰ-tail (cut_leaf (listed-cut v c m) x n)))))
