-- A graph whose ranks rise along every AND, and whose variables are defined once, has values under every assignment of its inputs.
use Rattle.base.specs.{ℕ, zero, suc, ◌<◌, ◌≤◌, le_refl, arith, not-suc-le-zero, ◌≡◌, refl, sym, ◌∙◌, ap, ap₂, subst, Bool, false, cond, ◌&&◌, List, [], ◌∷◌, ◌++◌}
use Rattle.base.specs.{map, Memᴰ, Memᴰ-head, Memᴰ-tail, Memᴰ-append_left, Memᴰ-append_right, Memᴰ-cast, T, eqb, ltb, eqb→eq, eqb_refl, get_or, and_yes, ltb_yes}
use Rattle.model.specs.{elem, flip, And, Node, constant, input, undefined, both, node, find_and, node_value, literal_value, negated, var_of, and_vars, GraphValues, Distinct}
use Rattle.model.specs.Graph.{Graph}
use Rattle.theory_graph.proofs.{by_bool, elem_in, elem_out, is_true, map_in, node-and, twice-apart}
use Rattle.certificate_model.specs.{defined_vars, is_acyclic, ordered, rises}

-- ---- no variable is defined twice

ordered-low : (places : List ℕ) (k : ℕ) (vs : List ℕ) → T (ordered places k vs) → (v : ℕ) → Memᴰ v vs → k ≤ get_or places v 0
unfolding ordered
ordered-low places k (x ∷ vs) t v (Memᴰ-head q) =
    let e : get_or places x 0 ≡ k = eqb→eq (get_or places x 0) k (and_yes (eqb (get_or places x 0) k) (ordered places (suc k) vs) t).0 in
    let f : get_or places v 0 ≡ get_or places x 0 = ap (λ (y : ℕ). get_or places y 0) q in
    omega arith
ordered-low places k (x ∷ vs) t v (Memᴰ-tail m) =
    let h : suc k ≤ get_or places v 0 = ordered-low places (suc k) vs (and_yes (eqb (get_or places x 0) k) (ordered places (suc k) vs) t).1 v m in omega arith
ordered-low places k [] t v x'' = elim x'' [ ]

ordered-once : (places : List ℕ) (k : ℕ) (vs : List ℕ) → T (ordered places k vs) → Distinct vs
unfolding ordered
ordered-once places k [] t = tt
ordered-once places k (x ∷ vs) t =
    let p = and_yes (eqb (get_or places x 0) k) (ordered places (suc k) vs) t in
    let e : get_or places x 0 ≡ k = eqb→eq (get_or places x 0) k p.0 in
    ((λ m. let h : suc k ≤ get_or places x 0 = ordered-low places (suc k) vs p.1 x m in omega arith), ordered-once places (suc k) vs p.1)

rises-at : (ranks : List ℕ) (xs : List And) → T (rises ranks xs) → (a : And) → Memᴰ a xs
    → (get_or ranks (var_of a.left) 0 < get_or ranks a.var 0) × (get_or ranks (var_of a.right) 0 < get_or ranks a.var 0)
unfolding rises
rises-at ranks (x ∷ xs) t a m =
    let left : Bool = ltb (get_or ranks (var_of x.left) 0) (get_or ranks x.var 0) in
    let right : Bool = ltb (get_or ranks (var_of x.right) 0) (get_or ranks x.var 0) in
    let p = and_yes left (right && rises ranks xs) t in
    let q = and_yes right (rises ranks xs) p.1 in
    at m (ltb_yes p.0) (ltb_yes q.0) (rises-at ranks xs q.1 a)
  where
    Rises : And → Type 0
    Rises b = (get_or ranks (var_of b.left) 0 < get_or ranks b.var 0) × (get_or ranks (var_of b.right) 0 < get_or ranks b.var 0)

    at : Memᴰ a (x ∷ xs) → get_or ranks (var_of x.left) 0 < get_or ranks x.var 0 → get_or ranks (var_of x.right) 0 < get_or ranks x.var 0 → (Memᴰ a xs → Rises a) → Rises a
    at (Memᴰ-head e) l r later = subst Rises (sym e) (l, r)
    at (Memᴰ-tail i) l r later = later i
rises-at ranks [] t a m = elim m [ ]

find-line : (xs : List And) → Distinct (map (λ (a : And). a.var) xs) → (a : And) → Memᴰ a xs → find_and a.var xs ≡ both a.left a.right
unfolding find_and
find-line (x ∷ xs) once a (Memᴰ-head e) =
    subst (λ (b : And). find_and b.var (x ∷ xs) ≡ both b.left b.right) (sym e)
    (ap (λ (b : Bool). cond b (both x.left x.right) (find_and x.var xs)) (is_true (eqb x.var x.var) (eqb_refl x.var)))
find-line (x ∷ xs) once a (Memᴰ-tail m) = by_bool (eqb a.var x.var)
    (λ q. absurd (once.0 (Memᴰ-cast (sym ((rw q at (eqb→eq a.var x.var)) tt)) (map_in (λ (b : And). b.var) m))))
    (λ q. rw q (find-line xs once.1 a m))
find-line [] once a x'' = elim x'' [ ]

behind-once : {A : Type 0} (xs ys : List A) → Distinct (xs ++ ys) → Distinct ys
behind-once [] ys once = once
behind-once (x ∷ xs) ys once = behind-once xs ys once.1

module _ (places ranks : List ℕ) (g : Graph) (ok : T (is_acyclic places ranks g)) where
  once : Distinct (0 ∷ g.inputs ++ and_vars g)
  unfolding is_acyclic defined_vars
  once = ordered-once places 1 (defined_vars g) (and_yes (ordered places 1 (defined_vars g)) (rises ranks g.ands) ok).0

  rising : (a : And) → Memᴰ a g.ands → (get_or ranks (var_of a.left) 0 < get_or ranks a.var 0) × (get_or ranks (var_of a.right) 0 < get_or ranks a.var 0)
  unfolding is_acyclic
  rising = rises-at ranks g.ands (and_yes (ordered places 1 (defined_vars g)) (rises ranks g.ands) ok).1

  not-zero : (v : ℕ) → Memᴰ v (g.inputs ++ and_vars g) → eqb v 0 ≡ false
  not-zero v m = by_bool (eqb v 0) (λ q. absurd (once.0 (Memᴰ-cast (sym ((rw q at (eqb→eq v 0)) tt)) m))) (λ q. q)

  at-input : (v : ℕ) → Memᴰ v g.inputs → node g v ≡ input
  unfolding node
  at-input v m = rw (not-zero v (Memᴰ-append_left (and_vars g) m)) (ap (λ (b : Bool). cond b input (find_and v g.ands)) (elem_in v g.inputs m))

  at-and : (a : And) → Memᴰ a g.ands → node g a.var ≡ both a.left a.right
  unfolding node
  at-and a m =
      let is_var = map_in (λ (b : And). b.var) m in
      rw (not-zero a.var (Memᴰ-append_right g.inputs is_var)) (by_bool (elem a.var g.inputs)
      (λ q. absurd (twice-apart g.inputs (and_vars g) a.var once.1 (elem_out a.var g.inputs q) is_var))
      (λ q. rw q (find-line g.ands (behind-once g.inputs (and_vars g) once.1) a m)))

  module _ (assignment : ℕ → Bool) where
    -- the value of a variable, so many steps down
    unfoldable value_in : ℕ → ℕ → Bool
    value_in zero v = false
    value_in (suc k) v = node_value assignment (value_in k) v (node g v)

    abbrev rank : ℕ → ℕ
    rank v = get_or ranks v 0

    -- more steps than its rank change nothing
    stable : (j k v : ℕ) → rank v < j → rank v < k → value_in j v ≡ value_in k v
    unfolding value_in node_value literal_value
    stable zero k v a b = absurd (not-suc-le-zero a)
    stable (suc j) zero v a b = absurd (not-suc-le-zero b)
    stable (suc j) (suc k) v a b = by (stable j k) (node g v) refl
      where
        down : (l r : ℕ) → node g v ≡ both l r → (rank (var_of l) < rank v) × (rank (var_of r) < rank v)
        down l r e =
            let f = node-and g v l r e in
            let h = rising f.line f.is_line in
            let lv : rank (var_of f.line.left) ≡ rank (var_of l) = ap (λ (x : ℕ). rank (var_of x)) f.is_left in
            let rv : rank (var_of f.line.right) ≡ rank (var_of r) = ap (λ (x : ℕ). rank (var_of x)) f.is_right in
            let vv : rank f.line.var ≡ rank v = ap rank f.is_var in
            (omega arith, omega arith)

        by : ((u : ℕ) → rank u < j → rank u < k → value_in j u ≡ value_in k u) → (x : Node) → node g v ≡ x → node_value assignment (value_in j) v x ≡ node_value assignment (value_in k) v x
        by lower constant e = refl
        by lower input e = refl
        by lower undefined e = refl
        by lower (both l r) e =
            let d = down l r e in
            ap₂ (λ (x y : Bool). flip (negated l) x && flip (negated r) y) (lower (var_of l) (omega arith) (omega arith)) (lower (var_of r) (omega arith) (omega arith))

    -- the graph has values
    pub ranked_values : (v : ℕ → Bool) × GraphValues g assignment v
    unfolding value_in node_value literal_value node
    ranked_values = (
      w,
      record {
        at_constant = refl;
        at_inputs = λ v m. ap (node_value assignment (value_in (rank v)) v) (at-input v m);
        at_ands = λ a m.
            let h = rising a m in
            ap (node_value assignment (value_in (rank a.var)) a.var) (at-and a m)
            ∙ ap₂ (λ (x y : Bool). flip (negated a.left) x && flip (negated a.right) y)
            (stable (rank a.var) (suc (rank (var_of a.left))) (var_of a.left) h.0 (le_refl (suc (rank (var_of a.left)))))
            (stable (rank a.var) (suc (rank (var_of a.right))) (var_of a.right) h.1 (le_refl (suc (rank (var_of a.right)))));
      },
    )
      where
        w : ℕ → Bool
        w v = value_in (suc (get_or ranks v 0)) v
