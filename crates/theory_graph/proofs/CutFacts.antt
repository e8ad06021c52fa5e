-- The cuts of a variable: each cuts it off, and the leaves of one that is not the variable alone are ordered before it.
use Rattle.base.specs.{ℕ, zero, suc, ◌+◌, ◌≤◌, compare, le_refl, le_of_suc-le-suc, not-suc-le-zero, suc-add, add-suc, arith, ◌≡◌, refl, sym}
use Rattle.base.specs.{◌∙◌, subst, ◌⊎◌, inl, inr, ⊎_elim, Bool, List, [], ◌∷◌, ◌++◌, map, append-nil, Memᴰ, Memᴰ-head}
use Rattle.base.specs.{Memᴰ-tail, Memᴰ-not-nil, Memᴰ-cases_cons, Memᴰ-eq_of_singleton, leb, length, length-append}
use Rattle.model.specs.{find, run, union, keep, each, lowest, And, Node, constant, input, undefined, both, node, topological_order, var_of, and_on}
use Rattle.model.specs.{order_from, ready, compare_cuts, unions, node_cuts, cut_lists_of, cuts_of, walk, Distinct}
use Rattle.model.specs.Graph.{Graph, span}
use Rattle.theory_graph.proofs.Sets.{union_left, union_right, union-only}
use Rattle.theory_graph.proofs.ListLaws.{map_out, each_out, keep_out}
use Rattle.theory_graph.proofs.OrderRuns.{no_twice-behind, run_stays, run_entry, run-split, run-keeps, find_cons}
use Rattle.theory_graph.proofs.GraphWalk.{Valuation, Carry, Under, leaf, nought, and, walk-value}
use Rattle.theory_graph.proofs.ListSplits.{by_option}

-- where the native comparison finds no difference there is none
pub compare-found : (x y : ℕ) → compare x y ≡ Prim.Native.Nat.Ordering.eq → x ≡ y
compare-found x y e = lib.Dec.eqb→eq x y (subst (λ o. lib.Dec.T (lib.Dec.compare_is_eq o)) (sym e) tt)

-- a cut of an AND is the AND alone, or the union of a cut of each operand
pub record Joined (look : ℕ → List (List ℕ)) (l r : ℕ) (c : List ℕ) : Type 0 where
  pub left : List ℕ
  pub right : List ℕ
  pub is_left : Memᴰ left (look (var_of l))
  pub is_right : Memᴰ right (look (var_of r))
  pub is_union : c ≡ union compare left right

pub both-cuts : (look : ℕ → List (List ℕ)) (v l r : ℕ) (c : List ℕ) → Memᴰ c (node_cuts look v (both l r)) → (c ≡ v ∷ []) ⊎ Joined look l r c
unfolding node_cuts
both-cuts look v l r c m = ⊎_elim (λ n. ⊎_elim inl (λ q. inr (unfold unions in let kept = keep_out (λ (d : List ℕ). leb (length d) 4)
    (each (λ (a : List ℕ). map (union compare a) (look (var_of r))) (look (var_of l))) q in let at = each_out
    (λ (a : List ℕ). map (union compare a) (look (var_of r))) (look (var_of l)) kept.0 in let back = map_out (union compare at.0)
    (look (var_of r)) at.2 in record { left = at.0; right = back.0; is_left = at.1; is_right = back.1; is_union = back.2 }))
    (Memᴰ-cases_cons n)) (λ q. absurd (Memᴰ-not-nil q))
    (union-only compare_cuts c ((v ∷ []) ∷ unions (look (var_of l)) (look (var_of r))) [] m)

-- x is a leaf of a cut that look gives of some variable
pub record Known (look : ℕ → List (List ℕ)) (x : ℕ) : Type 0 where
  pub at : ℕ
  pub cut : List ℕ
  pub is_cut : Memᴰ cut (look at)
  pub is_leaf : Memᴰ x cut

-- a leaf of a cut is the variable, in the cut of it alone, or a leaf known before
leaf_known : (look : ℕ → List (List ℕ)) (v : ℕ) (k : Node) (c : List ℕ) (x : ℕ) → Memᴰ c (node_cuts look v k) → Memᴰ x c → (c ≡ v ∷ []) ⊎ Known look x
unfolding node_cuts
leaf_known look v constant c x m n = absurd (Memᴰ-not-nil (subst (λ (d : List ℕ). Memᴰ x d) (Memᴰ-eq_of_singleton m) n))
leaf_known look v input c x m n = inl (Memᴰ-eq_of_singleton m)
leaf_known look v undefined c x m n = absurd (Memᴰ-not-nil m)
leaf_known look v (both l r) c x m n = ⊎_elim inl (λ j. inr (⊎_elim
    (λ h. record { at = var_of l; cut = j.left; is_cut = j.is_left; is_leaf = h })
    (λ q. record { at = var_of r; cut = j.right; is_cut = j.is_right; is_leaf = q })
    (union-only compare x j.left j.right (subst (λ (d : List ℕ). Memᴰ x d) j.is_union n)))) (both-cuts look v l r c m)

abbrev Sub : List ℕ → List ℕ → Type 0
Sub c leaves = (x : ℕ) → Memᴰ x c → Memᴰ x leaves

-- more steps do no harm
under_more : {g : Graph} {leaves : List ℕ} {n v : ℕ} → Under g leaves n v → Under g leaves (suc n) v
under_more (leaf m) = leaf m
under_more (nought e) = nought e
under_more (and e a b) = and e (under_more a) (under_more b)

module _ (g : Graph) where
  -- the step of `cut_lists_of`
  abbrev pub cut_step : List (ℕ × List (List ℕ)) → ℕ → List (List ℕ)
  cut_step known v = node_cuts (λ u. find [] u known) v (node g v)

  -- no leaf that is known is still to be ordered
  Leaves : List (ℕ × List (List ℕ)) → List ℕ → Type 0
  Leaves known vs = (u : ℕ) (c : List ℕ) (x : ℕ) → Memᴰ c (find [] u known) → Memᴰ x c → ¬ Memᴰ x vs

  leaves-next : (known : List (ℕ × List (List ℕ))) (v : ℕ) (vs : List ℕ) → Distinct (v ∷ vs) → Leaves known (v ∷ vs) → Leaves ((v, cut_step known v) ∷ known) vs
  unfolding Leaves
  leaves-next known v vs once j u =
      find_cons [] cut_step (λ cs. (c : List ℕ) (x : ℕ) → Memᴰ c cs → Memᴰ x c → ¬ Memᴰ x vs) v u (cut_step known v) known
      (λ e c x m n. new c x n (leaf_known (λ w. find [] w known) v (node g v) c x m n)) (λ c x m n h. j u c x m n (Memᴰ-tail h))
    where
      new : (c : List ℕ) (x : ℕ) → Memᴰ x c → (c ≡ v ∷ []) ⊎ Known (λ w. find [] w known) x → ¬ Memᴰ x vs
      new c x n (inl e) h = once.0 (rw (Memᴰ-eq_of_singleton (rw e at n)) at h)
      new c x n (inr k) h = j k.at k.cut x k.is_cut k.is_leaf (Memᴰ-tail h)

  -- what is known when a variable's turn comes
  abbrev pub cuts_known : List ℕ → List (ℕ × List (List ℕ))
  cuts_known pre = run cut_step pre []

  -- the cuts of a variable are its step's
  pub cuts_entry : (pre : List ℕ) (v : ℕ) (post : List ℕ) → topological_order g ≡ pre ++ (v ∷ post) → Distinct (topological_order g)
      → cuts_of g v ≡ node_cuts (λ u. find [] u (cuts_known pre)) v (node g v)
  unfolding cuts_of cut_lists_of
  cuts_entry pre v post e once = cc (
    run-split [] cut_step pre (v ∷ post) [],
    run_entry [] cut_step v post (cuts_known pre)
        (no_twice-behind pre (v ∷ post) (rw (← e) once)).0,
  )

  -- what is never ordered has no cuts
  pub cuts-none : (v : ℕ) → ¬ Memᴰ v (topological_order g) → cuts_of g v ≡ []
  unfolding cuts_of cut_lists_of
  cuts-none v h = run_stays [] cut_step (topological_order g) [] v h

  leaves_so_far : (pre vs : List ℕ) → topological_order g ≡ pre ++ vs → Distinct (topological_order g) → Leaves (cuts_known pre) vs
  unfolding Leaves find
  leaves_so_far pre vs e once = run-keeps [] cut_step Leaves leaves-next pre vs [] (subst Distinct e once) (λ u d y p q. absurd (Memᴰ-not-nil p))

  -- what is ordered before a variable has only leaves that are
  pub leaves-closed : (pre vs : List ℕ) → topological_order g ≡ pre ++ vs → Distinct (topological_order g) → (u : ℕ) → ¬ Memᴰ u vs
      → (c : List ℕ) → Memᴰ c (cuts_of g u) → (x : ℕ) → Memᴰ x c → ¬ Memᴰ x vs
  unfolding cuts_of cut_lists_of Leaves
  leaves-closed pre vs e once u h c m x n = leaves_so_far pre vs e once u c x (subst (λ (cs : List (List ℕ)). Memᴰ c cs)
      (cc (run-split [] cut_step pre vs [], run_stays [] cut_step vs (cuts_known pre) u h)) m) n

  -- "a cut other than the variable alone" has only leaves that are ordered before the variable
  pub leaves-before : (pre : List ℕ) (v : ℕ) (post : List ℕ) → topological_order g ≡ pre ++ (v ∷ post) → Distinct (topological_order g)
      → (c : List ℕ) → Memᴰ c (cuts_of g v) → ¬ (c ≡ v ∷ []) → (x : ℕ) → Memᴰ x c → ¬ Memᴰ x (v ∷ post)
  unfolding Leaves
  leaves-before pre v post e once c m alone x n =
      ⊎_elim (λ s. absurd (alone s)) (λ k. leaves_so_far pre (v ∷ post) e once k.at k.cut x k.is_cut k.is_leaf) (leaf_known
      (λ w. find [] w (cuts_known pre)) v (node g v) c x (subst (λ (cs : List (List ℕ)). Memᴰ c cs) (cuts_entry pre v post e once) m) n)

  -- each known cut cuts its variable off
  Cutting : List (ℕ × List (List ℕ)) → List ℕ → Type 0
  Cutting known vs = (u : ℕ) (c : List ℕ) → Memᴰ c (find [] u known) → (leaves : List ℕ) → Sub c leaves → Under g leaves (length known) u

  cutting_new : (known : List (ℕ × List (List ℕ))) (v : ℕ) → Cutting known [] → (k : Node) → node g v ≡ k → (c : List ℕ)
      → Memᴰ c (node_cuts (λ u. find [] u known) v k) → (leaves : List ℕ) → Sub c leaves → Under g leaves (suc (length known)) v
  unfolding node_cuts Cutting
  cutting_new known v j constant e c m leaves s = nought e
  cutting_new known v j input e c m leaves s = leaf (s v (rw (Memᴰ-eq_of_singleton m) (Memᴰ-head refl)))
  cutting_new known v j undefined e c m leaves s = absurd (Memᴰ-not-nil m)
  cutting_new known v j (both l r) e c m leaves s = ⊎_elim (λ a. leaf (s v (rw a (Memᴰ-head refl)))) (λ h. and e
      (j (var_of l) h.left h.is_left leaves (λ x n. s x (rw h.is_union (union_left compare compare-found x h.left h.right n))))
      (j (var_of r) h.right h.is_right leaves (λ x n. s x (rw h.is_union (union_right compare x h.left h.right n)))))
      (both-cuts (λ u. find [] u known) v l r c m)

  cutting_next : (known : List (ℕ × List (List ℕ))) (v : ℕ) (vs : List ℕ) → Distinct (v ∷ vs) → Cutting known (v ∷ vs) → Cutting ((v, cut_step known v) ∷ known) vs
  unfolding Cutting
  cutting_next known v vs once j u =
      find_cons [] cut_step (λ cs. (c : List ℕ) → Memᴰ c cs → (leaves : List ℕ) → Sub c leaves → Under g leaves (suc (length known)) u) v u (cut_step known v) known
      (λ e c m leaves s. subst (Under g leaves (suc (length known))) (sym e) (cutting_new known v j (node g v) refl c m leaves s))
      (λ c m leaves s. under_more (j u c m leaves s))

length_run {ℓ} : {A : Type ℓ} (step : List (ℕ × A) → ℕ → A) (vs : List ℕ) (known : List (ℕ × A)) → length (run step vs known) ≡ length vs + length known
unfolding run
length_run step [] known = omega arith
length_run step (v ∷ vs) known = length_run step vs ((v, step known v) ∷ known) ∙ add-suc (length vs) (length known) ∙ sym (suc-add (length vs) (length known))

length_place_f : (fuel : ℕ) (ands : List And) (ordered : List ℕ) → length (order_from fuel ands ordered) ≤ fuel
unfolding order_from and_on
length_place_f zero ands ordered = le_refl 0
length_place_f (suc fuel) ands ordered = by_option (lowest (map (λ (a : And). a.var) (keep (ready ordered) ands))) (λ e. rw e (omega arith))
    (λ q p. rw p (Prim.Native.Nat.suc-le-suc (length_place_f fuel ands (q ∷ ordered))))

pub length-order : (g : Graph) → length (topological_order g) ≤ span g
unfolding topological_order span
length-order g = omega (arith, length-append g.inputs (order_from (length g.ands) g.ands (0 ∷ g.inputs)), length_place_f (length g.ands) g.ands (0 ∷ g.inputs))

under_le : {g : Graph} {leaves : List ℕ} (m : ℕ) {n v : ℕ} → n ≤ m → Under g leaves n v → Under g leaves m v
under_le zero h (leaf i) = absurd (not-suc-le-zero h)
under_le zero h (nought e) = absurd (not-suc-le-zero h)
under_le zero h (and e a b) = absurd (not-suc-le-zero h)
under_le (suc m) h (leaf i) = leaf i
under_le (suc m) h (nought e) = nought e
under_le (suc m) h (and e a b) = and e (under_le m (le_of_suc-le-suc h) a) (under_le m (le_of_suc-le-suc h) b)

-- every cut of a variable cuts it off, within the walk's count
pub cut-under : (g : Graph) → Distinct (topological_order g) → (v : ℕ) (c : List ℕ) → Memᴰ c (cuts_of g v) → Under g c (span g) v
unfolding cuts_of cut_lists_of Cutting
cut-under g once v c m =
    let all-cut = run-keeps [] (cut_step g) (Cutting g) (cutting_next g) (topological_order g) [] []
    (subst Distinct (sym (append-nil (topological_order g))) once) (λ u d p. absurd (Memᴰ-not-nil p)) in
    under_le (span g) (omega (arith, length-order g, length_run (cut_step g) (topological_order g) [])) (all-cut v c m c (λ x n. n))

-- "A cut's function" in the row that the leaves carry is the AIGER value of the variable
pub cut-value : (g : Graph) → Distinct (topological_order g) → (assignment w : ℕ → Bool) → Valuation g assignment w → (v : ℕ) (c : List ℕ) → Memᴰ c (cuts_of g v)
    → (r : ℕ) → Carry w r 0 c → walk (span g) g c r v ≡ w v
cut-value g once assignment w is_value v c m r carry = walk-value g assignment w is_value c r carry (span g) v (cut-under g once v c m)
