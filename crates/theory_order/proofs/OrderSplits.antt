-- Laws of lists: where an element stands in a list, how many can, what is kept by a narrower test, and the lowest of a list.
use Rattle.base.specs.{ℕ, ◌≤◌, ◌<◌, le_refl, arith, ◌≡◌, refl, sym, ◌∙◌, ap, ap₂, subst, ◌⊎◌, inl, inr, ⊎_elim, Bool, true, false, not}
use Rattle.base.specs.{cond, true≢false, Option, None, Some, List, [], ◌∷◌, ◌++◌, append-nil, Memᴰ, Memᴰ-head, Memᴰ-tail}
use Rattle.base.specs.{Memᴰ-not-nil, Memᴰ-append_cases, Memᴰ-append_left, Memᴰ-append_right, T, leb, length, length-append}
use Rattle.base.specs.{leb_yes, leb_no}
use Rattle.model.specs.{elem, keep, lowest, smaller, Distinct}
use Rattle.theory_graph.specs.{distinct}
use Rattle.theory_graph.proofs.{elem_in, elem_out, distinct-once, by_bool, by_option, by_member}

-- a number stands in a list or not, by the test
pub by_elem {ℓ} : {X : Type ℓ} (v : ℕ) (xs : List ℕ) → (Memᴰ v xs → X) → (¬ Memᴰ v xs → X) → X
by_elem {X} v xs there away = by_bool (elem v xs) (λ e. there (elem_out v xs e)) (λ q. away (λ m. true≢false (sym (elem_in v xs m) ∙ q)))

pub not-elem : (v : ℕ) (xs : List ℕ) → ¬ Memᴰ v xs → elem v xs ≡ false
not-elem v xs h = by_bool (elem v xs) (λ e. rw e (absurd (h (elem_out v xs e)))) (λ q. rw q)

-- the test `distinct` passes only where no number stands twice
pub distinct-yes : (xs : List ℕ) → T (distinct xs) → Distinct xs
distinct-yes xs t = distinct-once xs [] (subst (λ (ys : List ℕ). T (distinct ys)) (sym (append-nil xs)) t)

module _ {A : Type 0} where
  pub none_in : (xs : List A) → ((x : A) → ¬ Memᴰ x xs) → xs ≡ []
  none_in [] h = refl
  none_in (x ∷ xs) h = absurd (h x (Memᴰ-head refl))

  -- an element divides its list
  pub split_at : {v : A} (xs : List A) → Memᴰ v xs → (pre : List A) × (post : List A) × (xs ≡ pre ++ (v ∷ post))
  split_at (x ∷ xs) (Memᴰ-head e) = ([], xs, ap (λ (y : A). y ∷ xs) (sym e))
  split_at (x ∷ xs) (Memᴰ-tail m) = let r = split_at xs m in (x ∷ r.0, r.1, ap (λ (ys : List A). x ∷ ys) r.2)
  split_at {v = v} [] x' = elim x' [ ]

  pub nil_split : (pre : List A) (v : A) (post : List A) → ¬ ([] ≡ pre ++ (v ∷ post))
  nil_split [] v post e = Memᴰ-not-nil (subst (λ (xs : List A). Memᴰ v xs) (sym e) (Memᴰ-head refl))
  nil_split (x ∷ pre) v post e = Memᴰ-not-nil (subst (λ (xs : List A). Memᴰ x xs) (sym e) (Memᴰ-head refl))

  pub cons_head : {x y : A} {xs ys : List A} → x ∷ xs ≡ y ∷ ys → x ≡ y
  cons_head e = cc

  pub cons_tail : {x y : A} {xs ys : List A} → x ∷ xs ≡ y ∷ ys → xs ≡ ys
  cons_tail e = cc

  -- where two lists are joined, an element stands in the first, or behind it
  pub split_append : {v : A} {post : List A} (xs ys pre : List A) → xs ++ ys ≡ pre ++ (v ∷ post)
      → Memᴰ v xs ⊎ ((mid : List A) × (pre ≡ xs ++ mid) × (ys ≡ mid ++ (v ∷ post)))
  split_append [] ys pre e = inr (pre, refl, e)
  split_append (x ∷ xs) ys [] e = inl (Memᴰ-head (sym (cons_head e)))
  split_append {v} {post} (x ∷ xs) ys (p ∷ pre) e = ⊎_elim (λ m. inl (Memᴰ-tail m))
      (λ r. inr (r.0, ap₂ (λ (a : A) (b : List A). a ∷ b) (sym (cons_head e)) r.1, r.2)) (split_append xs ys pre (cons_tail e))

  -- an element between two lists, put before both
  pub between_first : {x v : A} (xs ys : List A) → Memᴰ x (xs ++ (v ∷ ys)) → Memᴰ x (v ∷ xs ++ ys)
  between_first {x} {v} xs ys m = ⊎_elim (λ n. Memᴰ-tail (Memᴰ-append_left ys n))
      (λ q. by_member q Memᴰ-head (λ p. Memᴰ-tail (Memᴰ-append_right xs p))) (Memᴰ-append_cases xs m)

  -- and back
  pub first-between : {x v : A} (xs ys : List A) → Memᴰ x (v ∷ xs ++ ys) → Memᴰ x (xs ++ (v ∷ ys))
  first-between xs ys (Memᴰ-head e) = Memᴰ-append_right xs (Memᴰ-head e)
  first-between {x} {v} xs ys (Memᴰ-tail m) = ⊎_elim (Memᴰ-append_left (v ∷ ys)) (λ q. Memᴰ-append_right xs (Memᴰ-tail q))
      (Memᴰ-append_cases xs m)

  -- no element twice: none stands before itself
  pub split-once : (xs : List A) → ((pre : List A) (v : A) (post : List A) → xs ≡ pre ++ (v ∷ post) → ¬ Memᴰ v pre) → Distinct xs
  split-once [] h = tt
  split-once (x ∷ xs) h = (
    (λ m. let r = split_at xs m in h (x ∷ r.0) x r.1 (ap (λ (ys : List A). x ∷ ys) r.2) (Memᴰ-head refl)),
    split-once xs (λ pre v post e m. h (x ∷ pre) v post (ap (λ (ys : List A). x ∷ ys) e) (Memᴰ-tail m)),
  )

  -- different elements that all stand in a list are no more than it has
  pub no_more : (xs ys : List A) → Distinct xs → ((x : A) → Memᴰ x xs → Memᴰ x ys) → length xs ≤ length ys
  no_more [] ys d s = omega arith
  no_more (x ∷ xs) ys d s =
      let at = split_at ys (s x (Memᴰ-head refl)) in
      omega (
        arith,
        (no_more xs (at.0 ++ at.1) d.1 (λ y z. elim (between_first at.0 at.1
            (rw at.2 at (s y (Memᴰ-tail z)))) [ Memᴰ-head h ↦ absurd (d.0 (rw h at z)) | Memᴰ-tail q ↦ q ])),
        ap length at.2,
        length-append at.0
            (x ∷ at.1),
        length-append at.0 at.1,
      )

pub keep-length : {A : Type 0} (p : A → Bool) (xs : List A) → length (keep p xs) ≤ length xs
unfolding keep
keep-length p [] = le_refl 0
keep-length {A} p (x ∷ xs) = by_bool (p x) (λ e. rw e (omega (arith, keep-length p xs))) (λ q. rw q (omega (arith, keep-length p xs)))

-- a narrower test keeps no more
module _ {A : Type 0} (p q : A → Bool) (narrower : (a : A) → T (q a) → T (p a)) where
  keep-fewer : (xs : List A) → length (keep q xs) ≤ length (keep p xs)
  unfolding keep
  keep-fewer [] = le_refl 0
  keep-fewer (x ∷ xs) = by_bool (p x)
      (λ e. rw e (by_bool (q x) (λ r. rw r (omega (arith, keep-fewer xs))) (λ z. rw z (omega (arith, keep-fewer xs)))))
      (λ w. rw w (by_bool (q x) (λ u. rw u (absurd ((rw u at (rw w at (narrower x))) tt))) (λ v. rw v (keep-fewer xs))))

  -- and fewer where some element passes the wider test alone
  pub keep_less : {a : A} (xs : List A) → Memᴰ a xs → T (p a) → T (not (q a)) → length (keep q xs) < length (keep p xs)
  unfolding keep
  keep_less {a} (x ∷ xs) (Memᴰ-head e) t f = by_bool (p x) (λ r. rw r
      (by_bool (q x) (λ z. rw z (absurd (rw z at (subst (λ (y : A). T (not (q y))) e f)))) (λ w. rw w (omega (arith, keep-fewer xs)))))
      (λ u. rw u (absurd (rw u at (subst (λ (y : A). T (p y)) e t))))
  keep_less {a} (x ∷ xs) (Memᴰ-tail m) t f = by_bool (p x)
      (λ e. rw e (by_bool (q x) (λ r. rw r (omega (arith, keep_less xs m t f))) (λ z. rw z (omega (arith, keep_less xs m t f)))))
      (λ w. rw w (by_bool (q x) (λ u. rw u (absurd ((rw u at (rw w at (narrower x))) tt))) (λ v. rw v (keep_less xs m t f))))
  keep_less {a = a} [] x3 t f = elim x3 [ ]

-- nothing stands in the list, or nothing below what is given
abbrev Bound : Option ℕ → List ℕ → Type 0
Bound None xs = (u : ℕ) → ¬ Memᴰ u xs
Bound (Some w) xs = (u : ℕ) → Memᴰ u xs → w ≤ u

smaller-bound : (x : ℕ) (o : Option ℕ) (xs : List ℕ) → Bound o xs → Bound (smaller x o) (x ∷ xs)
unfolding smaller
smaller-bound x None xs h = λ u y. by_member y (λ e. omega arith) (λ m. absurd (h u m))
smaller-bound x (Some y) xs h = λ u. go u (leb x y) leb_yes leb_no
  where
    go : (u : ℕ) (b : Bool) → (T b → x ≤ y) → (T (not b) → y < x) → Memᴰ u (x ∷ xs) → cond b x y ≤ u
    go u true a b (Memᴰ-head e) = omega arith
    go u true a b (Memᴰ-tail n) = omega (arith, h u n, a tt)
    go u false a b (Memᴰ-head e) = omega (arith, b tt)
    go u false a b (Memᴰ-tail n) = h u n

lowest-bound : (xs : List ℕ) → Bound (lowest xs) xs
unfolding lowest
lowest-bound [] = λ u m. Memᴰ-not-nil m
lowest-bound (x ∷ xs) = smaller-bound x (lowest xs) xs (lowest-bound xs)

-- the lowest is none where the list is empty
pub lowest-none : (xs : List ℕ) → lowest xs ≡ None → (u : ℕ) → ¬ Memᴰ u xs
lowest-none xs e = subst (λ (o : Option ℕ). Bound o xs) e (lowest-bound xs)

-- nothing is below the lowest
pub lowest-least : (xs : List ℕ) (v : ℕ) → lowest xs ≡ Some v → (u : ℕ) → Memᴰ u xs → v ≤ u
lowest-least xs v e = subst (λ (o : Option ℕ). Bound o xs) e (lowest-bound xs)

-- there is a lowest where there is any
pub lowest-some : (xs : List ℕ) (u : ℕ) → Memᴰ u xs → (w : ℕ) × (lowest xs ≡ Some w)
lowest-some xs u m = by_option (lowest xs) (λ e. absurd (lowest-none xs e u m)) (λ q p. (q, p))
