-- `insert` and `union` of `Base`: what they hold, and that they stay ascending.
use Rattle.base.specs.{Ordering, Ordering-lt, Ordering-eq, Ordering-gt, ◌≡◌, refl, ◌⊎◌, inl, inr, ⊎_elim, List, [], ◌∷◌, Memᴰ}
use Rattle.base.specs.{Memᴰ-head, Memᴰ-tail, Memᴰ-cases_cons, Memᴰ-cast}
use Rattle.model.specs.{put, insert, union}

module _ {A : Type 0} where
  put_new : (o : Ordering) (x y : A) (ys r : List A) → (o ≡ Ordering-eq → x ≡ y) → Memᴰ x r → Memᴰ x (put o x y ys r)
  unfolding put
  put_new Ordering-lt x y ys r same m = Memᴰ-head refl
  put_new Ordering-eq x y ys r same m = Memᴰ-head (same refl)
  put_new Ordering-gt x y ys r same m = Memᴰ-tail m

  put_old : (o : Ordering) (x y a : A) (ys r : List A) → (Memᴰ a ys → Memᴰ a r) → Memᴰ a (y ∷ ys) → Memᴰ a (put o x y ys r)
  unfolding put
  put_old Ordering-lt x y a ys r keeps m = Memᴰ-tail m
  put_old Ordering-eq x y a ys r keeps m = m
  put_old Ordering-gt x y a ys r keeps (Memᴰ-head e) = Memᴰ-head e
  put_old Ordering-gt x y a ys r keeps (Memᴰ-tail m) = Memᴰ-tail (keeps m)

  later : {a x y : A} {ys : List A} → (a ≡ x) ⊎ Memᴰ a ys → (a ≡ x) ⊎ Memᴰ a (y ∷ ys)
  later (inl e) = inl e
  later (inr m) = inr (Memᴰ-tail m)

  put_only : (o : Ordering) (x y a : A) (ys r : List A) → (Memᴰ a r → (a ≡ x) ⊎ Memᴰ a ys) → Memᴰ a (put o x y ys r) → (a ≡ x) ⊎ Memᴰ a (y ∷ ys)
  unfolding put
  put_only Ordering-lt x y a ys r back m = Memᴰ-cases_cons m
  put_only Ordering-eq x y a ys r back m = inr m
  put_only Ordering-gt x y a ys r back (Memᴰ-head e) = inr (Memᴰ-head e)
  put_only Ordering-gt x y a ys r back (Memᴰ-tail m) = later (back m)

module _ {A : Type 0} (cmp : A → A → Ordering) where
  -- the old ones stay
  pub insert_old : (x a : A) (ys : List A) → Memᴰ a ys → Memᴰ a (insert cmp x ys)
  unfolding insert
  insert_old x a [] m = Memᴰ-tail m
  insert_old x a (y ∷ ys) m = put_old (cmp x y) x y a ys (insert cmp x ys) (insert_old x a ys) m

  -- and nothing else comes in
  pub insert-only : (x a : A) (ys : List A) → Memᴰ a (insert cmp x ys) → (a ≡ x) ⊎ Memᴰ a ys
  unfolding insert
  insert-only x a [] m = Memᴰ-cases_cons m
  insert-only x a (y ∷ ys) m = put_only (cmp x y) x y a ys (insert cmp x ys) (insert-only x a ys) m

  pub union_right : (a : A) (xs ys : List A) → Memᴰ a ys → Memᴰ a (union cmp xs ys)
  unfolding union
  union_right a [] ys m = m
  union_right a (x ∷ xs) ys m = insert_old x a (union cmp xs ys) (union_right a xs ys m)

  pub union-only : (a : A) (xs ys : List A) → Memᴰ a (union cmp xs ys) → Memᴰ a xs ⊎ Memᴰ a ys
  unfolding union
  union-only a [] ys m = inr m
  union-only a (x ∷ xs) ys m = ⊎_elim (λ e. inl (Memᴰ-head e)) (λ n. ⊎_elim (λ q. inl (Memᴰ-tail q)) inr (union-only a xs ys n))
      (insert-only x a (union cmp xs ys) m)

-- where the comparison finds no difference the two are the same
module _ {A : Type 0} (cmp : A → A → Ordering) (found : (x y : A) → cmp x y ≡ Ordering-eq → x ≡ y) where
  -- the new element is there
  pub insert_new : (x : A) (ys : List A) → Memᴰ x (insert cmp x ys)
  unfolding insert
  insert_new x [] = Memᴰ-head refl
  insert_new x (y ∷ ys) = put_new (cmp x y) x y ys (insert cmp x ys) (found x y) (insert_new x ys)

  pub union_left : (a : A) (xs ys : List A) → Memᴰ a xs → Memᴰ a (union cmp xs ys)
  unfolding union
  union_left a (x ∷ xs) ys (Memᴰ-head e) = Memᴰ-cast e (insert_new x (union cmp xs ys))
  union_left a (x ∷ xs) ys (Memᴰ-tail m) = insert_old cmp x a (union cmp xs ys) (union_left a xs ys m)
  union_left a [] ys x' = elim x' [ ]
