-- Ascending lists: what `insert` and `union` make is ascending, and an ascending list of numbers is known by its members. The comparison of two cuts
-- is an order.
--     union-ascends               a union with an ascending list is ascending
--     ascending_unique            two ascending lists of numbers with the same members are one
--     ascending_once              an ascending list has nothing twice
--     cuts-found, cuts_back, cuts-on, cuts_never      "Cuts are listed by size, then by ascending leaves compared left to right": an order
use Rattle.base.specs.{ℕ, ◌<◌, compare, Ordering, Ordering-lt, Ordering-eq, Ordering-gt, arith, ◌≡◌, refl, sym, ◌∙◌, ap, subst, true, false}
use Rattle.base.specs.{true≢false, false≢true, ◌⊎◌, inl, inr, ⊎_elim, List, [], ◌∷◌, Memᴰ, Memᴰ-head, Memᴰ-tail}
use Rattle.base.specs.{Memᴰ-not-nil, Memᴰ-cases_cons, is_le, compare_is_eq, length, leb-true, leb-false, eqb-false, le-leb, ne_eqb, eq-eqb}
use Rattle.model.specs.{put, insert, union, after, compare_leaves, compare_cuts, Distinct, Ascending}
use Rattle.theory_graph.proofs.{insert-only, compare-found}

pub ascending_once : {A : Type 0} (less : A → A → Type 0) → ((x : A) → ¬ less x x) → (xs : List A) → Ascending less xs → Distinct xs
ascending_once less never [] h = tt
ascending_once less never (x ∷ xs) h = ((λ m. never x (h.0 x m)), ascending_once less never xs h.1)

module _ {A : Type 0} (cmp : A → A → Ordering) (less : A → A → Type 0) (below : (x y : A) → cmp x y ≡ Ordering-lt → less x y)
    (above : (x y : A) → cmp x y ≡ Ordering-gt → less y x) (on : (x y z : A) → less x y → less y z → less x z) where
  put-ascends : (o : Ordering) (x y : A) (ys r : List A) → cmp x y ≡ o → Ascending less (y ∷ ys) → ((a : A) → Memᴰ a r → (a ≡ x) ⊎ Memᴰ a ys)
      → Ascending less r → Ascending less (put o x y ys r)
  unfolding put
  put-ascends Ordering-lt x y ys r e h only k =
      ((λ z m. ⊎_elim (λ q. rw q (below x y e)) (λ p. on x y z (below x y e) (h.0 z p)) (Memᴰ-cases_cons m)), h)
  put-ascends Ordering-eq x y ys r e h only k = h
  put-ascends Ordering-gt x y ys r e h only k = ((λ z m. ⊎_elim (λ q. subst (less y) (sym q) (above x y e)) (λ p. h.0 z p) (only z m)), k)

  insert-ascends : (x : A) (ys : List A) → Ascending less ys → Ascending less (insert cmp x ys)
  unfolding insert
  insert-ascends x [] h = ((λ z m. absurd (Memᴰ-not-nil m)), tt)
  insert-ascends x (y ∷ ys) h = put-ascends (cmp x y) x y ys (insert cmp x ys) refl h (λ a. insert-only cmp x a ys) (insert-ascends x ys h.1)

  pub union-ascends : (xs ys : List A) → Ascending less ys → Ascending less (union cmp xs ys)
  unfolding union
  union-ascends [] ys h = h
  union-ascends (x ∷ xs) ys h = insert-ascends x (union cmp xs ys) (union-ascends xs ys h)

-- ---- numbers

pub compare_less : (x y : ℕ) → compare x y ≡ Ordering-lt → x < y
compare_less x y e = omega (arith, leb-true x y (ap is_le e), (eqb-false x y (ap compare_is_eq e)))

pub compare-more : (x y : ℕ) → compare x y ≡ Ordering-gt → y < x
compare-more x y e = leb-false x y (ap is_le e)

pub less_compare : (x y : ℕ) → x < y → compare x y ≡ Ordering-lt
less_compare x y h = go (compare x y) (le-leb x y (omega arith)) (ne_eqb x y (λ e. omega arith))
  where
    go : (o : Ordering) → is_le o ≡ true → compare_is_eq o ≡ false → o ≡ Ordering-lt
    go Ordering-lt a b = refl
    go Ordering-eq a b = absurd (true≢false b)
    go Ordering-gt a b = absurd (false≢true a)

same-compare : (x : ℕ) → compare x x ≡ Ordering-eq
same-compare x = go (compare x x) (eq-eqb x x refl)
  where
    go : (o : Ordering) → compare_is_eq o ≡ true → o ≡ Ordering-eq
    go Ordering-lt b = absurd (false≢true b)
    go Ordering-eq b = refl
    go Ordering-gt b = absurd (false≢true b)

-- a union of numbers with an ascending list
pub leaves_ascend : (c d : List ℕ) → Ascending ◌<◌ d → Ascending ◌<◌ (union compare c d)
leaves_ascend = union-ascends compare ◌<◌ compare_less compare-more (λ x y z a b. omega arith)

-- a set is one list
pub ascending_unique : (xs ys : List ℕ) → Ascending ◌<◌ xs → Ascending ◌<◌ ys → ((x : ℕ) → Memᴰ x xs → Memᴰ x ys) → ((x : ℕ) → Memᴰ x ys → Memᴰ x xs) → xs ≡ ys
ascending_unique [] [] a b sub back = refl
ascending_unique [] (y ∷ ys) a b sub back = absurd (Memᴰ-not-nil (back y (Memᴰ-head refl)))
ascending_unique (x ∷ xs) [] a b sub back = absurd (Memᴰ-not-nil (sub x (Memᴰ-head refl)))
ascending_unique (x ∷ xs) (y ∷ ys) a b sub back =
    let heads = ⊎_elim (λ e. e)
    (λ m. ⊎_elim sym (λ n. absurd (omega (arith, b.0 x m, a.0 y n))) (Memᴰ-cases_cons (back y (Memᴰ-head refl))))
    (Memᴰ-cases_cons (sub x (Memᴰ-head refl))) in
    cc (
      heads,
      ascending_unique xs ys a.1 b.1
          (λ z m. rest z ys y (sub z (Memᴰ-tail m)) (λ e. let l = a.0 z m in omega (arith, heads)))
          (λ z m. rest z xs x (back z (Memᴰ-tail m)) (λ e. let l = b.0 z m in omega (arith, heads))),
    )
  where
    rest : (z : ℕ) (zs : List ℕ) (w : ℕ) → Memᴰ z (w ∷ zs) → ¬ (z ≡ w) → Memᴰ z zs
    rest z zs w (Memᴰ-head e) h = absurd (h e)
    rest z zs w (Memᴰ-tail m) h = m

-- ---- one comparison of numbers, and another where it finds no difference

after_less : (a b : ℕ) (o : Ordering) → after (compare a b) o ≡ Ordering-lt → (a < b) ⊎ ((a ≡ b) × (o ≡ Ordering-lt))
unfolding after
after_less a b o = go (compare a b) refl
  where
    go : (p : Ordering) → compare a b ≡ p → after p o ≡ Ordering-lt → (a < b) ⊎ ((a ≡ b) × (o ≡ Ordering-lt))
    go Ordering-lt e h = inl (compare_less a b e)
    go Ordering-eq e h = inr (compare-found a b e, h)
    go Ordering-gt e h = absurd (false≢true (ap is_le h))

less_after : (a b : ℕ) (o : Ordering) → (a < b) ⊎ ((a ≡ b) × (o ≡ Ordering-lt)) → after (compare a b) o ≡ Ordering-lt
unfolding after
less_after a b o (inl h) = ap (λ (p : Ordering). after p o) (less_compare a b h)
less_after a b o (inr h) = ap (λ (c : ℕ). after (compare a c) o) (sym h.0) ∙ ap (λ (p : Ordering). after p o) (same-compare a) ∙ h.1

after-found : (a b : ℕ) (o : Ordering) → after (compare a b) o ≡ Ordering-eq → (a ≡ b) × (o ≡ Ordering-eq)
unfolding after
after-found a b o = go (compare a b) refl
  where
    go : (p : Ordering) → compare a b ≡ p → after p o ≡ Ordering-eq → (a ≡ b) × (o ≡ Ordering-eq)
    go Ordering-lt e h = absurd (false≢true (ap compare_is_eq h))
    go Ordering-eq e h = (compare-found a b e, h)
    go Ordering-gt e h = absurd (false≢true (ap compare_is_eq h))

after-back : (a b : ℕ) (o p : Ordering) → (o ≡ Ordering-gt → p ≡ Ordering-lt) → after (compare a b) o ≡ Ordering-gt → after (compare b a) p ≡ Ordering-lt
unfolding after
after-back a b o p back = go (compare a b) refl
  where
    go : (q : Ordering) → compare a b ≡ q → after q o ≡ Ordering-gt → after (compare b a) p ≡ Ordering-lt
    go Ordering-lt e h = absurd (true≢false (ap is_le h))
    go Ordering-eq e h = less_after b a p (inr (sym (compare-found a b e), back h))
    go Ordering-gt e h = less_after b a p (inl (compare-more a b e))

after_on : (a b c : ℕ) (o p q : Ordering) → (o ≡ Ordering-lt → p ≡ Ordering-lt → q ≡ Ordering-lt)
    → after (compare a b) o ≡ Ordering-lt → after (compare b c) p ≡ Ordering-lt → after (compare a c) q ≡ Ordering-lt
after_on a b c o p q on h k = less_after a c q (⊎_elim
    (λ x. ⊎_elim (λ y. inl (omega arith)) (λ e. inl (omega (arith, e.0))) (after_less b c p k))
    (λ r. ⊎_elim (λ z. inl (omega (arith, r.0))) (λ w. inr (r.0 ∙ w.0, on r.1 w.1)) (after_less b c p k)) (after_less a b o h))

after_never : (a : ℕ) (o : Ordering) → after (compare a a) o ≡ Ordering-lt → o ≡ Ordering-lt
after_never a o h = ⊎_elim (λ x. absurd (omega arith)) (λ q. q.1) (after_less a a o h)

-- ---- "by ascending leaves compared left to right"

leaves-found : (c d : List ℕ) → compare_leaves c d ≡ Ordering-eq → c ≡ d
unfolding compare_leaves
leaves-found [] [] e = refl
leaves-found [] (y ∷ ys) e = absurd (false≢true (ap compare_is_eq e))
leaves-found (x ∷ xs) [] e = absurd (false≢true (ap compare_is_eq e))
leaves-found (x ∷ xs) (y ∷ ys) e = let f = after-found x y (compare_leaves xs ys) e in cc (f.0, leaves-found xs ys f.1)

leaves-back : (c d : List ℕ) → compare_leaves c d ≡ Ordering-gt → compare_leaves d c ≡ Ordering-lt
unfolding compare_leaves
leaves-back [] [] e = absurd (true≢false (ap is_le e))
leaves-back [] (y ∷ ys) e = absurd (true≢false (ap is_le e))
leaves-back (x ∷ xs) [] e = refl
leaves-back (x ∷ xs) (y ∷ ys) e = after-back x y (compare_leaves xs ys) (compare_leaves ys xs) (leaves-back xs ys) e

leaves-on : (c d e : List ℕ) → compare_leaves c d ≡ Ordering-lt → compare_leaves d e ≡ Ordering-lt → compare_leaves c e ≡ Ordering-lt
unfolding compare_leaves
leaves-on [] [] e h k = k
leaves-on [] (y ∷ ys) [] h k = absurd (false≢true (ap is_le k))
leaves-on [] (y ∷ ys) (z ∷ zs) h k = refl
leaves-on (x ∷ xs) [] e h k = absurd (false≢true (ap is_le h))
leaves-on (x ∷ xs) (y ∷ ys) [] h k = absurd (false≢true (ap is_le k))
leaves-on (x ∷ xs) (y ∷ ys) (z ∷ zs) h k = after_on x y z (compare_leaves xs ys) (compare_leaves ys zs) (compare_leaves xs zs) (leaves-on xs ys zs) h k

leaves_never : (c : List ℕ) → ¬ (compare_leaves c c ≡ Ordering-lt)
unfolding compare_leaves
leaves_never [] e = true≢false (ap compare_is_eq e)
leaves_never (x ∷ xs) e = leaves_never xs (after_never x (compare_leaves xs xs) e)

-- ---- "Cuts are listed by size, then by ascending leaves"

-- one cut is listed before another
abbrev pub Before : List ℕ → List ℕ → Type 0
Before c d = compare_cuts c d ≡ Ordering-lt

pub cuts-found : (c d : List ℕ) → compare_cuts c d ≡ Ordering-eq → c ≡ d
unfolding compare_cuts
cuts-found c d e = leaves-found c d (after-found (length c) (length d) (compare_leaves c d) e).1

pub cuts_back : (c d : List ℕ) → compare_cuts c d ≡ Ordering-gt → Before d c
unfolding compare_cuts
cuts_back c d e = after-back (length c) (length d) (compare_leaves c d) (compare_leaves d c) (leaves-back c d) e

pub cuts-on : (c d e : List ℕ) → Before c d → Before d e → Before c e
unfolding compare_cuts
cuts-on c d e h k = after_on (length c) (length d) (length e) (compare_leaves c d) (compare_leaves d e) (compare_leaves c e) (leaves-on c d e) h k

pub cuts_never : (c : List ℕ) → ¬ Before c c
unfolding compare_cuts
cuts_never c e = leaves_never c (after_never (length c) (compare_leaves c c) e)

-- a union of lists of cuts with a list in that order
pub cuts_ascend : (cs ds : List (List ℕ)) → Ascending Before ds → Ascending Before (union compare_cuts cs ds)
cuts_ascend = union-ascends compare_cuts Before (λ c d e. e) cuts_back cuts-on
