-- Lists compared left to right, and lists whose elements ascend.
use Rattle.base.specs.{ℕ, zero, suc, ◌≤◌, ◌<◌, compare, Ordering, Ordering-lt, Ordering-eq, Ordering-gt, lt_trans, arith, ◌≡◌, refl, sym}
use Rattle.base.specs.{◌∙◌, subst, ⊎_elim, Bool, not, List, [], ◌∷◌, ◌++◌, map, Memᴰ, Memᴰ-head, Memᴰ-tail}
use Rattle.base.specs.{Memᴰ-append_cases, T, is_le, compare_is_eq, eqb_refl, le→leb, no_eqb}
use Rattle.model.specs.{keep, each, from, below, after, compare_leaves}
use Rattle.theory_graph.proofs.{map_out, keep_out, each_out, by_eqb, by_bool, from_low}

-- ---- lists compared left to right

-- a list that does not come after another
pub data UpTo : List ℕ → List ℕ → Type 0 where
  short : {ys : List ℕ} → UpTo [] ys
  less : {x y : ℕ} {xs ys : List ℕ} → x < y → UpTo (x ∷ xs) (y ∷ ys)
  even : {x y : ℕ} {xs ys : List ℕ} → x ≡ y → UpTo xs ys → UpTo (x ∷ xs) (y ∷ ys)

pub up_refl : (xs : List ℕ) → UpTo xs xs
up_refl [] = short
up_refl (x ∷ xs) = even refl (up_refl xs)

pub up_trans : {xs ys zs : List ℕ} → UpTo xs ys → UpTo ys zs → UpTo xs zs
up_trans short q = short
up_trans (less h) (less k) = less (lt_trans h k)
up_trans (less {x = x} h) (even e q) = less (subst (λ (n : ℕ). x < n) e h)
up_trans (even e p) (less {y = z} k) = less (subst (λ (n : ℕ). n < z) (sym e) k)
up_trans (even e p) (even f q) = even (e ∙ f) (up_trans p q)

pub up_not-after : {xs ys : List ℕ} → UpTo xs ys → ¬ (compare_leaves xs ys ≡ Ordering-gt)
unfolding compare_leaves after
up_not-after {ys = ys} short = go ys
  where
    go : (ys : List ℕ) → ¬ (compare_leaves [] ys ≡ Ordering-gt)
    go [] e = let z : ◌≡◌ {A = ℕ} 0 1 = cc in omega arith
    go (y ∷ ys) e = let z : ◌≡◌ {A = ℕ} 0 1 = cc in omega arith
up_not-after (less {x = x} {y = y} {xs = xs} {ys = ys} h) = go (compare x y) (le→leb x y (omega arith)) (no_eqb {a = x} {b = y} (omega arith))
  where
    go : (o : Ordering) → T (is_le o) → T (not (compare_is_eq o)) → ¬ (after o (compare_leaves xs ys) ≡ Ordering-gt)
    go Ordering-lt a b e = let z : ◌≡◌ {A = ℕ} 0 1 = cc in omega arith
    go Ordering-eq a b e = b
    go Ordering-gt a b e = a
up_not-after (even {x = x} {y = y} {xs = xs} {ys = ys} s p) = go (compare x y) (subst (λ (n : ℕ). T (compare_is_eq (compare x n))) s (eqb_refl x)) (up_not-after p)
  where
    go : (o : Ordering) → T (compare_is_eq o) → ¬ (compare_leaves xs ys ≡ Ordering-gt) → ¬ (after o (compare_leaves xs ys) ≡ Ordering-gt)
    go Ordering-lt a r e = a
    go Ordering-eq a r e = r e
    go Ordering-gt a r e = a

pub up_head : {x y : ℕ} {xs ys : List ℕ} → UpTo (x ∷ xs) (y ∷ ys) → x ≤ y
up_head (less h) = omega arith
up_head (even e p) = omega arith

pub up_cons : {x y : ℕ} {xs ys : List ℕ} → x ≤ y → UpTo xs ys → UpTo (x ∷ xs) (y ∷ ys)
up_cons {x} {y} h p = by_eqb x y (λ e. even e p) (λ d. less (omega arith))

-- ---- lists whose elements ascend

-- each element of a list has the relation to those after it
abbrev pub Pairwise : {A : Type 0} → (A → A → Type 0) → List A → Type 0
Pairwise R [] = Unit {0}
Pairwise {A} R (x ∷ xs) = ((y : A) → Memᴰ y xs → R x y) × Pairwise R xs

module _ {A : Type 0} (R : A → A → Type 0) where
  pub pairwise_append : (xs ys : List A) → Pairwise R xs → Pairwise R ys → ((x y : A) → Memᴰ x xs → Memᴰ y ys → R x y) → Pairwise R (xs ++ ys)
  pairwise_append [] ys p q h = q
  pairwise_append (x ∷ xs) ys p q h = (
    (λ y m. ⊎_elim (λ e. p.0 y e) (h x y (Memᴰ-head refl))
        (Memᴰ-append_cases xs m)),
    pairwise_append xs ys p.1 q (λ a b m n. h a b (Memᴰ-tail m) n),
  )

  pub pairwise_keep : (p : A → Bool) (xs : List A) → Pairwise R xs → Pairwise R (keep p xs)
  unfolding keep
  pairwise_keep p [] h = tt
  pairwise_keep p (x ∷ xs) h = by_bool (p x) (λ e. rw e ((λ y m. h.0 y (keep_out p xs m).0), (pairwise_keep p xs h.1)))
      (λ q. rw q (pairwise_keep p xs h.1))

  pub pairwise_map : {B : Type 0} (S : B → B → Type 0) (f : B → A) → ((x y : B) → S x y → R (f x) (f y)) → (xs : List B) → Pairwise S xs → Pairwise R (map f xs)
  pairwise_map S f h [] p = tt
  pairwise_map S f h (x ∷ xs) p =
      ((λ y m. let o = map_out f xs m in subst (R (f x)) (sym o.2) (h x o.0 (p.0 o.0 o.1))), pairwise_map S f h xs p.1)

  pub pairwise_each : {B : Type 0} (S : B → B → Type 0) (f : B → List A) → ((x y : B) → S x y → (a b : A) → Memᴰ a (f x) → Memᴰ b (f y) → R a b)
      → ((x : B) → Pairwise R (f x)) → (xs : List B) → Pairwise S xs → Pairwise R (each f xs)
  unfolding each
  pairwise_each S f h one [] p = tt
  pairwise_each S f h one (x ∷ xs) p = pairwise_append (f x) (each f xs) (one x) (pairwise_each S f h one xs p.1)
      (λ a b m n. let o = each_out f xs n in h x o.0 (p.0 o.0 o.1) a b m o.2)

from-ascends : (n i : ℕ) → Pairwise (λ (a b : ℕ). a < b) (from i n)
unfolding from
from-ascends zero i = tt
from-ascends (suc n) i = ((λ k m. from_low n (suc i) k m), from-ascends n (suc i))

pub below-ascends : (n : ℕ) → Pairwise (λ (a b : ℕ). a < b) (below n)
unfolding below
below-ascends n = from-ascends n 0
