-- What the merge of two cuts goes by:
--     compare-..                  the native comparison and the order
--     first_less, first-same ..   the union by the heads of the two lists
--     union-long                  a union is no shorter than either list; where it is no longer, that one's signature has the other's
use Rattle.base.specs.{◌≡◌, refl, sym, ap, ◌∙◌, subst, true, false, List, [], ◌∷◌, ℕ, zero, suc, ◌+◌, ◌≤◌, ◌<◌, compare, Ordering}
use Rattle.base.specs.{Ordering-lt, Ordering-eq, Ordering-gt, arith, compare_is_eq, is_le, length, eq-eqb, lt-leb}
use Rattle.model.specs.{put, insert, union}
use Rattle.theory_graph.proofs.{compare-found}
use Rattle.theory_order.proofs.{compare_less, compare-more, less_compare}
use Rattle.cut_lists.specs.{Rising}
use Rattle.cut_lists.proofs.LeafSignatures.{Within, mark, signed, one-within, within_more, within_both}

-- the native comparison, by the order
pub compare-eq : (x y : ℕ) → x ≡ y → compare x y ≡ Ordering-eq
compare-eq x y h = by (compare x y) (eq-eqb x y h)
  where
    by : (o : Ordering) → compare_is_eq o ≡ true → o ≡ Ordering-eq
    by Ordering-lt b = absurd (mathlib.Core.Bool.true≢false (sym b))
    by Ordering-eq b = refl
    by Ordering-gt b = absurd (mathlib.Core.Bool.true≢false (sym b))

pub compare-gt : (x y : ℕ) → y < x → compare x y ≡ Ordering-gt
compare-gt x y h = by (compare x y) (lt-leb x y h)
  where
    by : (o : Ordering) → is_le o ≡ false → o ≡ Ordering-gt
    by Ordering-lt b = absurd (mathlib.Core.Bool.true≢false b)
    by Ordering-eq b = absurd (mathlib.Core.Bool.true≢false b)
    by Ordering-gt b = refl

pub rising-from : {lo hi : ℕ} (xs : List ℕ) → lo ≤ hi → Rising hi xs → Rising lo xs
rising-from [] h r = tt
rising-from (x ∷ xs) h r = (omega (arith, r.0), r.1)

-- a number put before greater ones
pub insert-first : (x : ℕ) (l : List ℕ) → Rising (suc x) l → insert compare x l ≡ x ∷ l
unfolding insert put
insert-first x [] r = refl
insert-first x (y ∷ ys) r = rw (less_compare x y r.0)

pub insert-before : (x y : ℕ) (l : List ℕ) → x < y → insert compare x (y ∷ l) ≡ x ∷ y ∷ l
unfolding insert put
insert-before x y l h = rw (less_compare x y h)

pub insert-past : (x y : ℕ) (l : List ℕ) → y < x → insert compare x (y ∷ l) ≡ y ∷ insert compare x l
unfolding insert put
insert-past x y l h = rw (compare-gt x y h)

pub insert-same : (x y : ℕ) (l : List ℕ) → x ≡ y → insert compare x (y ∷ l) ≡ y ∷ l
unfolding insert put
insert-same x y l h = rw (compare-eq x y h)

-- the two ways by which numbers may differ
pub three {ℓ} : {X : Type ℓ} (x y : ℕ) → (x < y → X) → (x ≡ y → X) → (y < x → X) → X
three {X} x y a b c = by (compare x y) refl
  where
    by : (o : Ordering) → compare x y ≡ o → X
    by Ordering-lt e = a (compare_less x y e)
    by Ordering-eq e = b (compare-found x y e)
    by Ordering-gt e = c (compare-more x y e)

pub insert-rising : (lo x : ℕ) (l : List ℕ) → lo ≤ x → Rising lo l → Rising lo (insert compare x l)
unfolding insert
insert-rising lo x [] h r = (h, tt)
insert-rising lo x (y ∷ ys) h r =
    three x y
    (λ e. subst (Rising lo) (sym (insert-first x (y ∷ ys) (e, r.1))) (h, (e, r.1)))
    (λ e. subst (Rising lo) (sym (insert-same x y ys e)) r)
    (λ e. subst (Rising lo) (sym (insert-past x y ys e)) (r.0, insert-rising (suc y) x ys e r.1))

pub union-rising : (lo : ℕ) (xs ys : List ℕ) → Rising lo xs → Rising lo ys → Rising lo (union compare xs ys)
unfolding union
union-rising lo [] ys r s = s
union-rising lo (x ∷ xs) ys r s =
    insert-rising lo x (union compare xs ys) r.0 (union-rising lo xs ys (rising-from xs (omega (arith, r.0)) r.1) s)

-- what stands before all of xs comes out first
pub union-past : (y : ℕ) (xs B : List ℕ) → Rising (suc y) xs → union compare xs (y ∷ B) ≡ y ∷ union compare xs B
unfolding union
union-past y [] B r = refl
union-past y (x ∷ xs) B r =
    ap (insert compare x) (union-past y xs B (rising-from xs (omega (arith, r.0)) r.1))
    ∙ insert-past x y (union compare xs B) r.0

pub union_nil : (lo : ℕ) (xs : List ℕ) → Rising lo xs → union compare xs [] ≡ xs
unfolding union
union_nil lo [] r = refl
union_nil lo (x ∷ xs) r = ap (insert compare x) (union_nil (suc x) xs r.1) ∙ insert-first x xs r.1

-- the union of two lists that are not empty, where the first head is the lesser, and where the heads are the same
pub first_less : (x y : ℕ) (A B : List ℕ) → x < y → Rising (suc x) A → Rising (suc y) B → union compare (x ∷ A) (y ∷ B) ≡ x ∷ union compare A (y ∷ B)
unfolding union
first_less x y A B less r s = insert-first x (union compare A (y ∷ B)) (union-rising (suc x) A (y ∷ B) r (less, s))

pub first-same : (x y : ℕ) (A B : List ℕ) → x ≡ y → Rising (suc x) A → union compare (x ∷ A) (y ∷ B) ≡ y ∷ union compare A B
unfolding union
first-same x y A B same r =
    ap (insert compare x) (union-past y A B (rising-from A (omega arith) r)) ∙ insert-same x y (union compare A B) same

-- a union is no shorter than d, and where it is no longer either, c's signature is within d's
abbrev pub Beside : List ℕ → List ℕ → List ℕ → Type 0
Beside c d u = (length d ≤ length u) × (length u ≤ length d → Within (signed c) (signed d))

of_nil : (B : List ℕ) → Beside B [] (union compare [] B) × Beside [] B (union compare [] B)
unfolding union signed
of_nil [] = ((omega arith, λ h. refl), (omega arith, λ h. refl))
of_nil (y ∷ B) = ((omega arith, λ h. absurd (omega arith)), (omega arith, λ h. one-within (y ∷ B)))

-- what a union with either list comes to
pub union-long : (lo : ℕ) (A B : List ℕ) → Rising lo A → Rising lo B → Beside B A (union compare A B) × Beside A B (union compare A B)
unfolding signed
union-long lo A B ra rb = go (length A + length B) lo A B (omega arith) ra rb
  where
    go : (n lo : ℕ) (A B : List ℕ) → length A + length B ≤ n → Rising lo A → Rising lo B
        → Beside B A (union compare A B) × Beside A B (union compare A B)
    go n lo [] B h ra rb = of_nil B
    go n lo (x ∷ A) [] h ra rb =
        let e = ap length (union_nil lo (x ∷ A) ra) in
        ((omega (arith, e), λ l. one-within (x ∷ A)), (omega arith, λ l. absurd (omega (arith, e, l))))
    go zero lo (x ∷ A) (y ∷ B) h ra rb = absurd (omega arith)
    go (suc n) lo (x ∷ A) (y ∷ B) h ra rb =
        three x y
        (λ less. let e = ap length (first_less x y A B less ra.1 rb.1) in
        let r = go n (suc x) A (y ∷ B) (omega arith) ra.1 (less, rb.1) in (
          (omega (arith, e, r.0.0), λ l. within_more (signed (y ∷ B)) (signed A) (mark x) (r.0.1 (omega (arith, e, l)))),
          (omega (arith, e, r.1.0), λ l. absurd (omega (arith, e, l, r.1.0))),
        ))
        (λ same. let e = ap length (first-same x y A B same ra.1) in
        let r = go n (suc x) A B (omega arith) ra.1 (rising-from B (omega arith) rb.1) in (
          (omega (arith, e, r.0.0), λ l. rw same (within_both (signed B) (signed A) (mark y) (r.0.1 (omega (arith, e, l))))),
          (omega (arith, e, r.1.0), λ l. rw same (within_both (signed A) (signed B) (mark y) (r.1.1 (omega (arith, e, l))))),
        ))
        (λ more. let e = ap length (union-past y (x ∷ A) B (more, ra.1)) in
        let r = go n (suc y) (x ∷ A) B (omega arith) (more, ra.1) rb.1 in (
          (omega (arith, e, r.0.0), λ l. absurd (omega (arith, e, l, r.0.0))),
          (omega (arith, e, r.1.0), λ l. within_more (signed (x ∷ A)) (signed B) (mark y) (r.1.1 (omega (arith, e, l)))),
        ))
