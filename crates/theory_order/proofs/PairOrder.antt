-- "for each root cell, pin and inner cell with at least one pin, in that order of lines, form a pair feeding that pin, if the result has at most four pins";
-- "all pairs are kept".
use Rattle.base.specs.{ℕ, zero, suc, ◌+◌, ◌≤◌, ◌<◌, arith, ◌≡◌, refl, sym, ◌∙◌, ap, subst, inl, inr, ◌↔◌, ⊎_elim, Bool, List, [], ◌∷◌, ◌++◌}
use Rattle.base.specs.{map, Memᴰ, Memᴰ-head, Memᴰ-tail, Memᴰ-not-nil, Memᴰ-append_cases, T, leb, le→leb, length}
use Rattle.base.specs.{and_yes, yes_and, leb_yes}
use Rattle.model.specs.{each, keep, from, below, cell_at, Pair, joins, pairs_of, Joined, Before, Rising, PairsKept}
use Rattle.model.specs.declared.Cell.{Cell}
use Rattle.theory_graph.proofs.{map_in, map_out, each_in, each_out, keep_in, keep_out, below_in, below_out, by_bool, by_member, from_low}

-- ---- lists each of whose elements stands before all that follow it

module _ {A : Type 0} (R : A → A → Type 0) where
  abbrev Sorted : List A → Type 0
  Sorted [] = Unit
  Sorted (x ∷ xs) = ((y : A) → Memᴰ y xs → R x y) × Sorted xs

  sorted_append : (xs ys : List A) → Sorted xs → Sorted ys → ((x y : A) → Memᴰ x xs → Memᴰ y ys → R x y) → Sorted (xs ++ ys)
  sorted_append [] ys s t h = t
  sorted_append (x ∷ xs) ys s t h = (
    (λ y m. ⊎_elim (λ q. s.0 y q) (h x y (Memᴰ-head refl)) (Memᴰ-append_cases xs m)),
    sorted_append xs ys s.1 t
        (λ a b m n. h a b (Memᴰ-tail m) n),
  )

  sorted-keep : (p : A → Bool) (xs : List A) → Sorted xs → Sorted (keep p xs)
  unfolding keep
  sorted-keep p [] s = tt
  sorted-keep p (x ∷ xs) s = by_bool (p x) (λ e. rw e ((λ y m. s.0 y (keep_out p xs m).0), (sorted-keep p xs s.1)))
      (λ q. rw q (sorted-keep p xs s.1))

module _ {A B : Type 0} (R : A → A → Type 0) (S : B → B → Type 0) where
  sorted-map : (f : A → B) → ((x y : A) → R x y → S (f x) (f y)) → (xs : List A) → Sorted R xs → Sorted S (map f xs)
  sorted-map f h [] s = tt
  sorted-map f h (x ∷ xs) s = ((λ y m. let a = map_out f xs m in subst (S (f x)) (sym a.2) (h x a.0 (s.0 a.0 a.1))), sorted-map f h xs s.1)

  -- the lists that f gives, one after the other: each is sorted, and what comes of an earlier element stands before what comes of a later one
  sorted-each : (f : A → List B) → ((x : A) → Sorted S (f x)) → ((x y : A) → R x y → (a b : B) → Memᴰ a (f x) → Memᴰ b (f y) → S a b)
      → (xs : List A) → Sorted R xs → Sorted S (each f xs)
  unfolding each
  sorted-each f own h [] s = tt
  sorted-each f own h (x ∷ xs) s = sorted_append S (f x) (each f xs) (own x) (sorted-each f own h xs s.1)
      (λ a b m n. let w = each_out f xs n in h x w.0 (s.0 w.0 w.1) a b m w.2)

from_sorted : (n i : ℕ) → Sorted ◌<◌ (from i n)
unfolding from
from_sorted zero i = tt
from_sorted (suc n) i = ((λ k m. from_low n (suc i) k m), from_sorted n (suc i))

below-sorted : (n : ℕ) → Sorted ◌<◌ (below n)
unfolding below
below-sorted n = from_sorted n 0

-- ---- the pairs

module _ (cells : List Cell) where
  fits : ℕ → ℕ → Bool
  fits i j = joins (cell_at cells i) (cell_at cells j)

  inners : ℕ → List ℕ
  inners i = keep (fits i) (below (length cells))

  feeding : ℕ → ℕ → List Pair
  feeding i p = map (λ (j : ℕ). record { root = i; pin = p; inner = j }) (inners i)

  rooted : ℕ → List Pair
  rooted i = each (feeding i) (below (cell_at cells i).pins)

  pairs_are : pairs_of cells ≡ each rooted (below (length cells))
  unfolding pairs_of rooted feeding inners fits
  pairs_are = refl

  fits_out : (i j : ℕ) → T (fits i j) → (1 ≤ (cell_at cells j).pins) × ((cell_at cells i).pins + (cell_at cells j).pins ≤ 5)
  unfolding fits joins
  fits_out i j t = let q = and_yes (leb 1 (cell_at cells j).pins) (leb ((cell_at cells i).pins + (cell_at cells j).pins) 5) t in (leb_yes q.0, leb_yes q.1)

  pair_is : (p : Pair) → Memᴰ p (each rooted (below (length cells))) → Joined cells p
  unfolding rooted feeding inners
  pair_is p m =
      let b = each_out rooted (below (length cells)) m in
      let d = each_out (feeding b.0) (below (cell_at cells b.0).pins) b.2 in
      let e = map_out (λ (j : ℕ). record { root = b.0; pin = d.0; inner = j }) (inners b.0) d.2 in
      let k = keep_out (fits b.0) (below (length cells)) e.1 in
      let f = fits_out b.0 e.0 k.1 in
      subst (Joined cells) (sym e.2) (record {
        root_line = below_out (length cells) b.0 b.1;
        fed_pin = below_out (cell_at cells b.0).pins d.0 d.1;
        inner_line = below_out (length cells) e.0 k.0;
        some_pin = f.0;
        few = f.1;
      })

  is-pair : (p : Pair) → Joined cells p → Memᴰ p (each rooted (below (length cells)))
  unfolding rooted feeding inners
  is-pair p j = each_in rooted (below_in (length cells) p.root j.root_line) (each_in (feeding p.root)
      (below_in (cell_at cells p.root).pins p.pin j.fed_pin) (map_in (λ (i : ℕ). record { root = p.root; pin = p.pin; inner = i })
      (keep_in (fits p.root) (below_in (length cells) p.inner j.inner_line) (unfold fits joins in yes_and
      (leb 1 (cell_at cells p.inner).pins) (leb ((cell_at cells p.root).pins + (cell_at cells p.inner).pins) 5)
      (le→leb 1 (cell_at cells p.inner).pins j.some_pin)
      (le→leb ((cell_at cells p.root).pins + (cell_at cells p.inner).pins) 5 j.few)))))

  rooted_at : (i : ℕ) (p : Pair) → Memᴰ p (rooted i) → p.root ≡ i
  unfolding rooted feeding
  rooted_at i p m =
      let d = each_out (feeding i) (below (cell_at cells i).pins) m in
      ap (λ (x : Pair). x.root) (map_out (λ (j : ℕ). record { root = i; pin = d.0; inner = j }) (inners i) d.2).2

  feeding-at : (i k : ℕ) (p : Pair) → Memᴰ p (feeding i k) → (p.root ≡ i) × (p.pin ≡ k)
  unfolding feeding
  feeding-at i k p m =
      let e = map_out (λ (j : ℕ). record { root = i; pin = k; inner = j }) (inners i) m in
      (ap (λ (x : Pair). x.root) e.2, ap (λ (x : Pair). x.pin) e.2)

  rooted_sorted : (i : ℕ) → Sorted Before (rooted i)
  unfolding rooted
  rooted_sorted i =
      let later : (x y : ℕ) → x < y → (a b : Pair) → Memᴰ a (feeding i x) → Memᴰ b (feeding i y)
      → Before a b = λ x y h a b m n. let u = feeding-at i x a m in let v = feeding-at i y b n in inr
      (u.0 ∙ sym v.0, inl (let p : a.pin ≡ x = u.1 in let q : b.pin ≡ y = v.1 in omega arith)) in
      sorted-each ◌<◌ Before (feeding i) (unfold feeding inners in λ k. sorted-map ◌<◌ Before
      (λ (j : ℕ). record { root = i; pin = k; inner = j }) (λ x y h. inr (refl, inr (refl, h))) (inners i)
      (sorted-keep ◌<◌ (fits i) (below (length cells)) (below-sorted (length cells)))) later (below (cell_at cells i).pins) (below-sorted
      (cell_at cells i).pins)

  all-sorted : Sorted Before (each rooted (below (length cells)))
  all-sorted = sorted-each ◌<◌ Before rooted rooted_sorted later (below (length cells)) (below-sorted (length cells))
    where
      later : (x y : ℕ) → x < y → (a b : Pair) → Memᴰ a (rooted x) → Memᴰ b (rooted y) → Before a b
      later x y h a b m n = let p : a.root ≡ x = rooted_at x a m in let q : b.root ≡ y = rooted_at y b n in inl (omega arith)

-- the same predicate, as the demand spells it
rising_of : (ps : List Pair) → Sorted Before ps → Rising ps
rising_of [] s = tt
rising_of (p ∷ ps) s = (s.0, rising_of ps s.1)

-- "all pairs are kept", in the document's order
pub pairs-kept : (cells : List Cell) → PairsKept cells
pairs-kept cells = record {
  has = λ p. ((λ m. pair_is cells p (rw (← pairs_are cells) m)), (λ j. rw (pairs_are cells) (is-pair cells p j)));
  rising = rising_of (pairs_of cells) (rw (pairs_are cells) (all-sorted cells));
}

-- ---- no other list is so

no_both : (p q : Pair) → Before p q → Before q p → ⊥
no_both p q (inl a) (inl b) = let x : p.root < q.root = a in let y : q.root < p.root = b in omega arith
no_both p q (inl a) (inr b) = let x : p.root < q.root = a in let y : q.root ≡ p.root = b.0 in omega arith
no_both p q (inr a) (inl b) = let x : p.root ≡ q.root = a.0 in let y : q.root < p.root = b in omega arith
no_both p q (inr a) (inr b) = ⊎_elim (λ c. ⊎_elim (λ d. let x : p.pin < q.pin = c in let y : q.pin < p.pin = d in omega arith)
    (λ e. let x : p.pin < q.pin = c in let y : q.pin ≡ p.pin = e.0 in omega arith) b.1) (λ r. ⊎_elim
    (λ z. let x : p.pin ≡ q.pin = r.0 in let y : q.pin < p.pin = z in omega arith)
    (λ w. let x : p.inner < q.inner = r.1 in let y : q.inner < p.inner = w.1 in omega arith) b.1) a.1

-- one that comes before all of a list is not in it
drop-first : (p q x : Pair) (ps qs : List Pair) → p ≡ q → ((y : Pair) → Memᴰ y ps → Before p y) → Memᴰ x ps → Memᴰ x (q ∷ qs) → Memᴰ x qs
drop-first p q x ps qs e before m (Memᴰ-head f) = let s : Before x x = rw (e ∙ sym f) at (before x m) in absurd (no_both x x s s)
drop-first p q x ps qs e before m (Memᴰ-tail n) = n

-- rising lists of the same pairs are one list
pub rising-one : (ps qs : List Pair) → Rising ps → Rising qs → ((p : Pair) → Memᴰ p ps ↔ Memᴰ p qs) → ps ≡ qs
rising-one [] [] r s h = refl
rising-one [] (q ∷ qs) r s h = absurd (Memᴰ-not-nil ((h q).1 (Memᴰ-head refl)))
rising-one (p ∷ ps) [] r s h = absurd (Memᴰ-not-nil ((h p).0 (Memᴰ-head refl)))
rising-one (p ∷ ps) (q ∷ qs) r s h =
    cc (
      first,
      rising-one ps qs r.1 s.1 (λ x. (
        (λ m. drop-first p q x ps qs first r.0 m ((h x).0 (Memᴰ-tail m))),
        (λ m. drop-first q p x qs ps (sym first) s.0 m ((h x).1 (Memᴰ-tail m))),
      )),
    )
  where
    first : p ≡ q
    first = by_member ((h p).0 (Memᴰ-head refl)) (λ e. e)
        (λ m. by_member ((h q).1 (Memᴰ-head refl)) sym (λ n. absurd (no_both q p (s.0 p m) (r.0 q n))))
