-- The layout fits together:
--     whole                       the columns take exactly the words that are asked for
--     inside                      every record lies inside them
--     never_meet                  two records have no word in common
--     cut-from, cut_to            the words of the cuts lie in the lists
--     cut-words-apart             and no two of them meet
--     capacity-need, capacity_for         enough words are asked for
use Rattle.base.specs.{◌≡◌, refl, sym, ap, subst, ◌∙◌, Bool, true, false, List, ℕ, zero, suc, ◌+◌, ◌≤◌, ◌<◌, arith, eqb, ltb, length, get_or}
use Rattle.base.specs.{eqb-true, eqb-false, ltb-true, ltb-false}
use Rattle.model.specs.{cut_limit, need}
use Rattle.base_words.specs.{HasCapacity, HasCapacityFor, cut_addr, lists_from, lists_to, output_addr, Column, kinds, lefts, rights, order, places}
use Rattle.base_words.specs.{counts, needs, lates, positives, negatives, sizes, firsts, seconds, thirds, fourths, functions, outputs}
use Rattle.base_words.specs.{cut_column, columns, rank, edge, address_of, size_of, Listed}
use Rattle.base_words.proofs.WordRanges.{Apart}

-- "124(M+1) + O 16-bit words" are what the columns take
pub whole : (m o : ℕ) → edge m o (length columns) ≡ need m o
unfolding need
whole m o = omega arith

-- and the outputs end there
pub last-output : (m o : ℕ) → output_addr m o ≡ need m o
unfolding need
last-output m o = omega arith

pub capacity_for : (w : List ℕ) (m o : ℕ) → m ≤ 4095 → need m o ≤ length w → HasCapacityFor w m o
capacity_for w m o s h = record { small = s; capacity = omega (arith, last-output m o) }

pub capacity-need : (w : List ℕ) (m o : ℕ) → HasCapacityFor w m o → HasCapacity w m
capacity-need w m o r = record { small = r.small; capacity = omega arith }

-- a record lies in its column
begins : (m o : ℕ) (c : Column) (v k : ℕ) → Listed m o c v k → edge m o (rank c) ≤ address_of m c v k
begins m o kinds v k h = omega arith
begins m o lefts v k h = omega arith
begins m o rights v k h = omega arith
begins m o order v k h = omega arith
begins m o places v k h = omega arith
begins m o counts v k h = omega arith
begins m o needs v k h = omega arith
begins m o lates v k h = omega arith
begins m o positives v k h = omega arith
begins m o negatives v k h = omega arith
begins m o sizes v k h = omega arith
begins m o firsts v k h = omega arith
begins m o seconds v k h = omega arith
begins m o thirds v k h = omega arith
begins m o fourths v k h = omega arith
begins m o functions v k h = omega arith
begins m o outputs v k h = omega arith

ends : (m o : ℕ) (c : Column) (v k : ℕ) → Listed m o c v k → address_of m c v k + size_of c ≤ edge m o (suc (rank c))
ends m o kinds v k h = omega arith
ends m o lefts v k h = omega arith
ends m o rights v k h = omega arith
ends m o order v k h = omega arith
ends m o places v k h = omega arith
ends m o counts v k h = omega arith
ends m o needs v k h = omega arith
ends m o lates v k h = omega arith
ends m o positives v k h = omega arith
ends m o negatives v k h = omega arith
ends m o sizes v k h = omega arith
ends m o firsts v k h = omega arith
ends m o seconds v k h = omega arith
ends m o thirds v k h = omega arith
ends m o fourths v k h = omega arith
ends m o functions v k h = omega arith
ends m o outputs v k h = omega arith

edges : (m o r s : ℕ) → r ≤ s → edge m o r ≤ edge m o s
edges m o r zero h = let e : r ≡ 0 = omega arith in rw e (omega arith)
edges m o r (suc s) h = by (ltb s r) refl (λ l. edges m o r s l)
  where
    by : (t : Bool) → ltb s r ≡ t → (r ≤ s → edge m o r ≤ edge m o s) → edge m o r ≤ edge m o (suc s)
    by true e before = let l : s < r = ltb-true s r e in let i : r ≡ suc s = omega arith in rw i (omega arith)
    by false e before = omega (arith, before (ltb-false s r e))

below_end : (c : Column) → suc (rank c) ≤ length columns
below_end kinds = omega arith
below_end lefts = omega arith
below_end rights = omega arith
below_end order = omega arith
below_end places = omega arith
below_end counts = omega arith
below_end needs = omega arith
below_end lates = omega arith
below_end positives = omega arith
below_end negatives = omega arith
below_end sizes = omega arith
below_end firsts = omega arith
below_end seconds = omega arith
below_end thirds = omega arith
below_end fourths = omega arith
below_end functions = omega arith
below_end outputs = omega arith

pub inside : (m o : ℕ) (c : Column) (v k : ℕ) → Listed m o c v k → address_of m c v k + size_of c ≤ need m o
inside m o c v k h = omega (arith, ends m o c v k h, edges m o (suc (rank c)) (length columns) (below_end c), whole m o)

-- a column is known by its number
found : (c : Column) → get_or columns (rank c) outputs ≡ c
found kinds = refl
found lefts = refl
found rights = refl
found order = refl
found places = refl
found counts = refl
found needs = refl
found lates = refl
found positives = refl
found negatives = refl
found sizes = refl
found firsts = refl
found seconds = refl
found thirds = refl
found fourths = refl
found functions = refl
found outputs = refl

-- two records of one column: of different variables, or of one
other_index : (m o : ℕ) (c : Column) (v k u j : ℕ) → Listed m o c v k → Listed m o c u j → (v ≡ u → ⊥) → Apart (address_of m c v k) (size_of c) (address_of m c u j) (size_of c)
other_index m o kinds v k u j h l n = omega arith
other_index m o lefts v k u j h l n = omega arith
other_index m o rights v k u j h l n = omega arith
other_index m o order v k u j h l n = omega arith
other_index m o places v k u j h l n = omega arith
other_index m o counts v k u j h l n = omega arith
other_index m o needs v k u j h l n = omega arith
other_index m o lates v k u j h l n = omega arith
other_index m o positives v k u j h l n = omega arith
other_index m o negatives v k u j h l n = omega arith
other_index m o sizes v k u j h l n = omega arith
other_index m o firsts v k u j h l n = omega arith
other_index m o seconds v k u j h l n = omega arith
other_index m o thirds v k u j h l n = omega arith
other_index m o fourths v k u j h l n = omega arith
other_index m o functions v k u j h l n = omega arith
other_index m o outputs v k u j h l n = omega arith

other_number : (m o : ℕ) (c : Column) (v k j : ℕ) → Listed m o c v k → Listed m o c v j → (k ≡ j → ⊥) → Apart (address_of m c v k) (size_of c) (address_of m c v j) (size_of c)
other_number m o kinds v k j h l n = omega arith
other_number m o lefts v k j h l n = omega arith
other_number m o rights v k j h l n = omega arith
other_number m o order v k j h l n = omega arith
other_number m o places v k j h l n = omega arith
other_number m o counts v k j h l n = omega arith
other_number m o needs v k j h l n = omega arith
other_number m o lates v k j h l n = omega arith
other_number m o positives v k j h l n = omega arith
other_number m o negatives v k j h l n = omega arith
other_number m o sizes v k j h l n = omega arith
other_number m o firsts v k j h l n = omega arith
other_number m o seconds v k j h l n = omega arith
other_number m o thirds v k j h l n = omega arith
other_number m o fourths v k j h l n = omega arith
other_number m o functions v k j h l n = omega arith
other_number m o outputs v k j h l n = omega arith

in_column_lem : (m o : ℕ) (c : Column) (v k u j : ℕ) → Listed m o c v k → Listed m o c u j → (v ≡ u → k ≡ j → ⊥)
    → Apart (address_of m c v k) (size_of c) (address_of m c u j) (size_of c)
in_column_lem m o c v k u j h l n = by (eqb v u) refl
  where
    by : (t : Bool) → eqb v u ≡ t → Apart (address_of m c v k) (size_of c) (address_of m c u j) (size_of c)
    by true e =
        let same : v ≡ u = eqb-true v u e in
        subst (λ (x : ℕ). Listed m o c x j → Apart (address_of m c v k) (size_of c) (address_of m c x j) (size_of c)) same
        (λ l'. other_number m o c v k j h l' (n same)) l
    by false e = other_index m o c v k u j h l (eqb-false v u e)

-- one column before another
in_order_lem : (m o : ℕ) (c d : Column) (v k u j : ℕ) → Listed m o c v k → Listed m o d u j → rank c < rank d → address_of m c v k + size_of c ≤ address_of m d u j
in_order_lem m o c d v k u j h l r = omega (arith, ends m o c v k h, edges m o (suc (rank c)) (rank d) r, begins m o d u j l)

pub never_meet : (m o : ℕ) (c d : Column) (v k u j : ℕ) → Listed m o c v k → Listed m o d u j → (c ≡ d → v ≡ u → k ≡ j → ⊥)
    → Apart (address_of m c v k) (size_of c) (address_of m d u j) (size_of d)
never_meet m o c d v k u j h l n = by (ltb (rank c) (rank d)) refl
  where
    same : rank c ≡ rank d → Apart (address_of m c v k) (size_of c) (address_of m d u j) (size_of d)
    same e =
        let one : c ≡ d = sym (found c) ∙ ap (λ (r : ℕ). get_or columns r outputs) e ∙ found d in
        subst (λ (x : Column). Listed m o x u j → Apart (address_of m c v k) (size_of c) (address_of m x u j) (size_of x)) one
        (λ l'. in_column_lem m o c v k u j h l' (n one)) l

    after : (t : Bool) → ltb (rank d) (rank c) ≡ t → rank d ≤ rank c → Apart (address_of m c v k) (size_of c) (address_of m d u j) (size_of d)
    after true e b = let o' = in_order_lem m o d c u j v k l h (ltb-true (rank d) (rank c) e) in record { apart = λ i i' x y z. omega arith }
    after false e b = let a : rank c ≤ rank d = ltb-false (rank d) (rank c) e in same (omega arith)

    by : (t : Bool) → ltb (rank c) (rank d) ≡ t → Apart (address_of m c v k) (size_of c) (address_of m d u j) (size_of d)
    by true e = let o' = in_order_lem m o c d v k u j h l (ltb-true (rank c) (rank d) e) in record { apart = λ i i' x y z. omega arith }
    by false e = after (ltb (rank d) (rank c)) refl (ltb-false (rank c) (rank d) e)

-- ---- the columns of the cuts, by their number

record OfCut (m c v k : ℕ) : Type 0 where
  number : rank (cut_column c) ≡ 10 + c
  place : address_of m (cut_column c) v k ≡ cut_addr m c v k
  one : size_of (cut_column c) ≡ 1
  listed : v ≤ m → k < cut_limit → Listed m 0 (cut_column c) v k

of_cut : (m c v k : ℕ) → c < 5 → OfCut m c v k
of_cut m zero v k h = record { number = refl; place = refl; one = refl; listed = λ a b. (a, b) }
of_cut m (suc zero) v k h = record { number = refl; place = refl; one = refl; listed = λ a b. (a, b) }
of_cut m (suc (suc zero)) v k h = record { number = refl; place = refl; one = refl; listed = λ a b. (a, b) }
of_cut m (suc (suc (suc zero))) v k h = record { number = refl; place = refl; one = refl; listed = λ a b. (a, b) }
of_cut m (suc (suc (suc (suc zero)))) v k h = record { number = refl; place = refl; one = refl; listed = λ a b. (a, b) }
of_cut m (suc (suc (suc (suc (suc c))))) v k h = absurd (omega arith)

module _ (m c v k : ℕ) (column : c < 5) (inside : v ≤ m) (few : k < cut_limit) where
  pub cut-from : lists_from m ≤ cut_addr m c v k
  cut-from =
      let o = of_cut m c v k column in
      omega (arith, o.place, begins m 0 (cut_column c) v k (o.listed inside few), edges m 0 (rank sizes) (rank (cut_column c)) (omega (arith, o.number)))

  pub cut_to : cut_addr m c v k < lists_to m
  cut_to =
      let o = of_cut m c v k column in
      omega
      (arith, o.place, o.one, ends m 0 (cut_column c) v k (o.listed inside few), edges m 0 (suc (rank (cut_column c))) (rank functions) (omega (arith, o.number)))

  pub cut-words-apart : (d u j : ℕ) → d < 5 → u ≤ m → j < cut_limit → (c ≡ d → v ≡ u → k ≡ j → ⊥) → cut_addr m c v k ≡ cut_addr m d u j → ⊥
  cut-words-apart d u j other within min_arrival n e =
      let o = of_cut m c v k column in let p = of_cut m d u j other in
      (never_meet m 0 (cut_column c) (cut_column d) v k u j (o.listed inside few) (p.listed within min_arrival)
      (λ same. n (let r : rank (cut_column c) ≡ rank (cut_column d) = ap rank same in omega (arith, r, o.number, p.number)))).apart 0 0
      (omega (arith, o.one)) (omega (arith, p.one)) (omega (arith, o.place, p.place, e))
