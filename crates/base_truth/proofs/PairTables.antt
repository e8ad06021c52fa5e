-- A pair's value in a row, from the row taken apart: two rules of rows, each one test that antt computes.
use Rattle.base.specs.{◌≡◌, refl, ap, ◌∙◌, Bool, true, false, not, cond, ◌&&◌, ◌||◌, List, [], ◌∷◌, map, ℕ, zero, suc, ◌+◌, ◌-◌, ◌/◌, ◌%◌}
use Rattle.base.specs.{◌^◌, ◌≤◌, ◌<◌, arith, T, eqb, leb, ltb, le→leb, take, drop, and_yes, eqb_yes, yes_ltb, lt-ltb, le-ltb, eq-eqb}
use Rattle.base.specs.{ne_eqb}
use Rattle.model.specs.{all, bit, below, value, row_of, splice, pair_pins, pair_value}
use Rattle.model.specs.declared.Cell.{Cell}
use Rattle.base_truth.specs.{root_bit, root_row}
use Rattle.base_truth.proofs.ComputedTables.{at}

-- where the inner's n pins, from pin on, are among the pair's m and r is a row of these, the rows of inner and root are as they are taken apart
unfoldable pub taken_apart : ℕ → ℕ → ℕ → ℕ → Bool
unfolding row_of splice below bit root_row
taken_apart pin n m r =
    not (leb (pin + n) m && (leb 1 n && ltb r (2 ^ m)))
    || (eqb (row_of (take n (drop pin (map (bit r) (below m))))) (r / 2 ^ pin % 2 ^ n)
    && (eqb (row_of (splice pin n (λ (_ : List Bool). true) (map (bit r) (below m)))) (root_row r pin n true)
    && eqb (row_of (splice pin n (λ (_ : List Bool). false) (map (bit r) (below m)))) (root_row r pin n false)))

all_apart : T (all (λ (pin : ℕ). all (λ (n : ℕ). all (λ (m : ℕ). all (taken_apart pin n m) (below 16)) (below 5)) (below 5)) (below 4))
unfolding all below taken_apart
all_apart = tt

module _ (pin n m r : ℕ) (inside : pin + n ≤ m) (some : 1 ≤ n) (four : m ≤ 4) (row : r < 2 ^ m) (small : r < 16) where
  apart : T (taken_apart pin n m r)
  apart =
      at (taken_apart pin n m) 16
      (at (λ (k : ℕ). all (taken_apart pin n k) (below 16)) 5
      (at (λ (j : ℕ). all (λ (k : ℕ). all (taken_apart pin j k) (below 16)) (below 5)) 5
      (at (λ (p : ℕ). all (λ (j : ℕ). all (λ (k : ℕ). all (taken_apart p j k) (below 16)) (below 5)) (below 5)) 4 all_apart pin (omega arith)) n (omega arith)) m (omega arith)) r small

  abbrev bits : List Bool
  bits = map (bit r) (below m)

  abbrev inner_right : Bool
  inner_right = eqb (row_of (take n (drop pin bits))) (r / 2 ^ pin % 2 ^ n)

  abbrev root_right : Bool → Bool
  root_right b = eqb (row_of (splice pin n (λ (_ : List Bool). b) bits)) (root_row r pin n b)

  rules : T (inner_right && (root_right true && root_right false))
  unfolding taken_apart
  rules = go (leb (pin + n) m) (leb 1 n) (ltb r (2 ^ m)) (inner_right && (root_right true && root_right false)) (le→leb (pin + n) m inside) (le→leb 1 n some) (yes_ltb row) apart
    where
      go : (a b c d : Bool) → T a → T b → T c → T (not (a && (b && c)) || d) → T d
      go true true true d x y z t = t
      go true true false d x y z t = absurd z
      go true false c d x y z t = absurd y
      go false b c d x y z t = absurd x

  inner-row : row_of (take n (drop pin bits)) ≡ r / 2 ^ pin % 2 ^ n
  inner-row = eqb_yes (and_yes inner_right (root_right true && root_right false) rules).0

  root-row : (b : Bool) → row_of (splice pin n (λ (_ : List Bool). b) bits) ≡ root_row r pin n b
  root-row true = eqb_yes (and_yes (root_right true) (root_right false) (and_yes inner_right (root_right true && root_right false) rules).1).0
  root-row false = eqb_yes (and_yes (root_right true) (root_right false) (and_yes inner_right (root_right true && root_right false) rules).1).1

-- ---- a bit of the root's row

module _ (r pin n : ℕ) (b : Bool) (j : ℕ) where
  pub bit_below : j < pin → root_bit r pin n b j ≡ value r j
  unfolding root_bit value
  bit_below h = ap (λ (t : Bool). cond t (bit r j) (cond (eqb j pin) b (bit r (j + n - 1)))) (lt-ltb j pin h)

  pub bit_at : pin ≤ j → j ≡ pin → root_bit r pin n b j ≡ b
  unfolding root_bit
  bit_at h e =
      ap (λ (t : Bool). cond t (bit r j) (cond (eqb j pin) b (bit r (j + n - 1)))) (le-ltb j pin h)
      ∙ ap (λ (t : Bool). cond t b (bit r (j + n - 1))) (eq-eqb j pin e)

  pub bit-above : pin ≤ j → ¬ (j ≡ pin) → root_bit r pin n b j ≡ value r (j + n - 1)
  unfolding root_bit value
  bit-above h e =
      ap (λ (t : Bool). cond t (bit r j) (cond (eqb j pin) b (bit r (j + n - 1)))) (le-ltb j pin h)
      ∙ ap (λ (t : Bool). cond t b (bit r (j + n - 1))) (ne_eqb j pin e)

-- a run as one is its value
splice-one : (p n : ℕ) (f : List Bool → Bool) (xs : List Bool) → splice p n f xs ≡ splice p n (λ (_ : List Bool). f (take n (drop p xs))) xs
unfolding splice
splice-one zero n f xs = refl
splice-one (suc p) n f [] = refl
splice-one (suc p) n f (x ∷ xs) = ap (λ (ys : List Bool). x ∷ ys) (splice-one p n f xs)

-- a pair's value in row r
pub pair_row : (root inner : Cell) (pin r : ℕ) → pin < root.pins → 1 ≤ inner.pins → root.pins + inner.pins ≤ 5 → r < 2 ^ pair_pins root inner → r < 16
    → pair_value root pin inner (map (bit r) (below (pair_pins root inner))) ≡ value root.table (root_row r pin inner.pins (value inner.table (r / 2 ^ pin % 2 ^ inner.pins)))
unfolding pair_value pair_pins
pair_row root inner pin r h some few row small =
    let m = root.pins + inner.pins - 1 in let bits = map (bit r) (below m) in
    let f : List Bool → Bool = λ cs. value inner.table (row_of cs) in
    ap (λ (xs : List Bool). value root.table (row_of xs)) (splice-one pin inner.pins f bits)
    ∙ ap (value root.table) (root-row pin inner.pins m r (omega arith) some (omega arith) row small (f (take inner.pins (drop pin bits))))
    ∙ ap (λ (q : ℕ). value root.table (root_row r pin inner.pins (value inner.table q))) (inner-row pin inner.pins m r (omega arith) some (omega arith) row small)
