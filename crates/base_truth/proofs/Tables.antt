-- Laws of tables: a row of a table, the table with given rows, the complement.
--     value-tabulate      row r of the table that is made of f is f r
--     tabulate-small      a table of n rows is below 2 ^ n; `table-small`: one of 16 rows is below 65536
--     tables_same         tables of 16 rows with equal rows are equal
--     value_complement    a row of the complement
--     value-and           a row of `&` of two tables; `value_or`: of `|`
--     value_pattern       row r of a leaf's table is the leaf's bit of r
--     one_bit             a bit of a number by a shift
--     power               how many rows so many pins have, by a shift
use Rattle.base.specs.{◌≡◌, refl, sym, ap, ap₂, ◌∙◌, Bool, true, false, not, ◌&&◌, ◌||◌, ℕ, zero, suc, ◌+◌, ◌-◌, ◌*◌, ◌/◌, ◌%◌, ◌^◌, ◌<◌}
use Rattle.base.specs.{◌≤◌, min, max, pow-suc, arith, bit_and, and_step, bit_or, or_step, eqb, shr-shr, shl_exact, eqb-true, eqb-false}
use Rattle.model.specs.{bit, one, value, tabulate}
use Rattle.base_truth.specs.{leaf_table}

-- the shift loses nothing
pub power : (pins : ℕ) → pins ≤ 4 → 1 * 2 ^ pins % 2 ^ 64 ≡ 2 ^ pins
power pins h = shl_exact 1 pins 64 (omega arith) (omega arith) ∙ omega arith

-- ---- bits

pub one-small : (b : Bool) → one b < 2
unfolding one
one-small true = omega arith
one-small false = omega arith

-- the lowest digit as a bit
pub one-low : (n : ℕ) → one (bit n 0) ≡ n % 2
unfolding one bit
one-low n = by (eqb (n % 2) 1) refl
  where
    by : (t : Bool) → eqb (n % 2) 1 ≡ t → one t ≡ n % 2
    by true e = sym (eqb-true (n % 2) 1 e)
    by false e = omega (arith, eqb-false (n % 2) 1 e)

low-one : (b : Bool) (x : ℕ) → bit (one b + 2 * x) 0 ≡ b
unfolding one bit
low-one true x = let e : (1 + 2 * x) % 2 ≡ 1 = omega arith in ap (λ (y : ℕ). eqb y 1) e
low-one false x = let e : (0 + 2 * x) % 2 ≡ 0 = omega arith in ap (λ (y : ℕ). eqb y 1) e

pub half_one : (b : Bool) (x : ℕ) → (one b + 2 * x) / 2 ≡ x
half_one b x = omega (arith, one-small b)

-- a row by a shift
pub value_shift : (r t : ℕ) → value t r ≡ eqb (t / 2 ^ r % 2) 1
unfolding value bit
value_shift zero t = let e : t / 1 ≡ t = omega arith in ap (λ (y : ℕ). eqb (y % 2) 1) (sym e)
value_shift (suc r) t =
    let e : t / 2 / 2 ^ r ≡ t / 2 ^ suc r = shr-shr t 1 r ∙ ap (λ (k : ℕ). t / 2 ^ k) (omega arith) in
    value_shift r (t / 2) ∙ ap (λ (y : ℕ). eqb (y % 2) 1) e

-- a bit of a number by a shift
pub one_bit : (n j : ℕ) → one (bit n j) ≡ n / 2 ^ j % 2
unfolding value bit
one_bit n j = ap one (value_shift j n) ∙ one-low (n / 2 ^ j)

-- ---- the table with given rows

pub value-tabulate : (n : ℕ) (f : ℕ → Bool) (r : ℕ) → r < n → value (tabulate f n) r ≡ f r
unfolding value bit tabulate
value-tabulate zero f r h = absurd (omega arith)
value-tabulate (suc n) f zero h = low-one (f 0) (tabulate (λ r. f (suc r)) n)
value-tabulate (suc n) f (suc r) h =
    ap (λ (x : ℕ). bit x r) (half_one (f 0) (tabulate (λ r. f (suc r)) n)) ∙ value-tabulate n (λ r. f (suc r)) r (omega arith)

pub tabulate-small : (n : ℕ) (f : ℕ → Bool) → tabulate f n < 2 ^ n
unfolding tabulate
tabulate-small zero f = omega arith
tabulate-small (suc n) f = omega (arith, pow-suc 2 n, one-small (f 0), tabulate-small n (λ r. f (suc r)))

pub table-small : (f : ℕ → Bool) → tabulate f 16 < 65536
table-small f = tabulate-small 16 f

pub tabulate-same : (n : ℕ) (f g : ℕ → Bool) → ((r : ℕ) → r < n → f r ≡ g r) → tabulate f n ≡ tabulate g n
unfolding tabulate
tabulate-same zero f g h = refl
tabulate-same (suc n) f g h =
    λ i. one (h 0 (omega arith) i) + 2 * tabulate-same n (λ r. f (suc r)) (λ r. g (suc r)) (λ r l. h (suc r) (omega arith)) i

-- a table is made of its rows
pub tabulate-value : (n t : ℕ) → t < 2 ^ n → tabulate (value t) n ≡ t
unfolding tabulate value bit
tabulate-value zero t h = omega arith
tabulate-value (suc n) t h =
    let rest : tabulate (bit (t / 2)) n ≡ t / 2 = tabulate-value n (t / 2) (omega (arith, pow-suc 2 n)) in
    (λ i. one-low t i + 2 * rest i) ∙ omega arith

pub tables_same : (t u : ℕ) → t < 65536 → u < 65536 → ((r : ℕ) → r < 16 → value t r ≡ value u r) → t ≡ u
tables_same t u ht hu h = sym (tabulate-value 16 t ht) ∙ tabulate-same 16 (value t) (value u) h ∙ tabulate-value 16 u hu

-- ---- the complement

not_low : (a b : ℕ) → a + b ≡ 1 → eqb b 1 ≡ not (eqb a 1)
not_low zero zero e = absurd (omega arith)
not_low zero (suc zero) e = refl
not_low zero (suc (suc b)) e = absurd (omega arith)
not_low (suc zero) zero e = refl
not_low (suc zero) (suc b) e = absurd (omega arith)
not_low (suc (suc a)) b e = absurd (omega arith)

bit_not : (n r x y : ℕ) → x + y + 1 ≡ 2 ^ n → r < n → bit y r ≡ not (bit x r)
unfolding bit
bit_not zero r x y e h = absurd (omega arith)
bit_not (suc n) zero x y e h = not_low (x % 2) (y % 2) (omega (arith, pow-suc 2 n))
bit_not (suc n) (suc r) x y e h = bit_not n r (x / 2) (y / 2) (omega (arith, pow-suc 2 n)) (omega arith)

pub value_complement : (t r : ℕ) → t < 65536 → r < 16 → value (65535 - t) r ≡ not (value t r)
unfolding value
value_complement t r ht hr = bit_not 16 r t (65535 - t) (omega arith) hr

-- ---- two tables joined row by row

-- an operation that goes by binary digits goes by rows
module _ (op digit : ℕ → ℕ → ℕ) (join : Bool → Bool → Bool) (step : (a b : ℕ) → op a b ≡ op (a / 2) (b / 2) * 2 + digit (a % 2) (b % 2))
    (joins : (a b : Bool) → digit (one a) (one b) ≡ one (join a b)) where
  joined : (a b : ℕ) → op a b ≡ one (join (bit a 0) (bit b 0)) + 2 * op (a / 2) (b / 2)
  joined a b = omega (arith, step a b, sym (ap₂ digit (one-low a) (one-low b)) ∙ joins (bit a 0) (bit b 0))

  bit-joined : (r a b : ℕ) → bit (op a b) r ≡ join (bit a r) (bit b r)
  unfolding bit
  bit-joined zero a b = ap (λ (x : ℕ). bit x 0) (joined a b) ∙ low-one (join (bit a 0) (bit b 0)) (op (a / 2) (b / 2))
  bit-joined (suc r) a b =
      ap (λ (x : ℕ). bit (x / 2) r) (joined a b) ∙ ap (λ (x : ℕ). bit x r) (half_one (join (bit a 0) (bit b 0)) (op (a / 2) (b / 2))) ∙ bit-joined r (a / 2) (b / 2)

and-joins : (a b : Bool) → min (one a) (one b) ≡ one (a && b)
unfolding one
and-joins true true = refl
and-joins true false = refl
and-joins false true = refl
and-joins false false = refl

pub value-and : (t u r : ℕ) → value (bit_and t u) r ≡ (value t r && value u r)
unfolding value
value-and t u r = bit-joined bit_and min ◌&&◌ and_step and-joins r t u

or_joins : (a b : Bool) → max (one a) (one b) ≡ one (a || b)
unfolding one
or_joins true true = refl
or_joins true false = refl
or_joins false true = refl
or_joins false false = refl

pub value_or : (t u r : ℕ) → value (bit_or t u) r ≡ (value t r || value u r)
unfolding value
value_or t u r = bit-joined bit_or max ◌||◌ or_step or_joins r t u

-- ---- a leaf

pub value_pattern : (i r : ℕ) → r < 16 → value (leaf_table i) r ≡ bit r i
unfolding leaf_table
value_pattern i r h = value-tabulate 16 (λ r. bit r i) r h
