-- The table of a cell under a mask, from that of mask 0.
--     crossed-rows        what the shifts make is the table with a leaf complemented
--     permuted_variant      a leaf complemented at each pin whose bit is 1: the table under the mask
use Rattle.base.specs.{ℕ, zero, suc, ◌+◌, ◌-◌, ◌*◌, ◌/◌, ◌%◌, ◌^◌, ◌≤◌, ◌<◌, ◌≡◌, refl, sym, ap, ap₂, ◌∙◌, Bool, true, false, cond, not}
use Rattle.base.specs.{◌&&◌, ◌||◌, false≢true, List, div-le_self, arith, bit_and, bit_or, bit_xor, and_le_l, and_le_r, or_lt, xor_lt}
use Rattle.base.specs.{xor_zero_r, shifted_half, shifted_even, T, eqb, ltb, leb, length, get_or, shr-shr, pow-lt, pow_mono, eqb-true}
use Rattle.base.specs.{ltb-true, ltb-false, le-ltb, leb-true}
use Rattle.model.specs.{bit, one, flip, all, below, value, orders, pin_row, tabulate}
use Rattle.base_truth.specs.{places_of, variant_table, crossed, crossed_at, permuted, leaf_table}
use Rattle.base_truth.proofs.ComputedTables.{at, pairs, at_pair}
use Rattle.base_truth.proofs.Tables.{value_shift, value-tabulate, table-small, tables_same, value-and, value_or}
use Rattle.base_truth.proofs.VariantTables.{pin-row, places-four, place-small}

-- ---- rows moved

-- up: row r of the half is row r + n
value-right : (x n r : ℕ) → value (x / 2 ^ n) r ≡ value x (r + n)
value-right x n r =
    let e : n + r ≡ r + n = omega arith in
    value_shift r (x / 2 ^ n) ∙ ap (λ (y : ℕ). eqb (y % 2) 1) (shr-shr x n r ∙ ap (λ (k : ℕ). x / 2 ^ k) e) ∙ sym (value_shift (r + n) x)

-- down: row r is row r - n, and none is below n
value-left : (n x r : ℕ) → n ≤ r → value (x * 2 ^ n) r ≡ value x (r - n)
unfolding value bit
value-left zero x r h = let e : x * 1 ≡ x = omega arith in let f : r - 0 ≡ r = omega arith in rw (e, f)
value-left (suc n) x zero h = absurd (omega arith)
value-left (suc n) x (suc r) h =
    let f : suc r - suc n ≡ r - n = omega arith in
    rw (shifted_half x n, f) (value-left n x r (omega arith))

value_low : (n x r : ℕ) → r < n → value (x * 2 ^ n) r ≡ false
unfolding value bit
value_low zero x r h = absurd (omega arith)
value_low (suc n) x zero h = ap (λ (y : ℕ). eqb y 1) (shifted_even x n)
value_low (suc n) x (suc r) h = rw (shifted_half x n) (value_low n x r (omega arith))

-- ---- a leaf complemented

pub or_out : (a b : Bool) → T (a || b) → a ≡ false → b ≡ true
or_out true b t e = absurd (false≢true (sym e))
or_out false true t e = refl
or_out false false t e = absurd t

not-true : (a : Bool) → a ≡ true → not a ≡ false
not-true true e = refl
not-true false e = absurd (false≢true e)

not_out : (a : Bool) → not a ≡ true → a ≡ false
not_out true e = absurd (false≢true e)
not_out false e = refl

by_bit : {X : Type 0} (b : Bool) → (b ≡ true → X) → (b ≡ false → X) → X
by_bit true t f = t refl
by_bit false t f = f refl

or_none : (a : Bool) → (a || false) ≡ a
or_none true = refl
or_none false = refl

and-all : (a : Bool) → (a && true) ≡ a
and-all true = refl
and-all false = refl

and_none : (a : Bool) → (a && false) ≡ false
and_none true = refl
and_none false = refl

-- the leaf's rows and the others
ones : ℕ → ℕ → Bool
ones k r = value (leaf_table k) r

zeros : ℕ → ℕ → Bool
zeros k r = value (65535 - leaf_table k) r

module _ (r k : ℕ) (row : r < 16) (leaf : k < 4) where
  -- where leaf k is 0 the other row stands 2 ^ k above, and where it is 1 as far below
  above : bit r k ≡ false → bit_xor r (2 ^ k) ≡ r + 2 ^ k
  unfolding pairs all below bit
  above e = eqb-true (bit_xor r (2 ^ k)) (r + 2 ^ k)
      (or_out (bit r k) (eqb (bit_xor r (2 ^ k)) (r + 2 ^ k)) (at_pair (λ r k. bit r k || eqb (bit_xor r (2 ^ k)) (r + 2 ^ k)) 16 4 tt r k row leaf) e)

  above-one : bit r k ≡ false → ones k (r + 2 ^ k) ≡ true
  unfolding pairs all below bit ones value leaf_table tabulate one
  above-one e = or_out (bit r k) (ones k (r + 2 ^ k)) (at_pair (λ r k. bit r k || ones k (r + 2 ^ k)) 16 4 tt r k row leaf) e

  above-past : bit r k ≡ false → 2 ^ k ≤ r → zeros k (r - 2 ^ k) ≡ false
  unfolding pairs all below bit zeros value leaf_table tabulate one
  above-past e l = not_out (zeros k (r - 2 ^ k))
      (or_out (ltb r (2 ^ k)) (not (zeros k (r - 2 ^ k))) (rw (or_out (bit r k) (ltb r (2 ^ k) || not (zeros k (r - 2 ^ k))) (at_pair (λ r k. bit r k || (ltb r (2 ^ k) || not (zeros k (r - 2 ^ k)))) 16 4 tt r k row leaf) e) tt) (le-ltb r (2 ^ k) l))

  under : bit r k ≡ true → bit_xor r (2 ^ k) ≡ r - 2 ^ k
  unfolding pairs all below bit
  under e = eqb-true (bit_xor r (2 ^ k)) (r - 2 ^ k)
      (or_out (not (bit r k)) (eqb (bit_xor r (2 ^ k)) (r - 2 ^ k)) (at_pair (λ r k. not (bit r k) || eqb (bit_xor r (2 ^ k)) (r - 2 ^ k)) 16 4 tt r k row leaf) (not-true (bit r k) e))

  under-high : bit r k ≡ true → 2 ^ k ≤ r
  unfolding pairs all below bit
  under-high e = leb-true (2 ^ k) r
      (or_out (not (bit r k)) (leb (2 ^ k) r) (at_pair (λ r k. not (bit r k) || leb (2 ^ k) r) 16 4 tt r k row leaf) (not-true (bit r k) e))

  under-zero : bit r k ≡ true → zeros k (r - 2 ^ k) ≡ true
  unfolding pairs all below bit zeros value leaf_table tabulate one
  under-zero e = or_out (not (bit r k)) (zeros k (r - 2 ^ k)) (at_pair (λ r k. not (bit r k) || zeros k (r - 2 ^ k)) 16 4 tt r k row leaf) (not-true (bit r k) e)

  under-past : bit r k ≡ true → ones k (r + 2 ^ k) ≡ false
  unfolding pairs all below bit ones value leaf_table tabulate one
  under-past e = not_out (ones k (r + 2 ^ k))
      (or_out (not (bit r k)) (not (ones k (r + 2 ^ k))) (at_pair (λ r k. not (bit r k) || not (ones k (r + 2 ^ k))) 16 4 tt r k row leaf) (not-true (bit r k) e))

module _ (t k : ℕ) (leaf : k < 4) where
  -- the rows where the leaf is 1, shifted down, and the others, shifted up
  unfoldable pub shifted : ℕ
  shifted = bit_or (bit_and t (leaf_table k) / 2 ^ (2 ^ k)) (bit_and t (65535 - leaf_table k) * 2 ^ (2 ^ k))

  -- what is shifted up stays a table
  pub kept : bit_and t (65535 - leaf_table k) * 2 ^ (2 ^ k) < 65536
  unfolding leaf_table tabulate bit one
  kept = fits k leaf
    where
      fits : (k : ℕ) → k < 4 → bit_and t (65535 - leaf_table k) * 2 ^ (2 ^ k) < 65536
      fits zero h = omega (arith, and_le_r t 21845)
      fits (suc zero) h = omega (arith, and_le_r t 13107)
      fits (suc (suc zero)) h = omega (arith, and_le_r t 3855)
      fits (suc (suc (suc zero))) h = omega (arith, and_le_r t 255)
      fits (suc (suc (suc (suc k)))) h = absurd (omega arith)

  rows_out : (r : ℕ) → value shifted r ≡ ((value t (r + 2 ^ k) && ones k (r + 2 ^ k)) || value (bit_and t (65535 - leaf_table k) * 2 ^ (2 ^ k)) r)
  unfolding shifted ones
  rows_out r =
      value_or (bit_and t (leaf_table k) / 2 ^ (2 ^ k)) (bit_and t (65535 - leaf_table k) * 2 ^ (2 ^ k)) r
      ∙ ap (λ (b : Bool). b || value (bit_and t (65535 - leaf_table k) * 2 ^ (2 ^ k)) r) (value-right (bit_and t (leaf_table k)) (2 ^ k) r ∙ value-and t (leaf_table k) (r + 2 ^ k))

  -- a row shifted up
  row_up : (r : ℕ) → 2 ^ k ≤ r → value (bit_and t (65535 - leaf_table k) * 2 ^ (2 ^ k)) r ≡ (value t (r - 2 ^ k) && zeros k (r - 2 ^ k))
  unfolding zeros
  row_up r l = value-left (2 ^ k) (bit_and t (65535 - leaf_table k)) r l ∙ value-and t (65535 - leaf_table k) (r - 2 ^ k)

  no_row_up : (r : ℕ) → r < 16 → bit r k ≡ false → value (bit_and t (65535 - leaf_table k) * 2 ^ (2 ^ k)) r ≡ false
  no_row_up r h e = by_bit (ltb r (2 ^ k))
      (λ l. value_low (2 ^ k) (bit_and t (65535 - leaf_table k)) r (ltb-true r (2 ^ k) l))
      (λ l. row_up r (ltb-false r (2 ^ k) l) ∙ ap (λ (b : Bool). value t (r - 2 ^ k) && b) (above-past r k h leaf e (ltb-false r (2 ^ k) l)) ∙ and_none (value t (r - 2 ^ k)))

  row_out : (r : ℕ) → r < 16 → value shifted r ≡ value t (bit_xor r (2 ^ k))
  row_out r h = by_bit (bit r k)
      (λ e. rows_out r ∙ ap₂ ◌||◌ (ap (λ (b : Bool). value t (r + 2 ^ k) && b) (under-past r k h leaf e) ∙ and_none (value t (r + 2 ^ k)))
      (row_up r (under-high r k h leaf e) ∙ ap (λ (b : Bool). value t (r - 2 ^ k) && b) (under-zero r k h leaf e) ∙ and-all (value t (r - 2 ^ k)))
      ∙ ap (value t) (sym (under r k h leaf e)))
      (λ e. rows_out r
      ∙ ap₂ ◌||◌ (ap (λ (b : Bool). value t (r + 2 ^ k) && b) (above-one r k h leaf e) ∙ and-all (value t (r + 2 ^ k))) (no_row_up r h e)
      ∙ or_none (value t (r + 2 ^ k)) ∙ ap (value t) (sym (above r k h leaf e)))

  pub crossed-rows : t < 65536 → shifted ≡ crossed t k
  unfolding crossed shifted
  crossed-rows small = tables_same shifted (crossed t k) (or_lt 16 (bit_and t (leaf_table k) / 2 ^ (2 ^ k)) (bit_and t (65535 - leaf_table k) * 2 ^ (2 ^ k)) low kept)
      (table-small (λ r. value t (bit_xor r (2 ^ k)))) (λ r h. row_out r h ∙ sym (value-tabulate 16 (λ r. value t (bit_xor r (2 ^ k))) r h))
    where
      low : bit_and t (leaf_table k) / 2 ^ (2 ^ k) < 65536
      low = omega (arith, and_le_l t (leaf_table k), div-le_self (bit_and t (leaf_table k)) (2 ^ (2 ^ k)))

-- ---- the mask

-- row r with the leaf at pin j complemented, where bit j of the mask is 1
across : List ℕ → ℕ → ℕ → ℕ → ℕ
across places mask j r = cond (bit mask j) (bit_xor r (2 ^ get_or places j 0)) r

across_small : (order mask j r : ℕ) → order < 24 → j < 4 → r < 16 → across (places_of order) mask j r < 16
unfolding across
across_small order mask j r o l h = go (bit mask j)
  where
    go : (b : Bool) → cond b (bit_xor r (2 ^ get_or (places_of order) j 0)) r < 16
    go true = xor_lt 4 r (2 ^ get_or (places_of order) j 0) h (pow-lt {i = get_or (places_of order) j 0} {j = 4} (place-small order j o l))
    go false = h

across_value : (order mask j t r : ℕ) → order < 24 → j < 4 → r < 16 → value (crossed_at (places_of order) mask j t) r ≡ value t (across (places_of order) mask j r)
unfolding crossed_at crossed across
across_value order mask j t r o l h = go (bit mask j)
  where
    go : (b : Bool) → value (cond b (tabulate (λ r. value t (bit_xor r (2 ^ get_or (places_of order) j 0))) 16) t) r ≡ value t (cond b (bit_xor r (2 ^ get_or (places_of order) j 0)) r)
    go true = value-tabulate 16 (λ r. value t (bit_xor r (2 ^ get_or (places_of order) j 0))) r h
    go false = refl

-- of all four
around : ℕ → ℕ → ℕ → ℕ
around order mask r =
    across (places_of order) mask 0 (across (places_of order) mask 1 (across (places_of order) mask 2 (across (places_of order) mask 3 r)))

-- the row of the pins there is that of the mask
meets : ℕ → ℕ → ℕ → Bool
meets order mask r = eqb (pin_row 4 (places_of order) 0 (around order mask r)) (bit_xor (pin_row 4 (places_of order) 0 r) mask)

meet : (order mask r : ℕ) → order < 24 → mask < 16 → r < 16 → pin_row 4 (places_of order) 0 (around order mask r) ≡ bit_xor (pin_row 4 (places_of order) 0 r) mask
unfolding meets around across all below pairs orders pin_row bit one flip
meet order mask r o m h =
    eqb-true (pin_row 4 (places_of order) 0 (around order mask r)) (bit_xor (pin_row 4 (places_of order) 0 r) mask)
    (true_of (meets order mask r) (at_pair (meets order) 16 16 (at (λ (o : ℕ). pairs (meets o) 16 16) 24 tt order o) mask r m h))
  where
    true_of : (b : Bool) → T b → b ≡ true
    true_of true t = refl
    true_of false t = absurd t

-- a table stays one
pub crossed-small : (places : List ℕ) (mask j t : ℕ) → t < 65536 → crossed_at places mask j t < 65536
unfolding crossed_at crossed
crossed-small places mask j t h = go (bit mask j)
  where
    go : (b : Bool) → cond b (tabulate (λ r. value t (bit_xor r (2 ^ get_or places j 0))) 16) t < 65536
    go true = table-small (λ r. value t (bit_xor r (2 ^ get_or places j 0)))
    go false = h

permuted-small : (places : List ℕ) (mask t : ℕ) → t < 65536 → permuted places mask t < 65536
unfolding permuted
permuted-small places mask t h =
    crossed-small places mask 3 (crossed_at places mask 2 (crossed_at places mask 1 (crossed_at places mask 0 t)))
    (crossed-small places mask 2 (crossed_at places mask 1 (crossed_at places mask 0 t))
    (crossed-small places mask 1 (crossed_at places mask 0 t) (crossed-small places mask 0 t h)))

module _ (pins table order mask : ℕ) (four : pins ≤ 4) (o : order < 24) (m : mask < 2 ^ pins) where
  first : ℕ
  first = variant_table pins table (places_of order) 0

  few : mask < 16
  few = omega (arith, pow_mono {i = pins} {j = 4} four)

  long : pins ≤ length (places_of order)
  long = omega (arith, places-four order o)

  row-there : (r : ℕ) → r < 16 → pin_row pins (places_of order) 0 (around order mask r) ≡ pin_row pins (places_of order) mask r
  row-there r h =
      pin-row pins 4 (places_of order) 0 (around order mask r) four long
      ∙ ap (λ (q : ℕ). q % 2 ^ pins) (xor_zero_r (pin_row 4 (places_of order) 0 (around order mask r)) ∙ meet order mask r o few h)
      ∙ sym (pin-row pins 4 (places_of order) mask r four long)

  permuted-row : (r : ℕ) → r < 16 → value (permuted (places_of order) mask first) r ≡ value table (pin_row pins (places_of order) mask r)
  unfolding permuted first around variant_table
  permuted-row r h =
      let ps : List ℕ = places_of order in let d : ℕ = across ps mask 3 r in let c : ℕ = across ps mask 2 d in
      let b : ℕ = across ps mask 1 c in let hd : d < 16 = across_small order mask 3 r o (omega arith) h in
      let hc : c < 16 = across_small order mask 2 d o (omega arith) hd in
      let hb : b < 16 = across_small order mask 1 c o (omega arith) hc in
      across_value order mask 3 (crossed_at ps mask 2 (crossed_at ps mask 1 (crossed_at ps mask 0 first))) r o (omega arith) h
      ∙ across_value order mask 2 (crossed_at ps mask 1 (crossed_at ps mask 0 first)) d o (omega arith) hd
      ∙ across_value order mask 1 (crossed_at ps mask 0 first) c o (omega arith) hc ∙ across_value order mask 0 first b o (omega arith) hb
      ∙ value-tabulate 16 (λ r. value table (pin_row pins ps 0 r)) (across ps mask 0 b) (across_small order mask 0 b o (omega arith) hb)
      ∙ ap (value table) (row-there r h)

  pub permuted_variant : permuted (places_of order) mask (variant_table pins table (places_of order) 0) ≡ variant_table pins table (places_of order) mask
  unfolding first variant_table
  permuted_variant = tables_same (permuted (places_of order) mask first) (variant_table pins table (places_of order) mask)
      (permuted-small (places_of order) mask first (table-small (λ r. value table (pin_row pins (places_of order) 0 r)))) (table-small (λ r. value table (pin_row pins (places_of order) mask r)))
      (λ r h. permuted-row r h ∙ sym (value-tabulate 16 (λ r. value table (pin_row pins (places_of order) mask r)) r h))
