-- A cell under an order and a mask.
--     pin-row             the row of the pins is that of the order, exclusive-or with the mask, modulo 2 ^ pins
--     rows_agree_lem          "in all 16 rows, the cut's function equals the cell's value": it is the cell's table
--     places-four         an order has four places; `place-small`: each below 4
--     places-fit          the test of the places depends on the cell's pins only
use Rattle.base.specs.{◌≡◌, refl, sym, ap, ap₂, ◌∙◌, Bool, true, false, beq, ◌↔◌, List, [], ◌∷◌, ℕ, zero, suc, ◌+◌, ◌*◌, ◌/◌, ◌%◌, ◌^◌}
use Rattle.base.specs.{◌≤◌, ◌<◌, le_of_suc-le-suc, add-one, arith, bit_xor, differ, xor_step, T, eqb, ltb, eqb→eq, ltb→lt, length, get_or}
use Rattle.base.specs.{mod-pow-add}
use Rattle.model.specs.{bit, one, flip, all, below, value, orders, pin_row, tabulate, places_fit, rows_agree}
use Rattle.model.specs.declared.Cell.{Cell}
use Rattle.base_truth.specs.{places_of, variant_table, places_below}
use Rattle.base_truth.proofs.ComputedTables.{at, from_at_lem, pairs, at_pair, beq_same, same-beq}
use Rattle.base_truth.proofs.Tables.{one-small, one-low, half_one, value-tabulate, table-small, tables_same}

-- ---- the row of the pins

differ-flip : (a b : Bool) → differ (one b) (one a) ≡ one (flip a b)
unfolding one flip
differ-flip true true = refl
differ-flip true false = refl
differ-flip false true = refl
differ-flip false false = refl

odd : (b : Bool) (x : ℕ) → (one b + 2 * x) % 2 ≡ one b
odd b x = omega (arith, one-small b)

-- the m + 1 lowest digits of a number: the lowest, and m of its half
low_digit : (m z d : ℕ) → d < 2 → (z * 2 + d) % 2 ^ suc m ≡ d + 2 * (z % 2 ^ m)
low_digit m z d h =
    let half : (z * 2 + d) / 2 ≡ z = omega arith in let rest : (z * 2 + d) % 2 ≡ d = omega arith in
    ap (λ (k : ℕ). (z * 2 + d) % 2 ^ k) (sym (add-one m)) ∙ mod-pow-add (z * 2 + d) m 1
    ∙ ap₂ (λ (x y : ℕ). x % 2 ^ m * 2 + y) half rest ∙ omega arith

pub pin-row : (m n : ℕ) (places : List ℕ) (mask r : ℕ) → m ≤ n → m ≤ length places
    → pin_row m places mask r ≡ bit_xor (pin_row n places 0 r) mask % 2 ^ m
unfolding pin_row
pin-row zero n places mask r h l = omega arith
pin-row (suc m) zero places mask r h l = absurd (omega arith)
pin-row (suc m) (suc n) [] mask r h l = absurd (omega arith)
pin-row (suc m) (suc n) (p ∷ ps) mask r h l =
    let x : ℕ = pin_row n ps 0 r in let b : Bool = bit r p in
    let low : differ ((one b + 2 * x) % 2) (mask % 2) ≡ one (flip (bit mask 0) b) =
    ap₂ differ (odd b x) (sym (one-low mask)) ∙ differ-flip (bit mask 0) b in
    let both : bit_xor (one b + 2 * x) mask ≡ bit_xor x (mask / 2) * 2 + one (flip (bit mask 0) b) =
    xor_step (one b + 2 * x) mask ∙ ap₂ (λ (y e : ℕ). bit_xor y (mask / 2) * 2 + e) (half_one b x) low in
    ap (λ (y : ℕ). one (flip (bit mask 0) b) + 2 * y) (pin-row m n ps (mask / 2) r (le_of_suc-le-suc h) (le_of_suc-le-suc l))
    ∙ sym (low_digit m (bit_xor x (mask / 2)) (one (flip (bit mask 0) b)) (one-small (flip (bit mask 0) b)))
    ∙ ap (λ (y : ℕ). y % 2 ^ suc m) (sym both)

-- ---- the table of a cell

pub rows_agree_lem : (c : Cell) (places : List ℕ) (mask f : ℕ) → f < 65536
    → T (rows_agree c places mask f) ↔ (f ≡ variant_table c.pins c.table places mask)
unfolding rows_agree variant_table
rows_agree_lem c places mask f small = (
  λ t. tables_same f table small (table-small cell) (λ r h. beq_same (value f r) (cell r) (at test 16 t r h) ∙ sym (value-tabulate 16 cell r h)),
  λ e. from_at_lem test 16 (λ r h. same-beq (value f r) (cell r) (ap (λ (x : ℕ). value x r) e ∙ value-tabulate 16 cell r h)),
)
  where
    cell : ℕ → Bool
    cell r = value c.table (pin_row c.pins places mask r)

    table : ℕ
    table = tabulate cell 16

    test : ℕ → Bool
    test r = beq (value f r) (cell r)

-- ---- the places of an order

four : ℕ → Bool
four order = eqb (length (places_of order)) 4

pub places-four : (order : ℕ) → order < 24 → length (places_of order) ≡ 4
unfolding four all below orders
places-four order h = eqb→eq (length (places_of order)) 4 (at four 24 tt order h)

below-four : ℕ → ℕ → Bool
below-four order j = ltb (get_or (places_of order) j 0) 4

pub place-small : (order j : ℕ) → order < 24 → j < 4 → get_or (places_of order) j 0 < 4
unfolding below-four pairs orders
place-small order j h l = ltb→lt (get_or (places_of order) j 0) 4 (at_pair below-four 24 4 tt order j h l)

pub places-fit : (c : Cell) (places : List ℕ) (leaves : ℕ) → places_fit c places leaves ≡ places_below c.pins places leaves
unfolding places_fit places_below
places-fit c places leaves = refl
