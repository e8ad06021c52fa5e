-- `base_truth::first_table` meets its contract. The invariant: t has the rows from r on.
use Rattle.base.specs.{◌≡◌, sym, ap, ◌∙◌, Bool, List, map, ℕ, zero, suc, ◌+◌, ◌-◌, ◌*◌, ◌%◌, ◌^◌, ◌≤◌, ◌<◌, add-zero, zero-add}
use Rattle.base.specs.{add-suc, suc-add, arith, xor_zero_r, get_or}
use Rattle.model.specs.{one, from, below, value, row_map, pin_row}
use Rattle.base_truth.specs.{places_of, variant_table}
use Rattle.base_truth.proofs.RowDescent.{rows_from, down, rows-small, rows_none, rows_whole}
use Rattle.base_truth.proofs.VariantTables.{pin-row, places-four}
use Rattle.base_truth.proofs.first_table.Invariants.{cell}
use Rattle.base_truth.proofs.first_table.Goals as goal

get-map : (f : ℕ → ℕ) (n i r : ℕ) → r < n → get_or (map f (from i n)) r 0 ≡ f (i + r)
unfolding from
get-map f zero i r h = absurd (omega arith)
get-map f (suc n) i zero h = ap f (sym (add-zero i))
get-map f (suc n) i (suc r) h = get-map f n (suc i) r (omega arith) ∙ ap f (suc-add i r ∙ sym (add-suc i r))

-- the row of the pins, from the order's rows
row_of : (pins order r : ℕ) (rs : List ℕ) → pins ≤ 4 → order < 24 → r < 16 → rs ≡ map (row_map (places_of order)) (below 16)
    → get_or rs r 0 % 2 ^ pins ≡ pin_row pins (places_of order) 0 r
unfolding below row_map
row_of pins order r rs four o h e =
    ap (λ (q : ℕ). q % 2 ^ pins) (ap (λ (l : List ℕ). get_or l r 0) e ∙ get-map (row_map (places_of order)) 16 0 r h ∙ ap (row_map (places_of order)) (zero-add r) ∙ sym (xor_zero_r (pin_row 4 (places_of order) 0 r)))
    ∙ sym (pin-row pins 4 (places_of order) 0 r four (omega (arith, places-four order o)))

pub with_row-t-requires : goal.with_row-t-requires
with_row-t-requires c =
    let a = c.args in let l = c.loop-r in
    omega (arith, rows-small 16 (cell a.pins a.table a.order) l.r (omega arith) (omega arith), l.invariant)

pub loop-r-preserved : goal.loop-r-preserved
unfolding cell
loop-r-preserved c =
    let a = c.args in let l = c.loop-r in
    let f : ℕ → Bool = cell a.pins a.table a.order in
    let here : c.from.result % 2 ^ a.pins ≡ pin_row a.pins (places_of a.order) 0 (l.r - 1) =
    ap (λ (q : ℕ). q % 2 ^ a.pins) c.from.ensures ∙ row_of a.pins a.order (l.r - 1) c.rows-rs.result c.requires.0 c.requires.1 (omega arith) c.rows-rs.ensures in
    let now : c.with_row-t.result ≡ one (f (l.r - 1)) + 2 * l.t =
    c.with_row-t.ensures ∙ ap (λ (q : Bool). one q + 2 * l.t) (c.value_at.ensures ∙ ap (value a.table) here) in
    now ∙ down 16 f l.r l.t (omega arith) (omega arith) l.invariant

pub returns : goal.returns
unfolding variant_table cell
returns c =
    let a = c.args in let f : ℕ → Bool = cell a.pins a.table a.order in
    let none : c.loop-r.r ≡ 0 = omega (arith, c.loop-r-test.false) in
    c.loop-r.invariant ∙ ap (rows_from 16 f) none ∙ rows_whole 16 f

pub loop-r-init : goal.loop-r-init
loop-r-init c = sym (rows_none 16 (cell c.args.pins c.args.table c.args.order))
