-- `base_truth::pair_table` meets its contract. The invariant: t has the rows from r on.
use Rattle.base.specs.{◌≡◌, sym, ap, ◌∙◌, Bool, map, ℕ, ◌+◌, ◌-◌, ◌*◌, ◌%◌, ◌^◌, ◌≤◌, arith, pow_mono, shl_exact}
use Rattle.model.specs.{one, bit, below, pair_pins, pair_value, pair_table}
use Rattle.model.specs.declared.Cell.{Cell}
use Rattle.base_truth.proofs.RowDescent.{rows_from, down, rows-small, rows_none, rows_whole}
use Rattle.base_truth.proofs.PairTables.{pair_row}
use Rattle.base_truth.proofs.pair_table.Invariants.{at_row, rows}
use Rattle.base_truth.proofs.pair_table.Goals as goal

rows_are : (root inner : Cell) → root.pins + inner.pins ≤ 5 → 1 * 2 ^ (root.pins + inner.pins - 1) % 2 ^ 16 ≡ rows root inner
unfolding rows
rows_are root inner h = shl_exact 1 (root.pins + inner.pins - 1) 16 (omega arith) (omega arith) ∙ omega arith

rows_few : (root inner : Cell) → root.pins + inner.pins ≤ 5 → rows root inner ≤ 16
unfolding rows
rows_few root inner h = pow_mono {i = root.pins + inner.pins - 1} {j = 4} (omega arith)

table_is : (root inner : Cell) (pin : ℕ) → rows_from (rows root inner) (at_row root pin inner) 0 ≡ pair_table root pin inner
unfolding rows at_row pair_table pair_pins
table_is root inner pin = rows_whole (2 ^ (root.pins + inner.pins - 1)) (λ r. pair_value root pin inner (map (bit r) (below (root.pins + inner.pins - 1))))

pub loop-r-init : goal.loop-r-init
loop-r-init c =
    let a = c.args in let e = rows_are a.root a.inner c.requires.2 in
    (sym (ap (rows_from (rows a.root a.inner) (at_row a.root a.pin a.inner)) e ∙ rows_none (rows a.root a.inner) (at_row a.root a.pin a.inner)))

pub pair_value-requires : goal.pair_value-requires
pair_value-requires c =
    let few = rows_few c.args.root c.args.inner c.requires.2 in
    (omega (arith, c.requires.0, c.requires.1, c.requires.2), c.requires.1, omega (arith, c.requires.0, c.requires.2), omega (arith, few, rows_are c.args.root c.args.inner c.requires.2, c.loop-r-test.true))

pub with_row-t-requires : goal.with_row-t-requires
with_row-t-requires c =
    let l = c.loop-r in
    omega (arith, rows-small (rows c.args.root c.args.inner) (at_row c.args.root c.args.pin c.args.inner) l.r (rows_few c.args.root c.args.inner c.requires.2) (omega (arith, c.loop-r-test.true)), l.invariant)

pub loop-r-preserved : goal.loop-r-preserved
unfolding at_row rows pair_pins
loop-r-preserved c =
    let a = c.args in let l = c.loop-r in
    let taken = c.loop-r-test.true in let few = rows_few a.root a.inner c.requires.2 in
    let at_most : l.r ≤ 2 ^ (a.root.pins + a.inner.pins - 1) = omega (arith, rows_are a.root a.inner c.requires.2) in
    let f : ℕ → Bool = at_row a.root a.pin a.inner in
    let now : c.with_row-t.result ≡ one (f (l.r - 1)) + 2 * l.t =
    c.with_row-t.ensures ∙ ap (λ (q : Bool). one q + 2 * l.t) (c.pair_value.ensures
    ∙ sym (pair_row a.root a.inner a.pin (l.r - 1) c.requires.0 c.requires.1 c.requires.2 (omega (arith, at_most, taken)) (omega (arith, few, at_most, taken)))) in
    now ∙ down (rows a.root a.inner) f l.r l.t taken at_most l.invariant

pub returns : goal.returns
returns c =
    let a = c.args in let none : c.loop-r.r ≡ 0 = omega (arith, c.loop-r-test.false) in
    c.loop-r.invariant ∙ ap (rows_from (rows a.root a.inner) (at_row a.root a.pin a.inner)) none ∙ table_is a.root a.inner a.pin
