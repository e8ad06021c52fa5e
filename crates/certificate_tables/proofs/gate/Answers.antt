-- `certificate_tables::gate` meets its contract. The invariant: t has the rows from r on.
use Rattle.base.specs.{◌≡◌, refl, sym, ap, ◌∙◌, subst, Bool, ℕ, ◌+◌, ◌-◌, ◌*◌, ◌<◌, arith}
use Rattle.model.specs.{one, tabulate}
use Rattle.base_truth.proofs.RowDescent.{rows_from, down, rows-small, rows_whole}
use Rattle.certificate_tables.proofs.TableRows.{cell_row, cell_row_lem, cell-small, cell-table}
use Rattle.certificate_tables.proofs.gate.Goals as goal

pub with_bit-t-requires : goal.with_bit-t-requires
with_bit-t-requires c =
    let a = c.args in let l = c.loop-r in
    omega (arith, rows-small 16 (cell_row a.pins a.table a.ts) l.r (omega arith) (omega (arith, c.loop-r-test.true)), l.invariant)

pub loop-r-preserved : goal.loop-r-preserved
loop-r-preserved c =
    let a = c.args in let l = c.loop-r in
    let f : ℕ → Bool = cell_row a.pins a.table a.ts in
    let now : c.with_bit-t.result ≡ one (f (l.r - 1)) + 2 * l.t =
    c.with_bit-t.ensures ∙ ap (λ (q : Bool). one q + 2 * l.t) (c.value.ensures ∙ cell_row_lem a.pins a.table a.ts (l.r - 1) c.requires) in
    now ∙ down 16 f l.r l.t (omega (arith, c.loop-r-test.true)) (omega arith) l.invariant

pub returns : goal.returns
returns c =
    let a = c.args in let f : ℕ → Bool = cell_row a.pins a.table a.ts in
    let none : c.loop-r.r ≡ 0 = omega (arith, c.loop-r-test.false) in
    let is : c.loop-r.t ≡ tabulate f 16 = c.loop-r.invariant ∙ ap (rows_from 16 f) none ∙ rows_whole 16 f in
    (is ∙ cell-table a.pins a.table a.ts, subst (λ (x : ℕ). x < 65536) (sym is) (cell-small a.pins a.table a.ts))

pub loop-r-init : goal.loop-r-init
unfolding rows_from tabulate
loop-r-init c = refl
