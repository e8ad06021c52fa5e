-- `tally_report::put_cells` meets its contract. The invariant: the lines before this cell's are written.
use Rattle.base.specs.{arith, ◌+◌, ◌-◌, ◌≤◌, ◌<◌, length}
use Rattle.model.specs.{cells_of, cell_line}
use Rattle.base_text.proofs.{begin, step, capacity, kept, end}
use Rattle.tally_report.specs.{cell_lines}
use Rattle.tally_report.proofs.ReportLines.{cells-first, cells-step, cells-end}
use Rattle.tally_report.proofs.put_cells.Goals as goal

pub loop-i-init : goal.loop-i-init
loop-i-init c = begin _ _ (cells-first c.args.lib c.args.t c.args.lib.n)

pub put_cell-at-requires : goal.put_cell-at-requires
put_cell-at-requires c =
    let l = c.loop-i in let a = c.args in
    let f : 0 + length (cell_lines c.args.lib c.args.t 0 c.args.lib.n) ≤ length c.args.out.now = omega (arith, c.requires.1) in
    let h : l.i < a.lib.n = omega arith in
    (h, c.requires.0, capacity f l.invariant (cell_line (cells_of a.lib) a.t l.i) (cell_lines a.lib a.t (l.i + 1) (a.lib.n - (l.i + 1))) (cells-step a.lib a.t l.i a.lib.n h))

pub loop-i-preserved : goal.loop-i-preserved
loop-i-preserved c =
    let l = c.loop-i in
    let a = c.args in
    let f : 0 + length (cell_lines c.args.lib c.args.t 0 c.args.lib.n) ≤ length c.args.out.now = omega (arith, c.requires.1) in
    let p = c.put_cell-at in let h : l.i < a.lib.n = omega arith in
    step f l.invariant p.new.out p.result (cell_line (cells_of a.lib) a.t l.i) (cell_lines a.lib a.t (l.i + 1) (a.lib.n - (l.i + 1))) (cells-step a.lib a.t l.i a.lib.n h) p.ensures

pub shape_of-out : goal.shape_of-out
shape_of-out c =
    let f : 0 + length (cell_lines c.args.lib c.args.t 0 c.args.lib.n) ≤ length c.args.out.now = omega (arith, c.requires.1) in
    kept f c.loop-i.invariant

pub returns : goal.returns
returns c =
    let f : 0 + length (cell_lines c.args.lib c.args.t 0 c.args.lib.n) ≤ length c.args.out.now = omega (arith, c.requires.1) in
    end f c.loop-i.invariant (cells-end c.args.lib c.args.t c.loop-i.i c.args.lib.n (omega arith))
