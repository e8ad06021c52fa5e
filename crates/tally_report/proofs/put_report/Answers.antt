-- `tally_report::put_report` meets its contract: the cells' lines, and the total.
use Rattle.base.specs.{arith, refl, sym, [], ◌++◌, append-nil, ℕ, ◌+◌, ◌≤◌, List, length}
use Rattle.model.specs.{cells_of, total_line, report_text}
use Rattle.model.specs.declared.Library.{Library}
use Rattle.model.specs.declared.Tally.{Tally}
use Rattle.base_text.specs.{Wrote}
use Rattle.base_text.proofs.{Partly, begin, step, capacity, finish}
use Rattle.tally_lines.specs.{Listed}
use Rattle.tally_report.specs.{cell_lines}
use Rattle.tally_report.proofs.ReportLines.{report-is}
use Rattle.tally_report.proofs.put_report.Goals as goal

-- the cells' lines are written
module _ (o : List ℕ) (lib : Library) (is : Listed lib) (t : Tally) (room : length (report_text (cells_of lib) t) ≤ length o) where
  fits : 0 + length (report_text (cells_of lib) t) ≤ length o
  fits = omega (arith, room)

  none : Partly o o 0 0 (report_text (cells_of lib) t) (cell_lines lib t 0 lib.n ++ total_line (cells_of lib) t)
  none = begin o 0 (report-is lib is t)

  cells : {w : List ℕ} {at : ℕ} → Wrote o w 0 at (cell_lines lib t 0 lib.n) → Partly o w 0 at (report_text (cells_of lib) t) (total_line (cells_of lib) t)
  cells {w} {at} e = step fits none w at (cell_lines lib t 0 lib.n) (total_line (cells_of lib) t) refl e

pub put_cells-at-requires : goal.put_cells-at-requires
put_cells-at-requires c =
    let a = c.args in
    let r = c.requires in
    let p = none a.out.now a.lib r.0 a.t r.2 in
    (r.0, omega (arith, capacity (fits a.out.now a.lib r.0 a.t r.2) p (cell_lines a.lib a.t 0 a.lib.n) (total_line (cells_of a.lib) a.t) refl))

pub put_total-requires : goal.put_total-requires
put_total-requires c =
    let a = c.args in
    let r = c.requires in
    let p = cells a.out.now a.lib r.0 a.t r.2 c.put_cells-at.ensures in
    let total = total_line (cells_of a.lib) a.t in
    (r.0, r.1, capacity (fits a.out.now a.lib r.0 a.t r.2) p total [] (sym (append-nil total)))

pub returns : goal.returns
returns c =
    let a = c.args in
    let r = c.requires in
    finish (fits a.out.now a.lib r.0 a.t r.2) (cells a.out.now a.lib r.0 a.t r.2 c.put_cells-at.ensures) c.put_total.ensures
