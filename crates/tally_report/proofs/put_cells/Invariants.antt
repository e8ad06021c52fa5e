-- `tally_report::put_cells` meets its contract. The invariant: the lines before this cell's are written.
use Rattle.base.specs.{◌-◌}
use Rattle.base_text.proofs.{Partly}
use Rattle.tally_report.specs.{cell_lines}
use Rattle.tally_report.proofs.put_cells.Given as goal

abbrev pub invariant-loop-i : goal.invariant-loop-i
invariant-loop-i l = Partly l.initial.out l.out 0 l.at (cell_lines l.lib l.t 0 l.lib.n) (cell_lines l.lib l.t l.i (l.lib.n - l.i))
