-- `net_timing::put_lines` meets its contract. The invariant: the lines of the first i outputs are written.
use Rattle.base.specs.{◌-◌}
use Rattle.base_text.proofs.{Partly}
use Rattle.net_timing.specs.{lines_from}
use Rattle.net_timing.proofs.put_lines.Given as goal

abbrev pub invariant-loop-i : goal.invariant-loop-i
invariant-loop-i l = Partly l.initial.out l.out l.at l.next (lines_from l.work l.m 0 l.outputs) (lines_from l.work l.m l.i (l.outputs - l.i))
