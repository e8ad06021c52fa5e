-- `net_writer::put_wires` meets its contract. The invariant: the lines of the first i outputs are written.
use Rattle.base.specs.{◌-◌}
use Rattle.base_text.proofs.{Partly}
use Rattle.net_writer.specs.{wire_lines_from}
use Rattle.net_writer.proofs.put_wires.Given as goal

abbrev pub invariant-loop-i : goal.invariant-loop-i
invariant-loop-i l =
    Partly l.initial.out l.out l.at l.next (wire_lines_from l.work l.m 0 l.outputs) (wire_lines_from l.work l.m l.i (l.outputs - l.i))
