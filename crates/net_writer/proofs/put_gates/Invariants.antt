-- `net_writer::put_gates` meets its contract. The invariant: the lines of the phases before l are written. The measure is the number of
-- phases left.
use Rattle.base.specs.{◌+◌, ◌-◌, ◌*◌, ◌≤◌}
use Rattle.model.specs.{each, gate_line}
use Rattle.base_text.proofs.{Partly}
use Rattle.net_writer.specs.{gates_from}
use Rattle.net_writer.proofs.GateWalk.{gates_left}
use Rattle.net_writer.proofs.put_gates.Given as goal

abbrev pub invariant-loop-l : goal.invariant-loop-l
invariant-loop-l l =
    (l.l ≤ 2 * (l.m + 1)) × Partly l.initial.out l.out l.at l.next (each gate_line (gates_from l.work l.records l.m 0 (2 * (l.m + 1)))) (each gate_line
    (gates_left l.work l.records l.m l.l))

abbrev pub decreases-loop-l : goal.decreases-loop-l
decreases-loop-l l = 2 * (l.m + 1) - l.l
