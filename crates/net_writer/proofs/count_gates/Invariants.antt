-- `net_writer::count_gates` meets its contract. The invariant: what is counted, with the gates of the phases from l on, is the count of all.
-- The measure is the number of phases left.
use Rattle.base.specs.{◌≡◌, ◌+◌, ◌-◌, ◌*◌, ◌≤◌}
use Rattle.net_writer.specs.{gates_from, tallied, no_tally, Bounded}
use Rattle.net_writer.proofs.GateWalk.{gates_left}
use Rattle.net_writer.proofs.count_gates.Given as goal

abbrev pub invariant-loop-l : goal.invariant-loop-l
invariant-loop-l l =
    (l.l ≤ 2 * (l.m + 1)) × Bounded l.t l.l × (tallied l.t (gates_left l.work l.records l.m l.l) ≡ tallied no_tally (gates_from l.work l.records l.m 0 (2 * (l.m + 1))))

abbrev pub decreases-loop-l : goal.decreases-loop-l
decreases-loop-l l = 2 * (l.m + 1) - l.l
