-- `net_writer::gate_from` meets its contract. The invariant: the first gate from g on is the first from l on.
use Rattle.base.specs.{◌≡◌, ◌≤◌, ◌+◌, ◌-◌, ◌*◌, max}
use Rattle.net_writer.specs.{gate_from}
use Rattle.net_writer.proofs.gate_from.Given as goal

abbrev pub invariant-loop-g : goal.invariant-loop-g
invariant-loop-g l = (l.g ≤ max l.l (2 * (l.m + 1))) × (gate_from l.work l.m l.l (2 * (l.m + 1) - l.l) ≡ gate_from l.work l.m l.g (2 * (l.m + 1) - l.g))
