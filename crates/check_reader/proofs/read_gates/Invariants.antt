-- `check_reader::read_gates` meets its contract. The invariant: the drivers of the lines so far stand first in the array, and the lines from here on are expected; each line has six bytes at least. The measure is
-- what is left of the text.
use Rattle.base.specs.{◌≡◌, ◌-◌, ◌*◌, ◌≤◌, length}
use Rattle.check_reader.proofs.GateGathering.{Sofar}
use Rattle.check_reader.proofs.read_gates.Given as goal

abbrev pub invariant-loop-at : goal.invariant-loop-at
invariant-loop-at l = (6 * l.count ≤ l.at) × (length l.nets ≡ length l.initial.nets) × Sofar l.s l.lib l.from l.at l.count l.initial.nets l.nets

abbrev pub decreases-loop-at : goal.decreases-loop-at
decreases-loop-at l = length l.s - l.at
