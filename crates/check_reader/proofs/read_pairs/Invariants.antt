-- `check_reader::read_pairs` meets its contract. The invariant: the drivers of the outputs so far stand in the array, and the lines from here on are expected.
use Rattle.base.specs.{◌+◌, ◌*◌, ◌≤◌}
use Rattle.check_reader.proofs.NameLineReading.{SoMany}
use Rattle.check_reader.proofs.read_pairs.Given as goal

abbrev pub invariant-loop-k : goal.invariant-loop-k
invariant-loop-k l = (6 * (l.first + l.k) ≤ l.at) × SoMany l.s l.outs l.from l.first l.at l.k l.initial.nets l.nets
