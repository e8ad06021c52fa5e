-- `tally_counting::read_gates` meets its contract. The invariant: what was counted and what is left are all gates; the measure is what is left of the text.
use Rattle.base.specs.{◌-◌, length}
use Rattle.tally_counting.proofs.GateCounts.{SoFar}
use Rattle.tally_counting.proofs.read_gates.Given as goal

abbrev pub invariant-loop-k : goal.invariant-loop-k
invariant-loop-k l = SoFar l.lib l.s l.from l.c

abbrev pub decreases-loop-k : goal.decreases-loop-k
decreases-loop-k l = length l.s - l.c.at
