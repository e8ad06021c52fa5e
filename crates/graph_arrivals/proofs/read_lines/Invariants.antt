-- `graph_arrivals::read_lines` meets its contract. The invariant: what the lines from here on give with what is stored and marked is what the text gives; the measure is what is left of the text.
use Rattle.base.specs.{◌-◌, length}
use Rattle.graph_arrivals.proofs.ArrivalSteps.{SoFar}
use Rattle.graph_arrivals.proofs.read_lines.Given as goal

abbrev pub invariant-loop-at : goal.invariant-loop-at
invariant-loop-at l = SoFar l.s l.from l.h.size l.h.inputs l.initial.work l.seen l.at l.work

abbrev pub decreases-loop-at : goal.decreases-loop-at
decreases-loop-at l = length l.s - l.at
