-- `genlib_groups::next_gate` meets its contract. The invariant: the groups behind the lines from here on are those behind the lines from the start; the measure is what is left of the text.
use Rattle.base.specs.{◌≡◌, ◌-◌, ◌≤◌, length}
use Rattle.model.specs.{grouped}
use Rattle.genlib_groups.specs.{lines_of}
use Rattle.genlib_groups.proofs.next_gate.Given as goal

abbrev pub invariant-loop-at : goal.invariant-loop-at
invariant-loop-at l = (l.from ≤ l.at) × (l.at ≤ length l.s) × ((grouped (lines_of l.s l.from)).1 ≡ (grouped (lines_of l.s l.at)).1)

abbrev pub decreases-loop-at : goal.decreases-loop-at
decreases-loop-at l = length l.s - l.at
