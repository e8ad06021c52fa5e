-- `genlib_groups::find_line` meets its contract. The invariant: the first line that fits is the first from here on; the measure is what is left of the text.
use Rattle.base.specs.{◌≡◌, ◌-◌, ◌≤◌, length}
use Rattle.model.specs.{pin_line}
use Rattle.genlib_groups.specs.{lines_behind}
use Rattle.genlib_groups.proofs.find_line.Given as goal

abbrev pub invariant-loop-at : goal.invariant-loop-at
invariant-loop-at l = (l.at ≤ length l.s) × (pin_line l.name (lines_behind l.s l.from) ≡ pin_line l.name (lines_behind l.s l.at))

abbrev pub decreases-loop-at : goal.decreases-loop-at
decreases-loop-at l = length l.s - l.at
