-- `genlib_groups::all_pin_lines` meets its contract. The invariant: all lines are PIN lines where all from here on are; the measure is what is left of the text.
use Rattle.base.specs.{◌≡◌, ◌-◌, ◌≤◌, length}
use Rattle.model.specs.{all, grouped, line_is, is_pin_line}
use Rattle.genlib_groups.specs.{lines_of}
use Rattle.genlib_groups.proofs.all_pin_lines.Given as goal

abbrev pub invariant-loop-at : goal.invariant-loop-at
invariant-loop-at l = (l.at ≤ length l.s) × (all (line_is is_pin_line) (grouped (lines_of l.s l.from)).0 ≡ all (line_is is_pin_line) (grouped (lines_of l.s l.at)).0)

abbrev pub decreases-loop-at : goal.decreases-loop-at
decreases-loop-at l = length l.s - l.at
