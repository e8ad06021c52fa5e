-- `genlib_groups::tokens_have_lines` meets its contract. The invariant: all pins have their lines where all that are left do; the measure is what is left of the line.
use Rattle.base.specs.{◌≡◌, ◌-◌, ◌≤◌, length}
use Rattle.model.specs.{all}
use Rattle.genlib_expression.specs.{rest_at}
use Rattle.genlib_groups.specs.{pin_has, lines_behind}
use Rattle.genlib_groups.proofs.tokens_have_lines.Given as goal

abbrev pub invariant-loop-at : goal.invariant-loop-at
invariant-loop-at l = (l.from ≤ length l.s) × (l.at ≤ length l.w) × (all (pin_has (lines_behind l.s l.from)) (rest_at l.w l.start) ≡ all (pin_has (lines_behind l.s l.from)) (rest_at l.w l.at))

abbrev pub decreases-loop-at : goal.decreases-loop-at
decreases-loop-at l = length l.w - l.at
