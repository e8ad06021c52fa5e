-- `genlib_groups::all_figures` meets its contract. The invariant: all tokens are figures where all that are left are; the measure is what is left of the line.
use Rattle.base.specs.{◌≡◌, ◌-◌, ◌≤◌, length}
use Rattle.model.specs.{all, is_figure}
use Rattle.genlib_expression.specs.{rest_at}
use Rattle.genlib_groups.proofs.all_figures.Given as goal

abbrev pub invariant-loop-at : goal.invariant-loop-at
invariant-loop-at l = (l.at ≤ length l.w) × (all is_figure (rest_at l.w l.from) ≡ all is_figure (rest_at l.w l.at))

abbrev pub decreases-loop-at : goal.decreases-loop-at
decreases-loop-at l = length l.w - l.at
