-- `genlib_expression::is_formed` meets its contract. The invariant: the tokens that are left take the state at hand to where all tokens take the first; the measure is what is left of the line.
use Rattle.base.specs.{◌≡◌, ◌-◌, ◌≤◌, length}
use Rattle.model.specs.{scan}
use Rattle.model.specs.declared.Scan.TheVariants.{Expected}
use Rattle.genlib_expression.specs.{rest_at, depth_of}
use Rattle.genlib_expression.proofs.is_formed.Given as goal

abbrev pub invariant-loop-at : goal.invariant-loop-at
invariant-loop-at l = (l.at ≤ length l.w) × (depth_of l.s ≤ l.at) × (scan (Expected 0) (rest_at l.w l.from) ≡ scan l.s (rest_at l.w l.at))

abbrev pub decreases-loop-at : goal.decreases-loop-at
decreases-loop-at l = length l.w - l.at
