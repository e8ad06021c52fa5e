-- `genlib_expression::is_shallow` meets its contract. The invariant: the line is shallow where what is left of it is.
use Rattle.base.specs.{◌≡◌, ◌≤◌}
use Rattle.model.specs.{shallow}
use Rattle.genlib_expression.specs.{rest_at}
use Rattle.genlib_expression.proofs.is_shallow.Given as goal

abbrev pub invariant-loop-at : goal.invariant-loop-at
invariant-loop-at l = (l.depth ≤ 16) × (shallow 0 (rest_at l.w l.from) ≡ shallow l.depth (rest_at l.w l.at))
