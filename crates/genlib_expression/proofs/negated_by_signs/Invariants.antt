-- `genlib_expression::negated_by_signs` meets its contract. The invariant: what the signs from here on make of the value is what all of them make of the first; the measure is what is left of the line.
use Rattle.base.specs.{◌≡◌, ◌-◌, ◌≤◌, length}
use Rattle.model.specs.{negated_by_signs}
use Rattle.genlib_expression.specs.{rest_at}
use Rattle.genlib_expression.proofs.negated_by_signs.Given as goal

abbrev pub invariant-loop-next : goal.invariant-loop-next
invariant-loop-next l = (l.from ≤ l.at) × (l.at ≤ length l.w) × (negated_by_signs l.b l.start (rest_at l.w l.from) ≡ negated_by_signs l.b l.value (rest_at l.w l.at))

abbrev pub decreases-loop-next : goal.decreases-loop-next
decreases-loop-next l = length l.w - l.at
