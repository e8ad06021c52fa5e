-- `genlib_groups::count` meets its contract. The invariant: those counted and those left are all tokens; the measure is what is left of the line.
use Rattle.base.specs.{◌≡◌, length, ◌+◌, ◌-◌, ◌≤◌}
use Rattle.model.specs.{tokens}
use Rattle.genlib_expression.specs.{rest_at}
use Rattle.genlib_groups.proofs.count.Given as goal

abbrev pub invariant-loop-at : goal.invariant-loop-at
invariant-loop-at l = (l.at ≤ length l.w) × (l.n ≤ l.at) × (length (tokens l.w) ≡ l.n + length (rest_at l.w l.at))

abbrev pub decreases-loop-at : goal.decreases-loop-at
decreases-loop-at l = length l.w - l.at
