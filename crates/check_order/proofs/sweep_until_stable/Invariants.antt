-- `check_order::sweep_until_stable` meets its contract. The invariant: a sweep came from `from` listed drivers to r. The measure is how many drivers were not listed before it.
use Rattle.base.specs.{ℕ, ◌-◌, List}
use Rattle.check_order.specs.{made, SweepResult}
use Rattle.check_order.proofs.SortSteps.{Settling, behind}
use Rattle.check_order.proofs.sweep_until_stable.Given as goal

abbrev pub invariant-loop-from : goal.invariant-loop-from
invariant-loop-from l = (before : List ℕ) × SweepResult l.refs l.n l.n l.from before l.r l.flags l.order × Settling l.refs l.n l.from (made l.r l.flags l.order) (behind l.refs l.n l.n l.m (made l.initial.r l.initial.flags l.initial.order))

abbrev pub decreases-loop-from : goal.decreases-loop-from
decreases-loop-from l = l.n - l.from
