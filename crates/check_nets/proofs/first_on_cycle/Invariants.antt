-- `check_nets::first_on_cycle` meets its contract. The invariant: no driver passed is on a cycle.
use Rattle.base.specs.{ℕ, ◌<◌, ◌≡◌, get_or}
use Rattle.check_order.specs.{Back}
use Rattle.check_nets.proofs.first_on_cycle.Given as goal

abbrev pub invariant-loop-i : goal.invariant-loop-i
invariant-loop-i l = ((k : ℕ) → k < l.i → get_or l.flags k 0 ≡ 0 → Back l.refs k k → ⊥)
