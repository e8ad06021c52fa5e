-- `check_nets::is_increasing` meets its contract. The invariant: the pins passed rise.
use Rattle.base.specs.{ℕ, ◌+◌, ◌≤◌, ◌<◌, ◌≡◌, get_or}
use Rattle.check_order.specs.{FeedsAt}
use Rattle.check_nets.proofs.is_increasing.Given as goal

abbrev pub invariant-loop-j : goal.invariant-loop-j
invariant-loop-j l = (l.least ≡ get_or l.components l.i 0 + l.by) × ((t : ℕ) → t < l.j → (k : ℕ) → FeedsAt l.refs l.i t k → l.least ≤ get_or l.components k 0)
