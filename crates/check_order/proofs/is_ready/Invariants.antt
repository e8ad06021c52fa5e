-- `check_order::is_ready` meets its contract. The invariant: the pins passed are fed.
use Rattle.base.specs.{ℕ, ◌-◌, ◌<◌, ◌≡◌, get_or}
use Rattle.check_order.specs.{ready_from, FeedsAt}
use Rattle.check_order.proofs.is_ready.Given as goal

abbrev pub invariant-loop-j : goal.invariant-loop-j
invariant-loop-j l = ((t : ℕ) → t < l.j → (k : ℕ) → FeedsAt l.refs l.i t k → get_or l.flags k 0 ≡ 0 → ⊥) × (ready_from l.refs l.flags l.i 0 4 ≡ ready_from l.refs l.flags l.i l.j (4 - l.j))
