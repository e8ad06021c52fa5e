-- `check_wires::first_driven_twice` meets its contract. The invariant: the nets of the drivers passed are driven once, and they are on their buckets.
use Rattle.base.specs.{ℕ, ◌<◌}
use Rattle.check_wires.specs.{own_at, Chained, Undriven}
use Rattle.check_wires.proofs.first_driven_twice.Given as goal

abbrev pub invariant-loop-i : goal.invariant-loop-i
invariant-loop-i l = ((k : ℕ) → k < l.i → Undriven l.nets l.inputs l.count k (own_at l.nets k)) × Chained l.nets l.heads l.links l.i
