-- `check_wires::find` meets its contract. The invariant: a driver of this number is on what is left of the bucket. The measure is how far the bucket can lead.
use Rattle.base.specs.{ℕ, ◌≤◌, ◌≡◌}
use Rattle.check_wires.specs.{own_at, On}
use Rattle.check_wires.proofs.find.Given as goal

abbrev pub invariant-loop-h : goal.invariant-loop-h
invariant-loop-h l = (l.h ≤ l.from) × ((k : ℕ) → own_at l.nets k ≡ l.x → On l.links k l.from → On l.links k l.h)

abbrev pub decreases-loop-h : goal.decreases-loop-h
decreases-loop-h l = l.h
