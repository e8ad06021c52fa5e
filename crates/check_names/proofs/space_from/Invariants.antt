-- `check_names::space_from` meets its contract. The invariant: the field from here on ends where that from the start does.
use Rattle.base.specs.{◌≡◌, ◌≤◌, max, length}
use Rattle.check_names.specs.{space_from}
use Rattle.check_names.proofs.space_from.Given as goal

abbrev pub invariant-loop-at : goal.invariant-loop-at
invariant-loop-at l = (l.at ≤ max l.from (length l.l)) × (space_from l.l l.from ≡ space_from l.l l.at)
