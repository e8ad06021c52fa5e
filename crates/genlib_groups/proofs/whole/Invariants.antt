-- `genlib_groups::whole` meets its contract. The invariant: the number so far is that of the digits passed.
use Rattle.base.specs.{◌≡◌, min, take}
use Rattle.model.specs.{as_digits}
use Rattle.genlib_groups.proofs.whole.Given as goal

abbrev pub invariant-loop-b : goal.invariant-loop-b
invariant-loop-b l = l.n ≡ min 65536 (as_digits 0 (take l.b-index l.digits))
