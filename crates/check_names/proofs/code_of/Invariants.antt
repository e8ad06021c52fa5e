-- `check_names::code_of` meets its contract. The invariant: the number is that of the bytes passed, from the last on.
use Rattle.base.specs.{◌≡◌, drop}
use Rattle.check_names.specs.{code}
use Rattle.check_names.proofs.code_of.Given as goal

abbrev pub invariant-loop-i : goal.invariant-loop-i
invariant-loop-i l = l.n ≡ code (drop l.i l.w)
