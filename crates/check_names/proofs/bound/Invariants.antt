-- `check_names::bound` meets its contract. The invariant: so many words are bound, and the others are expected.
use Rattle.check_names.proofs.PinBinding.{Part}
use Rattle.check_names.proofs.bound.Given as goal

abbrev pub invariant-loop-j : goal.invariant-loop-j
invariant-loop-j l = Part l.l l.from l.n l.at l.j l.codes
