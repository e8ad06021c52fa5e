-- `check_wires::first_undriven` meets its contract. The invariant: the pins passed are written.
use Rattle.check_wires.proofs.PinReferences.{Filled}
use Rattle.check_wires.proofs.first_undriven.Given as goal

abbrev pub invariant-loop-at : goal.invariant-loop-at
invariant-loop-at l = Filled l.nets l.inputs l.count l.n l.at l.initial.refs l.refs
