-- `graph_binary::store_inputs` meets its contract. The invariant: what the inputs from here on leave is what all leave.
use Rattle.graph_binary.specs.{input_step, input_left}
use Rattle.graph_binary.proofs.BinaryPasses.{Rest}
use Rattle.graph_binary.proofs.store_inputs.Given as goal

abbrev pub invariant-loop-k : goal.invariant-loop-k
invariant-loop-k l = Rest input_step (input_left l.h) l.h.inputs 0 l.h.next l.initial.work l.k l.h.next l.work
