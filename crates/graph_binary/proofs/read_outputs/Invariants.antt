-- `graph_binary::read_outputs` meets its contract. The invariant: what the output lines from here on give is what all give.
use Rattle.graph_binary.specs.{output_step, output_left}
use Rattle.graph_binary.proofs.BinaryPasses.{Rest}
use Rattle.graph_binary.proofs.read_outputs.Given as goal

abbrev pub invariant-loop-k : goal.invariant-loop-k
invariant-loop-k l = Rest (output_step l.s l.h) (output_left l.s l.h) l.h.outputs l.h.inputs l.h.next l.initial.work l.k l.at l.work
