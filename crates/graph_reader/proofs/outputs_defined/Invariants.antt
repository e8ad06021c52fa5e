-- `graph_reader::outputs_defined` meets its contract. The invariant: what the outputs from here on pass is what all pass.
use Rattle.graph_reader.specs.{output_defined}
use Rattle.graph_reader.proofs.DefinedUses.{Passing}
use Rattle.graph_reader.proofs.outputs_defined.Given as goal

abbrev pub invariant-loop-i : goal.invariant-loop-i
invariant-loop-i l = Passing (output_defined l.work l.h.size) l.h.outputs l.i
