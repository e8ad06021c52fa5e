-- `graph_reader::ands_defined` meets its contract. The invariant: what the variables from here on pass is what all pass.
use Rattle.base.specs.{◌+◌}
use Rattle.graph_reader.specs.{operands_defined}
use Rattle.graph_reader.proofs.DefinedUses.{Passing}
use Rattle.graph_reader.proofs.ands_defined.Given as goal

abbrev pub invariant-loop-v : goal.invariant-loop-v
invariant-loop-v l = Passing (operands_defined l.work l.m) (l.m + 1) l.v
