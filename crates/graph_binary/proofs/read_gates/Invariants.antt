-- `graph_binary::read_gates` meets its contract. The invariant: what the ANDs from here on give is what all give.
use Rattle.base.specs.{◌+◌}
use Rattle.graph_binary.specs.{gate_step, gate_left}
use Rattle.graph_binary.proofs.BinaryPasses.{Rest}
use Rattle.graph_binary.proofs.read_gates.Given as goal

abbrev pub invariant-loop-k : goal.invariant-loop-k
invariant-loop-k l = Rest (gate_step l.s l.h) (gate_left l.s l.h) l.h.ands (l.h.inputs + l.h.outputs) (l.from) l.initial.work l.k l.at l.work
