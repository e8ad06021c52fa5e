-- `graph_order::order_ands` meets its contract. The invariant: what the slots from here on give is what all slots give.
use Rattle.graph_order.proofs.ReadyInvariant.{Filled}
use Rattle.graph_order.proofs.order_ands.Given as goal

abbrev pub invariant-loop-slot : goal.invariant-loop-slot
invariant-loop-slot l = Filled l.h l.initial.work l.slot l.scan l.work l.heads l.links l.bits
