-- `graph_order::mark_ready_users` meets its contract. The invariant: the users with a use of v above o have their marks, and o is a use of v, or 0; the measure is o, for links lead down.
use Rattle.base.specs.{◌≡◌, ◌<◌}
use Rattle.graph_order.specs.{use_of, Listed, Waking}
use Rattle.graph_order.proofs.mark_ready_users.Given as goal

abbrev pub invariant-loop-o : goal.invariant-loop-o
invariant-loop-o l = (0 < l.o → Listed l.links l.o × (use_of l.work l.m l.o ≡ l.v)) × Waking l.m l.work l.links l.v l.o l.bits

abbrev pub decreases-loop-o : goal.decreases-loop-o
decreases-loop-o l = l.o
