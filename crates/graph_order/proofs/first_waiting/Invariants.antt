-- `graph_order::first_waiting` meets its contract. The invariant: what is sought from here on is what is sought.
use Rattle.base.specs.{◌≡◌, ◌+◌, ◌-◌}
use Rattle.graph_order.specs.{is_waiting, seek, waiting_from}
use Rattle.graph_order.proofs.first_waiting.Given as goal

abbrev pub invariant-loop-v : goal.invariant-loop-v
invariant-loop-v l = waiting_from l.work l.m l.from ≡ seek (is_waiting l.work l.m) (l.m + 1 - l.v) l.v
