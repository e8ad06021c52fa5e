-- `graph_order::first_ready` meets its contract. The invariant: what is sought from here on is what is sought, and what waits below is listed.
use Rattle.base.specs.{◌≡◌, ◌+◌, ◌-◌, ◌*◌}
use Rattle.graph_order.specs.{is_ready, seek, ready_from, Passed, Kept}
use Rattle.graph_order.proofs.first_ready.Given as goal

abbrev pub invariant-loop-u : goal.invariant-loop-u
invariant-loop-u l =
    (ready_from l.work l.m l.from ≡ seek (is_ready l.work l.m) (l.m + 1 - l.u) l.u) × Passed l.m l.work l.u l.heads l.links × Kept (2 * l.from) l.initial.links l.links
