-- `check_order::topological_sort` meets its contract: walks from each driver, then sweeps. The invariant: what is listed is in order.
use Rattle.base.specs.{◌-◌, ◌≡◌}
use Rattle.check_order.specs.{made, down, dives_from, Sorted}
use Rattle.check_order.proofs.topological_sort.Given as goal

abbrev pub invariant-loop-i : goal.invariant-loop-i
invariant-loop-i l =
    Sorted l.refs l.n l.flags l.order l.m × (dives_from l.refs l.n 0 l.n (down 0 (made 0 l.initial.flags l.initial.order) l.initial.passed l.initial.stack) ≡ dives_from l.refs l.n l.i (l.n - l.i) (down 0 (made l.m l.flags l.order) l.passed l.stack))
