-- `check_nets::reach` meets its contract. The invariant: the pins passed lead to what is listed.
use Rattle.base.specs.{◌<◌}
use Rattle.check_order.specs.{Spread}
use Rattle.check_nets.proofs.reach.Given as goal

abbrev pub invariant-loop-j : goal.invariant-loop-j
invariant-loop-j l = (0 < l.r) × Spread l.refs l.n l.i l.k l.j l.m l.initial.seen l.initial.queue l.r l.seen l.queue
