-- `check_order::sweep` meets its contract. The invariant: the drivers passed were tried.
use Rattle.base.specs.{◌-◌, ◌≡◌}
use Rattle.check_order.specs.{made, sweep_from, SweepResult}
use Rattle.check_order.proofs.sweep.Given as goal

abbrev pub invariant-loop-i : goal.invariant-loop-i
invariant-loop-i l = SweepResult l.refs l.n l.i l.m l.initial.flags l.r l.flags l.order × (sweep_from l.refs 0 l.n (made l.m l.initial.flags l.initial.order) ≡ sweep_from l.refs l.i (l.n - l.i) (made l.r l.flags l.order))
