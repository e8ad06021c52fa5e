-- `check_order::visit` meets its contract. The invariant: what is listed is in order.
use Rattle.base.specs.{◌*◌, ◌≡◌}
use Rattle.check_order.specs.{made, down, walk_from, Walking}
use Rattle.check_order.proofs.visit.Given as goal

abbrev pub invariant-loop-left : goal.invariant-loop-left
invariant-loop-left l =
    Walking l.refs l.n l.w l.flags l.order × (walk_from l.refs l.n (5 * l.n) (down 1 (made l.m l.initial.flags l.initial.order) l.initial.passed l.initial.stack) ≡ walk_from l.refs l.n l._left (down l.w.depth (made l.w.count l.flags l.order) l.passed l.stack))
