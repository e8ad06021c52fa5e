-- `check_nets::feeds_itself` meets its contract. The invariant: the first p of the queue are passed. The measure is how many drivers can be passed yet.
use Rattle.base.specs.{◌-◌}
use Rattle.check_order.proofs.{Walked}
use Rattle.check_nets.proofs.feeds_itself.Given as goal

abbrev pub invariant-loop-p : goal.invariant-loop-p
invariant-loop-p l = Walked l.refs l.n l.i l.p l.m l.seen l.queue

abbrev pub decreases-loop-p : goal.decreases-loop-p
decreases-loop-p l = l.n - l.p
