-- `check_nets::all_increase` meets its contract. The invariant: the drivers passed rise.
use Rattle.base.specs.{below_more, arith, false≢true}
use Rattle.check_nets.proofs.all_increase.Goals as goal

pub is_increasing-requires : goal.is_increasing-requires
is_increasing-requires c = (c.requires, c.loop-i-test.true, omega arith)

pub loop-i-preserved : goal.loop-i-preserved
loop-i-preserved c = below_more _ _ c.loop-i.invariant (c.is_increasing.ensures c.if-not-is_increasing.false)

pub returns : goal.returns
returns c = λ e i h. c.loop-i.invariant i (omega (arith, c.loop-i-test.false))

pub loop-i-init : goal.loop-i-init
loop-i-init c k h = absurd (omega arith)

pub returns-then-not-is_increasing : goal.returns-then-not-is_increasing
returns-then-not-is_increasing c e = absurd (false≢true e)
