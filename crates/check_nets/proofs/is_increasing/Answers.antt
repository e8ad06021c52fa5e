-- `check_nets::is_increasing` meets its contract. The invariant: the pins passed rise.
use Rattle.base.specs.{below_more, arith, false≢true}
use Rattle.check_nets.proofs.is_increasing.Goals as goal

pub loop-j-init : goal.loop-j-init
loop-j-init c = (omega (arith, c.from.ensures), λ t h. absurd (omega arith))

pub pin_increases-requires : goal.pin_increases-requires
pin_increases-requires c = (c.requires.0, c.requires.1, c.loop-j-test.true)

pub loop-j-preserved : goal.loop-j-preserved
loop-j-preserved c =
    let l = c.loop-j.invariant in
    (l.0, below_more _ _ l.1 (c.pin_increases.ensures c.if-not-pin_increases.false))

pub returns : goal.returns
returns c = let l = c.loop-j.invariant in λ e j k f. omega (arith, l.0, l.1 j (omega (arith, f.0, c.loop-j-test.false)) k f)

pub returns-then-not-pin_increases : goal.returns-then-not-pin_increases
returns-then-not-pin_increases c e = absurd (false≢true e)
