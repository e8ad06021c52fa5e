-- `genlib_groups::count` meets its contract. The invariant: those counted and those left are all tokens; the measure is what is left of the line.
use Rattle.base.specs.{ap, arith, length}
use Rattle.genlib_expression.proofs.{step, nothing_left_lem}
use Rattle.genlib_groups.proofs.count.Goals as goal

pub loop-at-smaller-then-t : goal.loop-at-smaller-then-t
loop-at-smaller-then-t c = let k = step _ _ c.loop-at.invariant.0 _ c.next_token-t.ensures in omega (arith, k.later c.loop-at-test.true)

pub loop-at-preserved-then-t : goal.loop-at-preserved-then-t
loop-at-preserved-then-t c = let k = step _ _ c.loop-at.invariant.0 _ c.next_token-t.ensures in (k.within, omega (arith, k.later c.loop-at-test.true), omega (arith, c.loop-at.invariant.2, ap length (k.one c.if-t.true)))

pub loop-at-smaller : goal.loop-at-smaller
loop-at-smaller c = let k = step _ _ c.loop-at.invariant.0 _ c.next_token-t.ensures in omega (arith, k.later c.loop-at-test.true)

pub loop-at-preserved : goal.loop-at-preserved
loop-at-preserved c = let k = step _ _ c.loop-at.invariant.0 _ c.next_token-t.ensures in (k.within, omega (arith, k.later c.loop-at-test.true), omega (arith, c.loop-at.invariant.2, ap length (k.none c.if-t.false).0, ap length (k.none c.if-t.false).1))

pub returns : goal.returns
returns c = omega (arith, c.loop-at.invariant.2, ap length (nothing_left_lem c.args.w.now c.loop-at.at c.loop-at-test.false))
