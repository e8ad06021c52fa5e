-- `check_order::sweep_until_stable` meets its contract. The invariant: a sweep came from `from` listed drivers to r. The measure is how many drivers were not listed before it.
use Rattle.base.specs.{arith, sym, ◌∙◌}
use Rattle.check_order.specs.{made}
use Rattle.check_order.proofs.SortSteps.{by_sweep, settling_first, settling_again, settling_ends}
use Rattle.check_order.proofs.DriverLists.{listed-few}
use Rattle.check_order.proofs.ReadyDrivers.{sweep_stable}
use Rattle.check_order.proofs.sweep_until_stable.Goals as goal

pub sweep-r-requires : goal.sweep-r-requires
sweep-r-requires c = (c.requires.0, c.requires.1)

pub loop-from-init : goal.loop-from-init
loop-from-init c =
    let a = c.args in
    (a.flags.now, c.sweep-r.ensures.0, settling_first a.refs.now a.n (made a.m a.flags.now a.order.now) _ c.sweep-r.ensures.1)

pub sweep-r-requires-in-loop-from : goal.sweep-r-requires-in-loop-from
sweep-r-requires-in-loop-from c =
    (c.requires.0, c.loop-from.invariant.1.sorted)

pub loop-from-smaller : goal.loop-from-smaller
loop-from-smaller c =
    omega (arith, c.loop-from-test.true, listed-few c.args.n c.loop-from.flags c.loop-from.order c.loop-from.r c.requires.0.few c.loop-from.invariant.1.sorted.listed)

pub loop-from-preserved : goal.loop-from-preserved
loop-from-preserved c =
    let a = c.args in (
      c.loop-from.flags,
      c.sweep-r-in-loop-from.ensures.0,
      settling_again a.refs.now a.n c.loop-from.from (made c.loop-from.r c.loop-from.flags c.loop-from.order) _ c.loop-from-test.true
          (listed-few a.n c.loop-from.flags c.loop-from.order c.loop-from.r c.requires.0.few c.loop-from.invariant.1.sorted.listed) c.loop-from.invariant.2 _ c.sweep-r-in-loop-from.ensures.1,
    )

pub returns : goal.returns
returns c =
    let a = c.args in
    (sweep_stable a.refs.now a.n c.requires.0 c.loop-from.from c.loop-from.invariant.0 c.loop-from.r c.loop-from.flags c.loop-from.order c.loop-from.invariant.1 c.loop-from-test.false, settling_ends a.refs.now a.n c.loop-from.from (made c.loop-from.r c.loop-from.flags c.loop-from.order) _ c.loop-from-test.false c.loop-from.invariant.2 ∙ sym (by_sweep a.refs.now a.n a.n (made a.m a.flags.now a.order.now) _ c.sweep-r.ensures.1))
