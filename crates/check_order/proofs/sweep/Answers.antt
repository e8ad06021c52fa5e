-- `check_order::sweep` meets its contract. The invariant: the drivers passed were tried.
use Rattle.base.specs.{ℕ, ◌-◌, arith, ◌≡◌, sym, ap, subst, ◌∙◌}
use Rattle.check_order.specs.{made, sweep_from, SweepResult}
use Rattle.check_order.proofs.SortSteps.{sweep_goes, sweep_ends}
use Rattle.check_order.proofs.ReadyDrivers.{sweep_none, sweep_next}
use Rattle.check_order.proofs.sweep.Goals as goal

pub loop-i-init : goal.loop-i-init
loop-i-init c = let a = c.args in (sweep_none a.refs.now a.n c.requires.0 a.flags.now a.order.now a.m c.requires.1, ap (λ (k : ℕ). sweep_from a.refs.now 0 k (made a.m a.flags.now a.order.now)) (let e : a.n ≡ a.n - 0 = omega arith in e))

pub list_if_ready-r-requires : goal.list_if_ready-r-requires
list_if_ready-r-requires c =
    (c.requires.0, c.loop-i-test.true, c.loop-i.invariant.0.sorted)

pub loop-i-preserved : goal.loop-i-preserved
loop-i-preserved c =
    let a = c.args in (
      sweep_next a.refs.now a.n c.requires.0 c.loop-i.i a.m a.flags.now c.loop-i.r c.loop-i.flags c.loop-i.order c.list_if_ready-r.result _ _ c.loop-i.invariant.0 c.list_if_ready-r.ensures.0,
      c.loop-i.invariant.1 ∙ sweep_goes a.refs.now a.n c.loop-i.i (made c.loop-i.r c.loop-i.flags c.loop-i.order) _ c.loop-i-test.true c.list_if_ready-r.ensures.1,
    )

pub returns : goal.returns
returns c =
    let a = c.args in
    (subst (λ (t : ℕ). SweepResult a.refs.now a.n t a.m a.flags.now c.loop-i.r c.loop-i.flags c.loop-i.order) (let e : c.loop-i.i ≡ a.n = omega arith in e) c.loop-i.invariant.0, sym (c.loop-i.invariant.1 ∙ sweep_ends a.refs.now a.n c.loop-i.i (made c.loop-i.r c.loop-i.flags c.loop-i.order) c.loop-i-test.false))
