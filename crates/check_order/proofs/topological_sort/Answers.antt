-- `check_order::topological_sort` meets its contract: walks from each driver, then sweeps. The invariant: what is listed is in order.
use Rattle.base.specs.{ℕ, suc, ◌-◌, arith, ◌≡◌, sym, ap, ◌∙◌}
use Rattle.check_order.specs.{made, down, sweep_until_stable, dives_from, Down, sort_of}
use Rattle.check_order.proofs.SortSteps.{dives_go, dives_end}
use Rattle.check_order.proofs.topological_sort.Goals as goal

pub loop-i-init : goal.loop-i-init
loop-i-init c =
    let a = c.args in
    (c.requires.1, ap (λ (k : ℕ). dives_from a.refs.now a.n 0 k (down 0 (made 0 a.flags.now a.order.now) _ _)) (let e : a.n ≡ a.n - 0 = omega arith in e))

pub visit-m-requires : goal.visit-m-requires
visit-m-requires c =
    (c.requires.0, c.loop-i-test.true, c.loop-i.invariant.0)

pub loop-i-preserved : goal.loop-i-preserved
loop-i-preserved c =
    let a = c.args in (
      c.visit-m.ensures.0,
      c.loop-i.invariant.1 ∙ dives_go a.refs.now a.n c.loop-i.i (down 0 (made c.loop-i.m c.loop-i.flags c.loop-i.order) c.loop-i.passed c.loop-i.stack) _ c.loop-i-test.true c.visit-m.ensures.1,
    )

pub sweep_until_stable-requires : goal.sweep_until_stable-requires
sweep_until_stable-requires c = (c.requires.0, c.loop-i.invariant.0)

pub returns : goal.returns
unfolding sort_of
returns c =
    let a = c.args in (
      c.sweep_until_stable.ensures.0,
      c.sweep_until_stable.ensures.1
          ∙ ap (λ (x : Down). sweep_until_stable a.refs.now a.n (suc a.n) x.listed)
          (sym (c.loop-i.invariant.1 ∙ dives_end a.refs.now a.n c.loop-i.i (down 0 (made c.loop-i.m c.loop-i.flags c.loop-i.order) c.loop-i.passed c.loop-i.stack) c.loop-i-test.false)),
    )
