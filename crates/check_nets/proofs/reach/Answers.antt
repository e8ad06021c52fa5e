-- `check_nets::reach` meets its contract. The invariant: the pins passed lead to what is listed.
use Rattle.base.specs.{ℕ, arith, ◌≡◌, subst}
use Rattle.check_order.specs.{Spread}
use Rattle.check_order.proofs.{spread_none, spread-next, spread-found}
use Rattle.check_nets.proofs.reach.Goals as goal

pub loop-j-init : goal.loop-j-init
loop-j-init c = let a = c.args in (c.requires.2, spread_none a.refs.now a.n a.i a.k a.m a.seen.now a.queue.now c.requires.1 c.requires.2)

pub reach_pin-r-requires : goal.reach_pin-r-requires
reach_pin-r-requires c =
    (c.requires.0, c.loop-j.invariant.1.reached (λ z. omega (arith, c.loop-j.invariant.0)), c.loop-j.invariant.0, c.requires.3, c.loop-j-test.true, c.requires.4)

pub returns-then-r-eq0 : goal.returns-then-r-eq0
returns-then-r-eq0 c =
    let a = c.args in
    spread-found a.refs.now a.n a.i a.k a.m a.seen.now a.queue.now c.loop-j.j c.loop-j.r c.loop-j.seen c.loop-j.queue c.reach_pin-r.result _ _
    c.reach_pin-r.ensures c.if-r-eq0.true

pub loop-j-preserved : goal.loop-j-preserved
loop-j-preserved c =
    let a = c.args in (
      omega (arith, c.if-r-eq0.false),
      spread-next a.refs.now a.n a.i a.k a.m a.seen.now a.queue.now c.loop-j.j c.loop-j.r c.loop-j.seen c.loop-j.queue c.reach_pin-r.result _ _
          c.loop-j.invariant.1 c.loop-j.invariant.0 c.reach_pin-r.ensures,
    )

pub returns : goal.returns
returns c =
    let a = c.args in
    subst (λ (t : ℕ). Spread a.refs.now a.n a.i a.k t a.m a.seen.now a.queue.now c.loop-j.r c.loop-j.seen c.loop-j.queue) (let e : c.loop-j.j ≡ 4 = omega arith in e) c.loop-j.invariant.1
