-- `check_nets::feeds_itself` meets its contract. The invariant: the first p of the queue are passed. The measure is how many drivers can be passed yet.
use Rattle.base.specs.{ℕ, ◌<◌, arith, refl, sym, subst, true≢false, false≢true}
use Rattle.check_order.specs.{Behind}
use Rattle.check_order.proofs.{reached-start, walked-first, walked_next, walked-found, walked_end, walked-few}
use Rattle.check_nets.proofs.feeds_itself.Goals as goal

pub loop-p-init : goal.loop-p-init
loop-p-init c =
    let a = c.args in
    let r = reached-start a.refs.now a.n a.i 10923 10923 _ _ c.requires.0 c.requires.1 refl refl c.append.ensures.0 c.append.ensures.1 in
    walked-first a.refs.now a.n a.i _ _ r.0 r.1

pub listed-k-requires : goal.listed-k-requires
listed-k-requires c =
    let a = c.args in
    omega (arith, c.loop-p-test.true, c.requires.0.few, walked-few a.refs.now a.n a.i c.loop-p.p c.loop-p.m c.loop-p.seen c.loop-p.queue c.requires.0 c.loop-p.invariant)

pub reach-m-requires : goal.reach-m-requires
reach-m-requires c =
    let a = c.args in
    let w = c.loop-p.invariant in (
      c.requires.0,
      w.reached,
      w.some,
      subst (λ (k : ℕ). k < a.n) (sym c.listed-k.ensures) (w.reached.listed.each c.loop-p.p c.loop-p-test.true),
      subst (Behind a.refs.now a.i) (sym c.listed-k.ensures) (w.reached.back c.loop-p.p c.loop-p-test.true),
    )

pub returns-then-m-eq0 : goal.returns-then-m-eq0
returns-then-m-eq0 c =
    let a = c.args in
    record {
      cycle = λ e. walked-found a.refs.now a.n a.i c.loop-p.p c.loop-p.m c.loop-p.seen c.loop-p.queue c.requires.0 c.loop-p.invariant c.listed-k.result c.reach-m.result _ _
          c.loop-p-test.true c.listed-k.ensures c.reach-m.ensures c.if-m-eq0.true;
      none = λ e. absurd (true≢false e);
    }

pub overflow_add-p : goal.overflow_add-p
overflow_add-p c =
    let a = c.args in
    omega (arith, c.loop-p-test.true, c.requires.0.few, walked-few a.refs.now a.n a.i c.loop-p.p c.loop-p.m c.loop-p.seen c.loop-p.queue c.requires.0 c.loop-p.invariant)

pub loop-p-smaller : goal.loop-p-smaller
loop-p-smaller c =
    let a = c.args in
    omega (arith, c.loop-p-test.true, walked-few a.refs.now a.n a.i c.loop-p.p c.loop-p.m c.loop-p.seen c.loop-p.queue c.requires.0 c.loop-p.invariant)

pub loop-p-preserved : goal.loop-p-preserved
loop-p-preserved c =
    let a = c.args in
    walked_next a.refs.now a.n a.i c.loop-p.p c.loop-p.m c.loop-p.seen c.loop-p.queue c.requires.0 c.loop-p.invariant c.listed-k.result c.reach-m.result _ _
    c.loop-p-test.true c.listed-k.ensures c.reach-m.ensures c.if-m-eq0.false

pub returns : goal.returns
returns c =
    let a = c.args in
    record {
      cycle = λ e. absurd (false≢true e);
      none = λ e. walked_end a.refs.now a.n a.i c.loop-p.p c.loop-p.m c.loop-p.seen c.loop-p.queue c.requires.0 c.loop-p.invariant c.loop-p-test.false c.requires.1;
    }
