-- `check_order::visit` meets its contract. The invariant: what is listed is in order.
use Rattle.base.specs.{arith, ◌≡◌, refl, sym, ◌∙◌}
use Rattle.check_order.specs.{made, down}
use Rattle.check_order.proofs.SortSteps.{walk_goes, walk_ends, walk_none, visit_met, visit_walks}
use Rattle.check_order.proofs.visit.Goals as goal

pub bounds-passed-i : goal.bounds-passed-i
bounds-passed-i c = omega (arith, c.requires.0.few, c.requires.1)

pub returns-then-passed-i-ne0 : goal.returns-then-passed-i-ne0
returns-then-passed-i-ne0 c =
    let a = c.args in
    (c.requires.2, visit_met a.refs.now a.n a.i a.m a.flags.now a.order.now a.passed.now a.stack.now c.if-passed-i-ne0.true)

pub overflow_cast-stack : goal.overflow_cast-stack
overflow_cast-stack c = omega (arith, c.requires.0.few, c.requires.1)

pub loop-left-init : goal.loop-left-init
loop-left-init c = (record { sorted = c.requires.2; deep = omega (arith, c.requires.1) }, refl)

pub returns-then-w-eq0 : goal.returns-then-w-eq0
returns-then-w-eq0 c =
    let a = c.args in
    let w = down c.loop-left.w.depth (made c.loop-left.w.count c.loop-left.flags c.loop-left.order) c.loop-left.passed c.loop-left.stack in (
      c.loop-left.invariant.0.sorted,
      visit_walks a.refs.now a.n a.i a.m a.flags.now a.order.now a.passed.now a.stack.now c.if-passed-i-ne0.false w
          (sym (c.loop-left.invariant.1 ∙ walk_ends a.refs.now a.n c.loop-left._left w c.if-w-eq0.true)),
    )

pub step-w-requires : goal.step-w-requires
step-w-requires c =
    (c.requires.0, c.loop-left.invariant.0, omega (arith, c.if-w-eq0.false))

pub loop-left-preserved : goal.loop-left-preserved
loop-left-preserved c =
    let a = c.args in
    let w = down c.loop-left.w.depth (made c.loop-left.w.count c.loop-left.flags c.loop-left.order) c.loop-left.passed c.loop-left.stack in
    (c.step-w.ensures.0, c.loop-left.invariant.1 ∙ walk_goes a.refs.now a.n c.loop-left._left w _ c.if-w-eq0.false c.step-w.ensures.1 c.loop-left-test.true)

pub returns : goal.returns
returns c =
    let a = c.args in
    let w = down c.loop-left.w.depth (made c.loop-left.w.count c.loop-left.flags c.loop-left.order) c.loop-left.passed c.loop-left.stack in
    let none : c.loop-left._left ≡ 0 = omega (arith, c.loop-left-test.false) in (
      c.loop-left.invariant.0.sorted,
      visit_walks a.refs.now a.n a.i a.m a.flags.now a.order.now a.passed.now a.stack.now c.if-passed-i-ne0.false w
          (sym (c.loop-left.invariant.1 ∙ walk_none a.refs.now a.n c.loop-left._left w none)),
    )
