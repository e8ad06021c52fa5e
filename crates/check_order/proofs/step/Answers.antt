-- `check_order::step` meets its contract: the walk ends, goes down or goes up.
use Rattle.base.specs.{ℕ, arith, ◌+◌, ◌-◌, ◌*◌, ap, ◌∙◌, set, get_or}
use Rattle.check_order.specs.{Made, made, down, push_fanin_of}
use Rattle.check_order.proofs.SortSteps.{step_out, step-under, step_up}
use Rattle.check_order.proofs.step.Goals as goal

pub returns-then-top-n : goal.returns-then-top-n
returns-then-top-n c =
    let a = c.args in (
      record { sorted = c.requires.1.sorted; deep = omega arith },
      step_out a.refs.now a.n a.w.depth c.listed-top.result (made a.w.count a.flags.now a.order.now) a.passed.now a.stack.now c.listed-top.ensures c.if-top-n.true,
    )

pub returns-then-j-lt4 : goal.returns-then-j-lt4
returns-then-j-lt4 c =
    let a = c.args in
    let l = made a.w.count a.flags.now a.order.now in (
      record { sorted = c.requires.1.sorted; deep = c.push_fanin-next.ensures.0 },
      c.push_fanin-next.ensures.1 l
          ∙ ap (λ (x : ℕ). push_fanin_of a.refs.now a.n (down a.w.depth l (set a.passed.now c.listed-top.result (get_or a.passed.now c.listed-top.result 0 + 1)) a.stack.now) (4 * c.listed-top.result + x)) c.from.ensures
          ∙ step-under a.refs.now a.n a.w.depth c.listed-top.result l a.passed.now a.stack.now c.listed-top.ensures c.if-top-n.false c.if-j-lt4.true,
    )

pub returns : goal.returns
returns c =
    let a = c.args in (
      record { sorted = c.list_if_ready-count.ensures.0.sorted; deep = omega (arith, c.requires.1.deep) },
      ap (λ (x : Made). down (a.w.depth - 1) x a.passed.now a.stack.now) c.list_if_ready-count.ensures.1
          ∙ step_up a.refs.now a.n a.w.depth c.listed-top.result (made a.w.count a.flags.now a.order.now) a.passed.now a.stack.now c.listed-top.ensures c.if-top-n.false c.if-j-lt4.false,
    )
