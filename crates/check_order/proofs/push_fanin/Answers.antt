-- `check_order::push_fanin` meets its contract.
use Rattle.base.specs.{arith}
use Rattle.check_order.proofs.SortSteps.{push_fanin_input, push_fanin_met, push_fanin_full, push_fanin_next}
use Rattle.check_order.proofs.push_fanin.Goals as goal

pub returns-then-x-lt12 : goal.returns-then-x-lt12
returns-then-x-lt12 c =
    let a = c.args in
    (c.requires.2, λ l. push_fanin_input a.refs.now a.n a.d a.at c.pin-x.result a.passed.now a.stack.now c.pin-x.ensures l c.if-x-lt12.true)

pub bounds-passed-x : goal.bounds-passed-x
bounds-passed-x c =
    omega (arith, c.pin-x.ensures, c.requires.0.few, c.requires.0.most c.args.at c.requires.1)

pub returns-then-passed-x-ne0 : goal.returns-then-passed-x-ne0
returns-then-passed-x-ne0 c =
    let a = c.args in
    (c.requires.2, λ l. push_fanin_met a.refs.now a.n a.d a.at c.pin-x.result a.passed.now a.stack.now c.pin-x.ensures l c.if-x-lt12.false c.if-passed-x-ne0.true)

pub returns-then-d-n : goal.returns-then-d-n
returns-then-d-n c =
    let a = c.args in
    (c.requires.2, λ l. push_fanin_full a.refs.now a.n a.d a.at c.pin-x.result a.passed.now a.stack.now c.pin-x.ensures l c.if-x-lt12.false c.if-passed-x-ne0.false c.if-d-n.true)

pub overflow_cast-stack : goal.overflow_cast-stack
overflow_cast-stack c =
    omega (arith, c.pin-x.ensures, c.requires.0.few, c.requires.0.most c.args.at c.requires.1)

pub returns : goal.returns
returns c =
    let a = c.args in
    (omega (arith, c.if-d-n.false), λ l. push_fanin_next a.refs.now a.n a.d a.at c.pin-x.result a.passed.now a.stack.now c.pin-x.ensures l c.if-x-lt12.false c.if-passed-x-ne0.false c.if-d-n.false)
