-- `check_outputs::pin_word` meets its contract.
use Rattle.base.specs.{◌∙◌, arith, get_or}
use Rattle.check_outputs.proofs.EvaluationSteps.{pin-none, pin-driver, pin-input}
use Rattle.check_outputs.proofs.pin_word.Goals as goal

pub returns-then-count-j : goal.returns-then-count-j
returns-then-count-j c =
    let a = c.args in pin-none a.refs.now a.count a.b (λ u. get_or a.drivers.now u 0) a.i a.j c.if-count-j.true

pub offset_bounds-drivers-r : goal.offset_bounds-drivers-r
offset_bounds-drivers-r c = omega (arith, c.from-r.ensures, c.requires.2 c.if-count-j.false)

pub bounds-drivers-r : goal.bounds-drivers-r
bounds-drivers-r c =
    omega (arith, c.from-r.ensures, c.requires.2 c.if-count-j.false)

pub returns-then-r-ge12 : goal.returns-then-r-ge12
returns-then-r-ge12 c =
    let a = c.args in
    pin-driver a.refs.now a.count a.b (λ u. get_or a.drivers.now u 0) a.i a.j c.if-count-j.false c.from-r.result c.from-r.ensures c.if-r-ge12.true

pub returns : goal.returns
returns c =
    let a = c.args in
    c.input_word.ensures
    ∙ pin-input a.refs.now a.count a.b (λ u. get_or a.drivers.now u 0) a.i a.j c.if-count-j.false c.from-r.result c.from-r.ensures c.if-r-ge12.false
