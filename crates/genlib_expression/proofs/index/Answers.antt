-- `genlib_expression::index` meets its contract. The invariant: the name is not among the pins passed.
use Rattle.base.specs.{◌≡◌, sym, ◌∙◌, arith, zero-add, ◌-◌}
use Rattle.model.specs.{below}
use Rattle.genlib_expression.specs.{name_at, names_at}
use Rattle.genlib_expression.proofs.ExpressionValues.{index_hit, index_miss, index-none}
use Rattle.genlib_expression.proofs.index.Goals as goal

pub loop-i-init : goal.loop-i-init
unfolding names_at below
loop-i-init c =
    let n = c.args.p.n in
    let z : n - 0 ≡ n = omega arith in
    rw (z, zero-add)

pub returns-then-word_is : goal.returns-then-word_is
returns-then-word_is c =
    let l = c.loop-i in
    let z = index_hit (name_at c.args.w.now c.args.p) c.args.t.now l.i _ c.loop-i-test.true (sym c.word_is.ensures ∙ c.if-word_is.true) in
    (sym (l.invariant ∙ omega (arith, z)), omega arith)

pub loop-i-preserved : goal.loop-i-preserved
loop-i-preserved c =
    let l = c.loop-i in
    let z = index_miss (name_at c.args.w.now c.args.p) c.args.t.now l.i _ c.loop-i-test.true (sym c.word_is.ensures ∙ c.if-word_is.false) in
    omega (arith, z, l.invariant)

pub returns : goal.returns
returns c =
    let l = c.loop-i in
    let z = index-none (name_at c.args.w.now c.args.p) c.args.t.now l.i c.args.p.n (omega arith) in
    (omega (arith, z, l.invariant), c.requires)
