-- `check_names::cell_named` meets its contract. The invariant: none of the first i cells has the name.
use Rattle.base.specs.{◌≡◌, sym, ◌∙◌, arith, length}
use Rattle.model.specs.{name_of}
use Rattle.check_names.proofs.PinBinding.{cell-found, cell-next, cell-end}
use Rattle.check_names.proofs.cell_named.Goals as goal

pub returns-then-name_is : goal.returns-then-name_is
unfolding name_of
returns-then-name_is c =
    let a = c.args in
    sym (c.loop-i.invariant ∙ cell-found a.w.now a.lib c.loop-i.i c.loop-i-test.true c.requires.0 c.requires.1 (sym c.name_is.ensures ∙ c.if-name_is.true))

pub loop-i-preserved : goal.loop-i-preserved
unfolding name_of
loop-i-preserved c =
    let a = c.args in
    c.loop-i.invariant ∙ cell-next a.w.now a.lib c.loop-i.i c.loop-i-test.true c.requires.0 c.requires.1 (sym c.name_is.ensures ∙ c.if-name_is.false)

pub returns : goal.returns
returns c =
    let a = c.args in
    let long : length a.lib.cells ≡ 32 = c.requires.1 in
    sym (c.loop-i.invariant ∙ cell-end a.w.now a.lib c.loop-i.i (omega arith) (omega arith))
