-- `cells_reader::repeated` meets its contract. The invariant: none of the first i cells has the name.
use Rattle.base.specs.{◌≡◌, sym, ap, ◌∙◌, ◌+◌, arith}
use Rattle.model.specs.{name_of}
use Rattle.cells_reader.specs.{is_repeated}
use Rattle.cells_reader.proofs.CellValidation.{repeated_none, repeated_step, repeated_more}
use Rattle.cells_reader.proofs.repeated.Goals as goal

pub returns-then-name_is : goal.returns-then-name_is
unfolding name_of
returns-then-name_is c =
    let a = c.args in
    sym (repeated_more a.w.now a.lib.cells (c.loop-i.i + 1) a.lib.n (omega arith) (repeated_step a.w.now a.lib.cells c.loop-i.i ∙ rw (sym c.name_is.ensures ∙ c.if-name_is.true)))

pub loop-i-preserved : goal.loop-i-preserved
unfolding name_of
loop-i-preserved c =
    let a = c.args in
    repeated_step a.w.now a.lib.cells c.loop-i.i ∙ rw (sym c.name_is.ensures ∙ c.if-name_is.false) c.loop-i.invariant

pub returns : goal.returns
returns c =
    let a = c.args in
    let e : c.loop-i.i ≡ a.lib.n = omega arith in
    sym (ap (is_repeated a.w.now a.lib.cells) (sym e) ∙ c.loop-i.invariant)

pub loop-i-init : goal.loop-i-init
loop-i-init c = repeated_none _ _
