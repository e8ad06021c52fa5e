-- `tally_lines::pins` meets its contract. The invariant: the steps over the pins from here on lead where all lead.
use Rattle.base.specs.{arith, sym, ◌∙◌}
use Rattle.tally_lines.specs.{kind_test}
use Rattle.tally_lines.proofs.GateLineForms.{pins-first, pins-step, pins-end}
use Rattle.tally_lines.proofs.pins.Goals as goal

pub loop-j-init : goal.loop-j-init
loop-j-init c = pins-first c.args.n c.args.w.now c.args.from

pub loop-j-preserved : goal.loop-j-preserved
unfolding kind_test
loop-j-preserved c =
    let a = c.args in
    let p = c.loop-j in
    p.invariant ∙ pins-step p.j a.n a.w.now p.at c.field-at.result (omega arith) c.field-at.ensures

pub returns : goal.returns
returns c = sym (c.loop-j.invariant ∙ pins-end _ _ _ _ c.loop-j-test.false)
