-- `tally_lines::all_labels` meets its contract. The invariant: the names from here on are names where all are; the measure is what is left of the line.
use Rattle.base.specs.{arith, sym, ap, ◌∙◌}
use Rattle.model.specs.{is_label}
use Rattle.tally_lines.specs.{kind_test}
use Rattle.tally_lines.proofs.NetlistLineForms.{step-low, step-on, Labels, labels_first, labels_step, labels_end}
use Rattle.tally_lines.proofs.all_labels.Goals as goal

pub loop-at-init : goal.loop-at-init
loop-at-init c = (omega arith, labels_first (is_label c.args.b) c.args.w.now c.args.from (omega arith))

pub loop-at-smaller : goal.loop-at-smaller
unfolding kind_test
loop-at-smaller c =
    let a = c.args in
    omega (arith, c.field-at.ensures, step-on (is_label a.b) a.w.now c.loop-at.at (omega arith), step-low (is_label a.b) a.w.now c.loop-at.at)

pub loop-at-preserved : goal.loop-at-preserved
unfolding kind_test
loop-at-preserved c =
    let a = c.args in
    let p = c.loop-at in (
      omega (arith, c.field-at.ensures, step-low (is_label a.b) a.w.now p.at),
      ap (Labels (is_label a.b) a.w.now) c.field-at.ensures ∙ sym (labels_step (is_label a.b) a.w.now p.at (omega arith)) ∙ p.invariant.1,
    )

pub returns : goal.returns
returns c = labels_end (is_label c.args.b) c.args.w.now c.loop-at.at c.loop-at-test.false ∙ c.loop-at.invariant.1
