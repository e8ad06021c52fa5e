-- `tally_lines::is_label` meets its contract: each return knows what was met in the field.
use Rattle.base.specs.{arith, ap, ◌∙◌, le-ltb, ne_eqb}
use Rattle.model.specs.{are_digits}
use Rattle.tally_lines.proofs.FieldDigits.{label-none, label_other, label_is, rest_part}
use Rattle.tally_lines.proofs.is_label.Goals as goal

pub returns-then-w-b : goal.returns-then-w-b
returns-then-w-b c =
    let a = c.args in
    c.are_digits.ensures ∙ ap are_digits (rest_part a.w.now 1) ∙ label_is a.b a.w.now c.if-w-b.true

pub returns-else-w-b : goal.returns-else-w-b
returns-else-w-b c = ne_eqb _ _ c.if-w-b.false ∙ label_other _ _ c.if-w-b.false

pub returns-else-w-gt0 : goal.returns-else-w-gt0
returns-else-w-gt0 c = le-ltb 0 _ c.if-w-gt0.false ∙ label-none _ _ (omega arith)
