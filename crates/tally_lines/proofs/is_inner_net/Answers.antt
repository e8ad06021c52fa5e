-- `tally_lines::is_inner_net` meets its contract: each return knows what was met in the field.
use Rattle.base.specs.{arith, ap, ◌∙◌, le-ltb, ne_eqb}
use Rattle.model.specs.{is_phase_net}
use Rattle.tally_lines.proofs.FieldDigits.{inner-none, inner_other, inner-is, rest_part}
use Rattle.tally_lines.proofs.is_inner_net.Goals as goal

pub returns-then-w-eq115 : goal.returns-then-w-eq115
returns-then-w-eq115 c =
    let w = c.args.w.now in
    c.is_phase_net.ensures ∙ ap is_phase_net (rest_part w 1) ∙ inner-is w c.if-w-eq115.true

pub returns-else-w-eq115 : goal.returns-else-w-eq115
returns-else-w-eq115 c = ne_eqb _ _ c.if-w-eq115.false ∙ inner_other _ c.if-w-eq115.false

pub returns-else-w-gt0 : goal.returns-else-w-gt0
returns-else-w-gt0 c = le-ltb 0 _ c.if-w-gt0.false ∙ inner-none _ (omega arith)
