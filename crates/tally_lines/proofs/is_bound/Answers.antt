-- `tally_lines::is_bound` meets its contract: each return knows what was met in the field.
use Rattle.base.specs.{arith, ap, ◌∙◌, le-ltb, ne_eqb}
use Rattle.model.specs.{is_gate_net}
use Rattle.tally_lines.proofs.FieldDigits.{rest_part, bound-short, bound-letter, bound-sign, bound-is}
use Rattle.tally_lines.proofs.is_bound.Goals as goal

pub returns-then-w-eq61 : goal.returns-then-w-eq61
returns-then-w-eq61 c =
    let a = c.args in
    c.is_gate_net.ensures ∙ ap is_gate_net (rest_part a.w.now 2) ∙ bound-is a.b a.w.now c.if-w-b.true c.if-w-eq61.true

pub returns-else-w-eq61 : goal.returns-else-w-eq61
returns-else-w-eq61 c = ne_eqb _ _ c.if-w-eq61.false ∙ bound-sign _ _ c.if-w-eq61.false

pub returns-else-w-b : goal.returns-else-w-b
returns-else-w-b c = ne_eqb _ _ c.if-w-b.false ∙ bound-letter _ _ c.if-w-b.false

pub returns-else-w-gt1 : goal.returns-else-w-gt1
returns-else-w-gt1 c = le-ltb 1 _ c.if-w-gt1.false ∙ bound-short _ _ (omega arith)
