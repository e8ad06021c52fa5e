-- `tally_lines::are_digits` meets its contract: an empty field has none.
use Rattle.base.specs.{ℕ, ap, ◌∙◌, arith, eqb, length, le-ltb}
use Rattle.tally_lines.proofs.FieldDigits.{digits-none, digits-some}
use Rattle.tally_lines.proofs.are_digits.Goals as goal

pub returns-then-w-gt0 : goal.returns-then-w-gt0
returns-then-w-gt0 c =
    let w = c.args.w.now in
    ap (λ (n : ℕ). eqb n (length w)) c.span_end.ensures ∙ digits-some w c.if-w-gt0.true

pub returns-else-w-gt0 : goal.returns-else-w-gt0
returns-else-w-gt0 c = le-ltb 0 _ c.if-w-gt0.false ∙ digits-none _ (omega arith)
