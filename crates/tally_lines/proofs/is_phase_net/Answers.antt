-- `tally_lines::is_phase_net` meets its contract: either letter.
use Rattle.base.specs.{sym, ◌∙◌}
use Rattle.tally_lines.proofs.FieldDigits.{phase-first, phase-second}
use Rattle.tally_lines.proofs.is_phase_net.Goals as goal

pub returns-else-is_label : goal.returns-else-is_label
returns-else-is_label c = c.is_label-else-is_label.ensures ∙ phase-second _ (sym c.is_label.ensures ∙ c.if-is_label.false)

pub returns-then-is_label : goal.returns-then-is_label
returns-then-is_label c = c.if-is_label.true ∙ phase-first _ (sym c.is_label.ensures ∙ c.if-is_label.true)
