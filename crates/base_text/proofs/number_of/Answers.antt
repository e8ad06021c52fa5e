-- `base_text::number_of` meets its contract: each return knows what number was found, and whether its field is all of the text.
use Rattle.base.specs.{sym, ◌∙◌}
use Rattle.base_text.proofs.ByteRuns.{whole_is, whole-not, whole-none}
use Rattle.base_text.proofs.number_of.Goals as goal

pub returns-in_err-n : goal.returns-in_err-n
returns-in_err-n c = c.from_residual.ensures ∙ sym (whole-none _ (sym c.in_err-n.ensures))

pub returns-then-past-w : goal.returns-then-past-w
returns-then-past-w c = sym (whole_is _ _ _ (sym c.in_ok-n.ensures) c.if-past-w.true)

pub returns-else-past-w : goal.returns-else-past-w
returns-else-past-w c = sym (whole-not _ _ _ (sym c.in_ok-n.ensures) c.if-past-w.false)
