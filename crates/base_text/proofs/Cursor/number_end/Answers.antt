-- `base_text::Cursor::number_end` meets its contract: each return knows what `number` found, and what `line_end` found behind it.
use Rattle.base.specs.{sym, ◌∙◌}
use Rattle.base_text.specs.{number_end, then_end}
use Rattle.base_text.proofs.Cursor.number_end.Goals as goal

pub returns-in_err-n : goal.returns-in_err-n
unfolding number_end then_end
returns-in_err-n c = c.from_residual.ensures ∙ rw (sym c.in_err-n.ensures)

pub returns-in_err-line_end : goal.returns-in_err-line_end
unfolding number_end then_end
returns-in_err-line_end c = c.from_residual-in_err-line_end.ensures ∙ rw (sym c.in_ok-n.ensures, sym c.in_err-line_end.ensures)

pub returns : goal.returns
unfolding number_end then_end
returns c = rw (sym c.in_ok-n.ensures, sym c.in_ok-line_end.ensures)
