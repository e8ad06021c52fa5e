-- `base_text::Cursor::table_then` meets its contract: each return knows what `table` found, and what `byte` found behind it.
use Rattle.base.specs.{sym, ◌∙◌}
use Rattle.base_text.specs.{table_then, then_byte}
use Rattle.base_text.proofs.Cursor.table_then.Goals as goal

pub returns-in_err-n : goal.returns-in_err-n
unfolding table_then then_byte
returns-in_err-n c = c.from_residual.ensures ∙ rw (sym c.in_err-n.ensures)

pub returns-in_err-byte : goal.returns-in_err-byte
unfolding table_then then_byte
returns-in_err-byte c = c.from_residual-in_err-byte.ensures ∙ rw (sym c.in_ok-n.ensures, sym c.in_err-byte.ensures)

pub returns : goal.returns
unfolding table_then then_byte
returns c = rw (sym c.in_ok-n.ensures, sym c.in_ok-byte.ensures)
