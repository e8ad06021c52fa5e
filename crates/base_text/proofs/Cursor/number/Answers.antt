-- `base_text::Cursor::number` meets its contract: each return knows the first byte of the field.
use Rattle.base.specs.{sym, ap, ◌∙◌, arith}
use Rattle.model.specs.{number}
use Rattle.base_text.proofs.TextWords.{word_out}
use Rattle.base_text.proofs.Decimal.{number-empty}
use Rattle.base_text.proofs.ByteRuns.{number-none, zero-first, low_first}
use Rattle.base_text.proofs.Cursor.number.Goals as goal

pub returns-then-s-from : goal.returns-then-s-from
returns-then-s-from c = sym (number-none _ _ (ap number (word_out _ _ c.if-s-from.true) ∙ number-empty))

pub returns-then-s-from-eq48 : goal.returns-then-s-from-eq48
returns-then-s-from-eq48 c = c.closed.ensures ∙ sym (zero-first _ _ (omega arith) c.if-s-from-eq48.true)

pub returns : goal.returns
returns c = sym (low_first _ _ (omega arith) (omega arith))
