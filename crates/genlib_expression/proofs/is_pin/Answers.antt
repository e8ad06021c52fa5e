-- `genlib_expression::is_pin` meets its contract, by its three ways.
use Rattle.base.specs.{sym, ap, ◌∙◌, not}
use Rattle.model.specs.{text, is_pin, const0, const1}
use Rattle.genlib_expression.proofs.is_pin.Goals as goal

pub returns-then-not-same_bytes : goal.returns-then-not-same_bytes
unfolding is_pin const0 const1 text
returns-then-not-same_bytes c =
    ap not c.same_bytes-then-not-same_bytes.ensures ∙ sym (rw (sym c.is_word.ensures ∙ c.if-is_word.true, sym c.same_bytes.ensures ∙ c.if-not-same_bytes.true))

pub returns-else-not-same_bytes : goal.returns-else-not-same_bytes
unfolding is_pin const0 const1 text
returns-else-not-same_bytes c =
    ap not c.if-not-same_bytes.false ∙ sym (rw (sym c.is_word.ensures ∙ c.if-is_word.true, sym c.same_bytes.ensures ∙ c.if-not-same_bytes.false))

pub returns-else-is_word : goal.returns-else-is_word
unfolding is_pin
returns-else-is_word c = c.if-is_word.false ∙ sym (rw (sym c.is_word.ensures ∙ c.if-is_word.false))
