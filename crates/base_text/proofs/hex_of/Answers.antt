-- `base_text::hex_of` meets its contract: four digits, by two pairs that are each below 256.
use Rattle.base.specs.{sym, ◌∙◌, arith}
use Rattle.base_text.proofs.Hex.{pair_small, table-length, table_is, table-first, table-second}
use Rattle.base_text.proofs.hex_of.Goals as goal

pub returns-then-w-ne4 : goal.returns-then-w-ne4
returns-then-w-ne4 c = sym (table-length _ c.if-w-ne4.true)

pub returns-in_err-high : goal.returns-in_err-high
returns-in_err-high c = c.from_residual.ensures ∙ sym (table-first _ c.if-w-ne4.false (sym c.in_err-high.ensures))

pub returns-in_err-low : goal.returns-in_err-low
returns-in_err-low c = c.from_residual-in_err-low.ensures ∙ sym (table-second _ c.if-w-ne4.false _ (sym c.in_ok-high.ensures) (sym c.in_err-low.ensures))

pub overflow_mul-result : goal.overflow_mul-result
overflow_mul-result c = omega (arith, pair_small _ _ _ (sym c.in_ok-high.ensures))

pub overflow_add-result : goal.overflow_add-result
overflow_add-result c = omega (arith, pair_small _ _ _ (sym c.in_ok-high.ensures), pair_small _ _ _ (sym c.in_ok-low.ensures))

pub returns : goal.returns
returns c = sym (table_is _ c.if-w-ne4.false _ _ (sym c.in_ok-high.ensures) (sym c.in_ok-low.ensures))
