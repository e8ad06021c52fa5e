-- `base_text::hex_pair` meets its contract: two digits, each by its own, and below 16.
use Rattle.base.specs.{sym, ◌∙◌, arith}
use Rattle.base_text.proofs.Hex.{digit-small, pair_is, two-first, two-second}
use Rattle.base_text.proofs.hex_pair.Goals as goal

pub returns-in_err-high : goal.returns-in_err-high
returns-in_err-high c = c.from_residual.ensures ∙ sym (two-first 0 _ _ (sym c.in_err-high.ensures))

pub returns-in_err-low : goal.returns-in_err-low
returns-in_err-low c = c.from_residual-in_err-low.ensures ∙ sym (two-second 0 _ _ _ (sym c.in_ok-high.ensures) (sym c.in_err-low.ensures))

pub overflow_mul-result : goal.overflow_mul-result
overflow_mul-result c = omega (arith, digit-small _ _ (sym c.in_ok-high.ensures))

pub overflow_add-result : goal.overflow_add-result
overflow_add-result c = omega (arith, digit-small _ _ (sym c.in_ok-high.ensures), digit-small _ _ (sym c.in_ok-low.ensures))

pub returns : goal.returns
returns c = sym (pair_is _ _ _ _ (sym c.in_ok-high.ensures) (sym c.in_ok-low.ensures))
