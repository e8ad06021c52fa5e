-- `base_text::number_len` meets its contract: one digit, or one more than those of the number without its last one.
use Rattle.base.specs.{sym, arith, ◌/◌}
use Rattle.base_text.proofs.Decimal.{dec_length, dec_small-length, dec_big_length}
use Rattle.base_text.proofs.+number_len.Goals as goal

pub overflow_add-result : goal.overflow_add-result
overflow_add-result t c = omega (arith, c.number_len.ensures, dec_length (c.args.n / 10))

pub returns-then-n-lt10 : goal.returns-then-n-lt10
returns-then-n-lt10 t c = sym (dec_small-length _ c.if-n-lt10.true)

pub returns-else-n-lt10 : goal.returns-else-n-lt10
returns-else-n-lt10 t c = omega (arith, c.number_len.ensures, dec_big_length _ c.if-n-lt10.false)
