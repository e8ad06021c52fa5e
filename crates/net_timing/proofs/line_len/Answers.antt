-- `net_timing::line_len` meets its contract.
use Rattle.base.specs.{arith}
use Rattle.net_writer.proofs.{ten-digits}
use Rattle.net_timing.proofs.line_len.Goals as goal

pub overflow_add-result : goal.overflow_add-result
overflow_add-result c = omega (arith, ten-digits c.args.min_arrival (omega arith))

pub overflow_add-result-2 : goal.overflow_add-result-2
overflow_add-result-2 c = let a = c.args in omega (
  arith,
  ten-digits a.min_arrival (omega arith),
  ten-digits a.high
      (omega arith),
)

pub overflow_add-result-3 : goal.overflow_add-result-3
overflow_add-result-3 c = let a = c.args in omega (
  arith,
  ten-digits a.min_arrival (omega arith),
  ten-digits a.high
      (omega arith),
)

pub returns : goal.returns
returns c = let a = c.args in omega (arith, ten-digits a.min_arrival (omega arith), ten-digits a.high (omega arith))
