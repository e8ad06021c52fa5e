-- `net_writer::out_len` meets its contract: a letter and at most ten digits.
use Rattle.base.specs.{arith}
use Rattle.net_writer.proofs.NetlistLength.{out_length, ten-digits}
use Rattle.net_writer.proofs.out_len.Goals as goal

pub overflow_add-result : goal.overflow_add-result
overflow_add-result c = omega (arith, ten-digits c.args.k (omega arith))

pub returns : goal.returns
returns c = let k = c.args.k in (omega (arith, out_length k), omega (arith, ten-digits k (omega arith)))
