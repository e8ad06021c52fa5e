-- `net_writer::net_len` meets its contract: a letter and at most ten digits.
use Rattle.base.specs.{◌/◌, arith}
use Rattle.net_writer.proofs.NetlistLength.{net-length, ten-digits}
use Rattle.net_writer.proofs.net_len.Goals as goal

pub overflow_add-result : goal.overflow_add-result
overflow_add-result c = omega (arith, ten-digits (c.args.l / 2) (omega arith))

pub returns : goal.returns
returns c = let l = c.args.l in (omega (arith, net-length l), omega (arith, ten-digits (l / 2) (omega arith)))
