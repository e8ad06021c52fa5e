-- `net_writer::figures_len` meets its contract: a figure has at most ten digits.
use Rattle.base.specs.{arith}
use Rattle.net_writer.proofs.NetlistLength.{ten-digits, figures-short}
use Rattle.net_writer.proofs.figures_len.Goals as goal

pub overflow_add-result : goal.overflow_add-result
overflow_add-result c = omega (arith, ten-digits c.args.f.gates (omega arith), ten-digits c.args.f.area (omega arith))

pub overflow_add-result-2 : goal.overflow_add-result-2
overflow_add-result-2 c = omega (arith, figures-short c.args.f (omega arith) (omega arith) (omega arith))

pub overflow_add-result-3 : goal.overflow_add-result-3
overflow_add-result-3 c = omega (arith, figures-short c.args.f (omega arith) (omega arith) (omega arith))

pub returns : goal.returns
returns c = omega (arith, figures-short c.args.f (omega arith) (omega arith) (omega arith))
