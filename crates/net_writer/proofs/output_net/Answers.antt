-- `net_writer::output_net` meets its contract.
use Rattle.base.specs.{arith}
use Rattle.base_words.specs.{output_addr}
use Rattle.net_writer.proofs.output_net.Goals as goal

pub overflow_cast-result : goal.overflow_cast-result
overflow_cast-result c = omega (arith, c.shared_slice_known-1.given (output_addr c.args.m c.args.i), c.output.ensures)
