-- `net_writer::input_net` meets its contract: the literal of the variable that is ordered behind the constant and i inputs.
use Rattle.base.specs.{ap, ℕ, ◌+◌, ◌*◌, arith}
use Rattle.model.specs.{literal}
use Rattle.base_words.specs.{slot_addr}
use Rattle.net_writer.specs.{input_net}
use Rattle.net_writer.proofs.input_net.Goals as goal

pub overflow_cast-result : goal.overflow_cast-result
overflow_cast-result c = omega (arith, c.shared_slice_known-1.given (slot_addr c.args.m (c.args.i + 1)), c.slot.ensures)

pub overflow_mul-result : goal.overflow_mul-result
overflow_mul-result c = omega (arith, c.shared_slice_known-1.given (slot_addr c.args.m (c.args.i + 1)), c.slot.ensures)

pub returns : goal.returns
unfolding input_net literal
returns c = ap (λ (x : ℕ). 2 * x) c.slot.ensures
