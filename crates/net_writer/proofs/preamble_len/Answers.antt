-- `net_writer::preamble_len` meets its contract.
use Rattle.base_words.proofs.{capacity-need}
use Rattle.net_writer.proofs.preamble_len.Goals as goal

pub inputs_len-requires : goal.inputs_len-requires
inputs_len-requires c =
    (capacity-need c.args.work.now c.args.m c.args.outputs c.requires.capacity, c.requires.few_inputs)
