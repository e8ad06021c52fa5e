-- `net_writer::put_preamble` meets its contract.
use Rattle.base.specs.{◌≤◌, arith, length}
use Rattle.model.specs.{text}
use Rattle.base_words.proofs.{capacity-need}
use Rattle.net_writer.specs.{preamble_text}
use Rattle.net_writer.proofs.FollowingText.{then}
use Rattle.net_writer.proofs.put_preamble.Goals as goal

pub put_inputs-b-requires : goal.put_inputs-b-requires
put_inputs-b-requires c =
    (capacity-need c.args.work.now c.args.m c.args.outputs c.requires.0.capacity, c.requires.0.few_inputs, omega arith)

pub returns : goal.returns
unfolding preamble_text text
returns c =
    let h : c.put_byte.result ≤ length c.put_byte.new.out = omega arith in
    then h c.put_bytes-a.ensures (then h c.put_inputs-b.ensures
    (then h c.put_bytes-c.ensures (then h c.put_outputs-d.ensures c.put_byte.ensures)))
