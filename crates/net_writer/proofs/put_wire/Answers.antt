-- `net_writer::put_wire` meets its contract: the keyword, the net, the output's own name and the row.
use Rattle.base.specs.{◌≤◌, arith, length}
use Rattle.model.specs.{text, wire_line}
use Rattle.net_writer.proofs.FollowingText.{then}
use Rattle.net_writer.proofs.put_wire.Goals as goal

pub returns : goal.returns
unfolding wire_line text
returns c =
    let h : c.put_bytes.result ≤ length c.put_bytes.new.out = omega arith in
    then h c.put_bytes-a.ensures (then h c.put_net-b.ensures
    (then h c.put_byte-c.ensures (then h c.put_out-d.ensures c.put_bytes.ensures)))
