-- `net_writer::put_instance` meets its contract: `.gate`, the name, the pins, the output and the line's end.
use Rattle.base.specs.{◌≤◌, arith, length, take}
use Rattle.model.specs.{text}
use Rattle.net_gates.specs.{gate_of}
use Rattle.net_writer.proofs.NetlistLength.{line-is}
use Rattle.net_writer.proofs.FollowingText.{then, reads}
use Rattle.net_writer.proofs.put_instance.Goals as goal

pub returns : goal.returns
unfolding text gate_of
returns c =
    let a = c.args in
    let h : c.put_byte.result ≤ length c.put_byte.new.out = omega (arith, c.requires.1) in
    reads (line-is a.g.cell (take a.g.count a.g.nets) a.g.net)
    (then h c.put_bytes-a.ensures (then h c.put_name-b.ensures
    (then h c.put_pins-p.ensures (then h c.put_pin-o.ensures c.put_byte.ensures))))
