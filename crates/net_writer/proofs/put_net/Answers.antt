-- `net_writer::put_net` meets its contract: the phase's letter, and the variable behind it.
use Rattle.base.specs.{sym, ◌≤◌, arith, length}
use Rattle.base_text.proofs.{as_wrote}
use Rattle.net_writer.proofs.NetlistLength.{net-length}
use Rattle.net_writer.proofs.FollowingText.{then, reads}
use Rattle.net_writer.proofs.put_net.Goals as goal

pub put_byte-next-requires : goal.put_byte-next-requires
put_byte-next-requires c = omega (arith, net-length c.args.l)

pub put_number-requires : goal.put_number-requires
put_number-requires c = omega (arith, net-length c.args.l)

pub returns : goal.returns
returns c =
    let long = net-length c.args.l in
    let h : c.put_number.result ≤ length c.put_number.new.out = omega arith in
    reads (sym c.letter.ensures) (then h c.put_byte-next.ensures (as_wrote c.put_number.ensures))
