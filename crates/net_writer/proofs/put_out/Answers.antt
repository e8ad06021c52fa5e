-- `net_writer::put_out` meets its contract: the letter, and the number behind it.
use Rattle.base.specs.{◌≤◌, arith, length}
use Rattle.model.specs.{out_name}
use Rattle.base_text.proofs.{as_wrote}
use Rattle.net_writer.proofs.NetlistLength.{out_length}
use Rattle.net_writer.proofs.FollowingText.{then}
use Rattle.net_writer.proofs.put_out.Goals as goal

pub returns : goal.returns
unfolding out_name
returns c =
    let h : c.put_number.result ≤ length c.put_number.new.out = omega (arith, out_length c.args.k) in
    then h c.put_byte-next.ensures (as_wrote c.put_number.ensures)

pub put_byte-next-requires : goal.put_byte-next-requires
put_byte-next-requires c = omega (arith, out_length c.args.k)

pub put_number-requires : goal.put_number-requires
put_number-requires c = omega (arith, out_length c.args.k)
