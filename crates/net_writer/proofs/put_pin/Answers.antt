-- `net_writer::put_pin` meets its contract: a space, the pin's letter, `=` and the net.
use Rattle.base.specs.{◌≤◌, arith, length}
use Rattle.net_writer.proofs.FollowingText.{then}
use Rattle.net_writer.proofs.put_pin.Goals as goal

pub returns : goal.returns
returns c =
    let h : c.put_label.result ≤ length c.put_label.new.out = omega arith in
    then h c.put_bytes-next.ensures c.put_label.ensures
