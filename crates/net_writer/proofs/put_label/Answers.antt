-- `net_writer::put_label` meets its contract: the net's name, inside a pair behind an `s`.
use Rattle.base.specs.{ap, ◌≤◌, arith, length}
use Rattle.net_writer.proofs.NetlistLength.{label_inside, label-phase}
use Rattle.net_writer.proofs.FollowingText.{then, reads}
use Rattle.net_writer.proofs.put_label.Goals as goal

pub put_byte-next-requires : goal.put_byte-next-requires
put_byte-next-requires c = omega (arith, ap length (label_inside c.args.n c.if-n-eq1.true))

pub put_net-requires : goal.put_net-requires
put_net-requires c =
    omega (arith, ap length (label_inside c.args.n c.if-n-eq1.true))

pub returns-then-n-eq1 : goal.returns-then-n-eq1
returns-then-n-eq1 c =
    let inside = label_inside c.args.n c.if-n-eq1.true in
    let h : c.put_net.result ≤ length c.put_net.new.out = omega (arith, ap length inside) in
    reads inside (then h c.put_byte-next.ensures c.put_net.ensures)

pub put_net-requires-2 : goal.put_net-requires-2
put_net-requires-2 c = omega (arith, ap length (label-phase c.args.n c.if-n-eq1.false))

pub returns : goal.returns
returns c =
    reads (label-phase c.args.n c.if-n-eq1.false) c.put_net-2.ensures
