-- `net_writer::pin_len` meets its contract: three bytes and the net, where the pin is there.
use Rattle.base.specs.{◌≡◌, ap, arith, rules, length}
use Rattle.net_writer.proofs.NetlistLength.{part-there, part-absent}
use Rattle.net_writer.proofs.pin_len.Goals as goal

pub returns-then-j-count : goal.returns-then-j-count
returns-then-j-count c =
    let a = c.args in
    let four : length a.nets ≡ 4 = search rules in
    let e = ap length (part-there a.nets a.count four c.requires.1 a.j c.if-j-count.true) in
    (omega (arith, e, c.label_len.ensures.0), omega (arith, c.label_len.ensures.1))

pub returns-else-j-count : goal.returns-else-j-count
returns-else-j-count c =
    let a = c.args in
    let four : length a.nets ≡ 4 = search rules in
    (omega (arith, ap length (part-absent a.nets a.count four c.requires.1 a.j c.if-j-count.false)), omega arith)
