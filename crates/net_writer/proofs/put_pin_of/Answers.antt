-- `net_writer::put_pin_of` meets its contract: the word of a pin that is there, nothing for another.
use Rattle.base.specs.{◌≡◌, refl, ap, arith, rules, length}
use Rattle.base_text.proofs.{begin, end}
use Rattle.net_writer.proofs.NetlistLength.{part-there, part-absent}
use Rattle.net_writer.proofs.FollowingText.{reads}
use Rattle.net_writer.proofs.put_pin_of.Goals as goal

pub put_pin-requires : goal.put_pin-requires
put_pin-requires c =
    let a = c.args in
    let four : length a.nets ≡ 4 = search rules in
    omega (arith, c.requires.2, ap length (part-there a.nets a.count four c.requires.1 a.j c.if-j-count.true))

pub returns-then-j-count : goal.returns-then-j-count
returns-then-j-count c =
    let a = c.args in
    let four : length a.nets ≡ 4 = search rules in
    reads (part-there a.nets a.count four c.requires.1 a.j c.if-j-count.true) c.put_pin.ensures

pub returns : goal.returns
returns c =
    let a = c.args in
    let four : length a.nets ≡ 4 = search rules in
    end c.requires.2 (begin a.out.now a.at refl) (part-absent a.nets a.count four c.requires.1 a.j c.if-j-count.false)
