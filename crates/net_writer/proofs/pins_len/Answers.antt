-- `net_writer::pins_len` meets its contract: pin by pin.
use Rattle.base.specs.{◌≡◌, ap, arith, rules, length, length-append}
use Rattle.net_writer.proofs.NetlistLength.{pin-parts}
use Rattle.net_writer.proofs.pins_len.Goals as goal

pub returns : goal.returns
returns c =
    let four : length c.args.nets ≡ 4 = search rules in
    omega (arith, simp length-append at (ap length (pin-parts c.args.nets c.args.count four c.requires)))
