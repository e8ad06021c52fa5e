-- `net_writer::label_len` meets its contract: a letter more inside a pair.
use Rattle.base.specs.{◌≡◌, ap, ◌+◌, ◌/◌, arith, length}
use Rattle.model.specs.{net_name, label}
use Rattle.net_gates.specs.{net_of}
use Rattle.net_writer.proofs.NetlistLength.{label_inside, label-phase}
use Rattle.net_writer.proofs.label_len.Goals as goal

pub returns-then-n-eq1 : goal.returns-then-n-eq1
returns-then-n-eq1 c =
    let n = c.args.n in
    let long : length (label (net_of n)) ≡ length (net_name (n / 2)) + 1 = omega (arith, ap length (label_inside n c.if-n-eq1.true)) in
    (omega (arith, long, c.net_len.ensures.0), omega (arith, c.net_len.ensures.1))

pub returns-else-n-eq1 : goal.returns-else-n-eq1
returns-else-n-eq1 c =
    let n = c.args.n in
    (omega (arith, ap length (label-phase n c.if-n-eq1.false), c.net_len-else-n-eq1.ensures.0), omega (arith, c.net_len-else-n-eq1.ensures.1))
