-- `base_truth::root_bit` meets its contract, by the place of the fed pin.
use Rattle.base.specs.{sym, ◌∙◌}
use Rattle.base_truth.proofs.PairTables.{bit_below, bit_at, bit-above}
use Rattle.base_truth.proofs.root_bit.Goals as goal

pub returns-then-j-pin : goal.returns-then-j-pin
returns-then-j-pin c =
    let a = c.args in c.bit.ensures ∙ sym (bit_below a.r a.pin a.pins a.b a.j c.if-j-pin.true)

pub returns-then-j-pin-2 : goal.returns-then-j-pin-2
returns-then-j-pin-2 c = let a = c.args in sym (bit_at a.r a.pin a.pins a.b a.j c.if-j-pin.false c.if-j-pin-2.true)

pub returns : goal.returns
returns c =
    let a = c.args in
    c.bit-2.ensures ∙ sym (bit-above a.r a.pin a.pins a.b a.j c.if-j-pin.false c.if-j-pin-2.false)
