-- `genlib_celltext::put_delays` meets its contract: a field for each delay, and the line's end.
use Rattle.base.specs.{◌≡◌, refl, length, arith}
use Rattle.base_text.proofs.{begin, step, capacity, finish}
use Rattle.genlib_celltext.proofs.CellTextLength.{text-more, text_end}
use Rattle.genlib_celltext.proofs.put_delays.Goals as goal

pub loop-d-init : goal.loop-d-init
loop-d-init c = (begin _ _ refl, λ h. absurd (omega arith))

pub put_field-to-requires : goal.put_field-to-requires
put_field-to-requires c =
    let four : length c.args.g.delays ≡ 4 = c.type_inv.d-items.1.1.0.1 in
    capacity c.requires c.loop-d.invariant.0 _ _ (text-more c.args.g.delays c.loop-d.d-index (omega (arith, four, c.loop-d-test.true)))

pub loop-d-preserved : goal.loop-d-preserved
loop-d-preserved c =
    let four : length c.args.g.delays ≡ 4 = c.type_inv.d-items.1.1.0.1 in
    (step c.requires c.loop-d.invariant.0 _ _ _ _ (text-more c.args.g.delays c.loop-d.d-index (omega (arith, four, c.loop-d-test.true))) c.put_field-to.ensures, λ h. four)

pub returns : goal.returns
returns c =
    let i = c.loop-d.invariant in
    let four : length c.args.g.delays ≡ 4 = i.1 (omega (arith, c.loop-d-test.false)) in
    let last = rw (text_end c.args.g.delays c.loop-d.d-index (omega (arith, four, c.loop-d-test.false))) at i.0 in
    finish c.requires last c.put_byte.ensures
