-- `genlib_celltext::delays_len` meets its contract, delay by delay.
use Rattle.base.specs.{◌≡◌, sym, ap, ◌∙◌, ℕ, List, length, take, take-length, arith}
use Rattle.model.specs.{each, number_text}
use Rattle.genlib_celltext.proofs.CellTextLength.{length-more}
use Rattle.genlib_celltext.proofs.delays_len.Goals as goal

pub loop-d-init : goal.loop-d-init
unfolding each
loop-d-init c = (omega arith, omega arith, λ h. absurd (omega arith))

pub loop-d-preserved : goal.loop-d-preserved
loop-d-preserved c =
    let i = c.loop-d.invariant in
    let four : length c.args.g.delays ≡ 4 = c.type_inv.d-items.1.1.0.1 in
    (omega (arith, i.0, c.field_len-n.ensures.0, length-more c.args.g.delays c.loop-d.d-index (omega (arith, four, c.loop-d-test.true))), omega (arith, i.1, c.field_len-n.ensures.1), λ h. four)

pub returns : goal.returns
returns c =
    let i = c.loop-d.invariant in
    let all : c.loop-d.d-index ≡ 4 = omega (arith, c.loop-d-test.false, c.loop-d.auto.d-index-end) in
    let four : length c.args.g.delays ≡ 4 = i.2 (omega (arith, all)) in
    let whole : take c.loop-d.d-index c.args.g.delays ≡ c.args.g.delays = ap (λ (k : ℕ). take k c.args.g.delays) (all ∙ sym four) ∙ take-length c.args.g.delays in
    (i.0 ∙ ap (λ (l : List ℕ). length (each number_text l)) whole, omega (arith, i.1, all))
