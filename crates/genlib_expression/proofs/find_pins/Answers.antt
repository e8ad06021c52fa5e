-- `genlib_expression::find_pins` meets its contract. The invariant: what the tokens that are left add to the list at hand is the whole list; the measure is what is left of the line.
use Rattle.base.specs.{refl, sym, ap, ◌∙◌, arith, ℕ, length, List}
use Rattle.model.specs.{below, add_pins, pins_of}
use Rattle.genlib_expression.specs.{rest_at, names_at, parts_at}
use Rattle.genlib_expression.proofs.ExpressionWalk.{step, word-part, nothing_left_lem}
use Rattle.genlib_expression.proofs.PinNumbering.{add-negated_by_signs, add_grows, pins-end, pins_fifth, pins-on}
use Rattle.genlib_expression.proofs.find_pins.Goals as goal

pub loop-at-init : goal.loop-at-init
unfolding pins_of names_at below
loop-at-init c = (c.requires, refl, omega arith, refl, (length c.args.w.now, omega arith, refl))

pub add_pin-p-requires : goal.add_pin-p-requires
add_pin-p-requires c =
    let l = c.loop-at in
    let k = step _ _ l.invariant.0 _ c.next_token-t.ensures in
    (l.invariant.2, l.invariant.1, k.ordered, k.within, word-part _ _ l.invariant.0 _ c.next_token-t.ensures)

pub returns-then-p-gt4 : goal.returns-then-p-gt4
returns-then-p-gt4 c =
    let l = c.loop-at in
    let w = c.args.w.now in
    let t = c.next_token-t in
    let k = step w l.at l.invariant.0 t.result t.ensures in
    let e = l.invariant.3 ∙ add-negated_by_signs w t.result (names_at w l.p) l.at k in
    let a = c.add_pin-p.ensures in
    (a.0, record { few = λ h. absurd (omega (arith, c.if-p-gt4.true)); many = λ h. omega (arith, ap length e, a.1.many h, add_grows (add_pins (names_at w l.p) (parts_at w t.result)) (rest_at w t.result.to)) }, pins_fifth w l.p l.at c.loop-at-test.true t.result t.ensures _ a.2 _ c.if-p-gt4.true l.invariant.4)

pub loop-at-smaller : goal.loop-at-smaller
loop-at-smaller c = let k = step _ _ c.loop-at.invariant.0 _ c.next_token-t.ensures in omega (arith, k.later c.loop-at-test.true)

pub loop-at-preserved : goal.loop-at-preserved
loop-at-preserved c =
    let l = c.loop-at in
    let w = c.args.w.now in
    let t = c.next_token-t in
    let k = step w l.at l.invariant.0 t.result t.ensures in
    let a = c.add_pin-p.ensures in
    (k.within, a.0, c.if-p-gt4.false, l.invariant.3 ∙ add-negated_by_signs w t.result (names_at w l.p) l.at k ∙ ap (λ (x : List (List ℕ)). add_pins x (rest_at w t.result.to)) (sym (a.1.few c.if-p-gt4.false)), pins-on w l.p l.at c.loop-at-test.true t.result t.ensures _ a.2 _ c.if-p-gt4.false (k.later c.loop-at-test.true) l.invariant.4)

pub returns : goal.returns
unfolding add_pins
returns c =
    let l = c.loop-at in
    (l.invariant.1, record { few = λ h. sym (l.invariant.3 ∙ ap (add_pins (names_at c.args.w.now l.p)) (nothing_left_lem _ _ c.loop-at-test.false)); many = λ h. absurd (omega (arith, l.invariant.2)) }, pins-end _ c.args.w.now l.p l.at c.loop-at-test.false ∙ sym l.invariant.4.2)
