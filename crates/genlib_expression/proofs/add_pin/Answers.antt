-- `genlib_expression::add_pin` meets its contract, by whether the token is a pin.
use Rattle.base.specs.{false, ◌≤◌, ◌<◌, lt-ltb, le-ltb}
use Rattle.genlib_expression.specs.declared.Pins.{Pins}
use Rattle.genlib_expression.specs.declared.Token.{Token}
use Rattle.genlib_expression.specs.{part, add_pin}
use Rattle.base.specs.{◌≡◌, sym, subst, ◌∙◌, true, arith, ℕ, List}
use Rattle.model.specs.{is_pin, add_pins}
use Rattle.genlib_expression.specs.{parts_at, names_at, with_pin, Listed}
use Rattle.genlib_expression.proofs.PinNumbering.{pin-word, add-one-pin, add_no_pin, add_none}
use Rattle.genlib_expression.proofs.add_pin.Goals as goal
use Rattle.genlib_expression.proofs.add_pin.Goals.{else-t-via-then-t+else-is_pin, else-t-via-else-t}

-- the list with the pin, or as it was
module _ (w : List ℕ) (p : Pins) (t : Token) where
  none : t.to ≤ t.from → p ≡ add_pin w p t
  unfolding add_pin
  none h = sym (rw (le-ltb t.from t.to h))

  module _ (h : t.from < t.to) where
    other : is_pin (part w t.from t.to) ≡ false → p ≡ add_pin w p t
    unfolding add_pin
    other e = sym (rw (lt-ltb t.from t.to h, e))

    pin : is_pin (part w t.from t.to) ≡ true → with_pin w p t.from (part w t.from t.to) ≡ add_pin w p t
    unfolding add_pin
    pin e = sym (rw (lt-ltb t.from t.to h, e))

pub with_pin-requires : goal.with_pin-requires
with_pin-requires c = (c.requires.0, c.requires.1, c.requires.4.word (pin-word _ (sym c.is_pin.ensures ∙ c.if-is_pin.true)))

pub returns-then-is_pin : goal.returns-then-is_pin
returns-then-is_pin c =
    let e = add-one-pin c.args.w.now c.args.t (names_at c.args.w.now c.args.p) c.if-t.true (sym c.is_pin.ensures ∙ c.if-is_pin.true) in
    (c.with_pin.ensures.0, subst (λ (x : List (List ℕ)). Listed c.args.w.now x c.with_pin.result) (sym e) c.with_pin.ensures.1, c.with_pin.ensures.2 ∙ pin c.args.w.now c.args.p c.args.t c.if-t.true (sym c.is_pin.ensures ∙ c.if-is_pin.true))

pub returns : goal.returns
returns c =
    let w = c.args.w.now in
    let t = c.args.t in
    let p = c.args.p in
    let as-was : add_pins (names_at w p) (parts_at w t) ≡ names_at w p → Listed w (add_pins (names_at w p) (parts_at w t)) p =
    λ e. record { few = λ h. sym e; many = λ h. absurd (omega (arith, c.requires.0)) } in
    elim c.else-t.branch [
      | else-t-via-then-t+else-is_pin y ↦
          let no = sym y.is_pin.ensures ∙ y.if-is_pin.false in
          (c.requires.1, as-was (add_no_pin w t (names_at w p) y.if-t.true no), other w p t y.if-t.true no)
      | else-t-via-else-t y ↦ (c.requires.1, as-was (add_none w t (names_at w p) y.if-t.false), none w p t y.if-t.false)
    ]
