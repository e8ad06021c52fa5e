-- `genlib_expression::with_pin` meets its contract, by whether the pin is known and there is room.
use Rattle.base.specs.{◌≤◌, ◌<◌, lt-ltb, le-ltb, ltb}
use Rattle.model.specs.{index_of}
use Rattle.genlib_expression.specs.declared.Pins.{Pins}
use Rattle.genlib_expression.specs.{pushed, with_pin}
use Rattle.base.specs.{◌≡◌, sym, ap, ◌∙◌, arith, ℕ, ◌+◌, List, [], ◌∷◌, ◌++◌, length, length-set, length-append}
use Rattle.genlib_expression.specs.{names_at}
use Rattle.genlib_expression.proofs.PinNumbering.{length-names, with_known, with_new, names-pushed}
use Rattle.genlib_expression.proofs.with_pin.Goals as goal

-- the list as it was, with one pin more, or with too many
module _ (w : List ℕ) (p : Pins) (from : ℕ) (t : List ℕ) (i : ℕ) (is : i ≡ index_of t (names_at w p)) where
  known : i < p.n → p ≡ with_pin w p from t
  unfolding with_pin
  known h = sym (rw (sym (ap (λ (k : ℕ). ltb k p.n) is) ∙ lt-ltb i p.n h))

  module _ (h : p.n ≤ i) where
    more : p.n < 4 → pushed p from ≡ with_pin w p from t
    unfolding with_pin
    more l = sym (rw (sym (ap (λ (k : ℕ). ltb k p.n) is) ∙ le-ltb i p.n h, lt-ltb p.n 4 l))

    many : 4 ≤ p.n → record { n = 5; at = p.at } ≡ with_pin w p from t
    unfolding with_pin
    many l = sym (rw (sym (ap (λ (k : ℕ). ltb k p.n) is) ∙ le-ltb i p.n h, le-ltb p.n 4 l))

-- the list as it was, with one pin more, or with too many
pub returns-then-index-n : goal.returns-then-index-n
returns-then-index-n c =
    let i = c.index.ensures.0 in
    let a = c.args in
    (c.requires.1, record { few = λ h. sym (with_known _ _ _ _ i c.if-index-n.true); many = λ h. absurd (omega (arith, c.requires.0)) }, known a.w.now a.p a.from a.t.now _ i c.if-index-n.true)

pub returns-then-n-lt4 : goal.returns-then-n-lt4
returns-then-n-lt4 c =
    let i = c.index.ensures.0 in
    let a = c.args in
    let w = a.w.now in
    let p = a.p in (
      length-set p.at p.n _ ∙ c.requires.1,
      record {
        few = λ h. names-pushed w p _ c.if-n-lt4.true c.requires.1
            ∙ sym (with_new w p _ _ i c.if-index-n.false ∙ ap (λ (x : List ℕ). names_at w p ++ (x ∷ [])) c.requires.2);
        many = λ h. absurd (omega (arith, c.if-n-lt4.true));
      },
      more w p a.from a.t.now _ i c.if-index-n.false c.if-n-lt4.true,
    )

pub returns-else-n-lt4 : goal.returns-else-n-lt4
returns-else-n-lt4 c =
    let i = c.index.ensures.0 in
    let a = c.args in
    let w = a.w.now in
    let p = a.p in
    let n = ap length (with_new w p _ _ i c.if-index-n.false) in
    let five : p.n + 1 ≡ 5 = omega (arith, c.requires.0, c.if-n-lt4.false) in (
      c.requires.1,
      record { few = λ h. absurd (omega (arith, c.if-n-lt4.false)); many = λ h. omega (arith, n, length-append (names_at w p) (a.t.now ∷ []), length-names w p, c.if-n-lt4.false) },
      ap (λ (k : ℕ). record { n = k; at = p.at }) five ∙ many w p a.from a.t.now _ i c.if-index-n.false c.if-n-lt4.false,
    )
