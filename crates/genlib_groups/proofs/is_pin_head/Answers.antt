-- `genlib_groups::is_pin_head` meets its contract, by its tests.
use Rattle.base.specs.{◌≡◌, sym, ap, ◌∙◌, Bool, true, false, List, ℕ}
use Rattle.model.specs.{text, same, is_word, pin_head}
use Rattle.genlib_groups.proofs.is_pin_head.Goals as goal

-- what was said of a token's bytes
told : (p : List ℕ → Bool) (u : List ℕ) (t : List ℕ) (r b : Bool) → t ≡ u → r ≡ p t → r ≡ b → p u ≡ b
told p u t r b e f g = ap p (sym e) ∙ sym f ∙ g

pub returns-then-is_sign : goal.returns-then-is_sign
unfolding pin_head text
returns-then-is_sign c =
    c.if-is_sign.true
    ∙ sym (rw (
      told (λ x. same x (text "PIN")) _ _ _ true c.nth_bytes.ensures c.same_bytes.ensures c.if-same_bytes.true,
      told is_word _ _ _ true c.nth_bytes-then-same_bytes.ensures c.is_word.ensures c.if-is_word.true,
      sym c.is_sign.ensures ∙ c.if-is_sign.true,
    ))

pub returns-else-is_sign : goal.returns-else-is_sign
unfolding pin_head text
returns-else-is_sign c =
    sym (rw (
      told (λ x. same x (text "PIN")) _ _ _ true c.nth_bytes.ensures c.same_bytes.ensures c.if-same_bytes.true,
      told is_word _ _ _ true c.nth_bytes-then-same_bytes.ensures c.is_word.ensures c.if-is_word.true,
      sym c.is_sign.ensures ∙ c.if-is_sign.false,
    )
    (ap is_word (sym c.nth_bytes-else-is_sign.ensures) ∙ sym c.is_word-else-is_sign.ensures))

pub returns-else-is_word : goal.returns-else-is_word
unfolding pin_head text
returns-else-is_word c =
    c.if-is_word.false
    ∙ sym (rw (
      told (λ x. same x (text "PIN")) _ _ _ true c.nth_bytes.ensures c.same_bytes.ensures c.if-same_bytes.true,
      told is_word _ _ _ false c.nth_bytes-then-same_bytes.ensures c.is_word.ensures c.if-is_word.false,
    ))

pub returns-else-same_bytes : goal.returns-else-same_bytes
unfolding pin_head text
returns-else-same_bytes c =
    c.if-same_bytes.false ∙ sym (rw (told (λ x. same x (text "PIN")) _ _ _ false c.nth_bytes.ensures c.same_bytes.ensures c.if-same_bytes.false))
