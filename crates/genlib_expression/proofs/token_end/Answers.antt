-- `genlib_expression::token_end` meets its contract, by its three ways.
use Rattle.base.specs.{ℕ, ◌+◌, ◌≤◌, ◌<◌, ◌≡◌, refl, sym, ap, ◌∙◌, Bool, false, List, ltb, length, get_or}
use Rattle.model.specs.{is_word_byte}
use Rattle.base_text.specs.{span_end}
use Rattle.base_text.proofs.{class_end, class_stop, class_out}
use Rattle.genlib_expression.specs.{end_at}
use Rattle.genlib_expression.proofs.TokenSpans.{end-word, end-sign, end_out}
use Rattle.base.specs.{arith, true, ltb-true, ltb-false}
use Rattle.genlib_expression.proofs.token_end.Goals as goal
use Rattle.genlib_expression.proofs.token_end.Goals.{else-end-from-via-then-end-from+else-from-w, else-end-from-via-else-end-from}

module _ (w : List ℕ) (from end : ℕ) (is : end ≡ span_end is_word_byte w from) where
  sign : end ≡ from → from < length w → from + 1 ≡ end_at w from
  sign e h =
      let s : span_end is_word_byte w from ≡ from = sym is ∙ e in
      sym (end-sign w from h (ap (λ (n : ℕ). is_word_byte (get_or w n 0)) (sym s) ∙ class_end is_word_byte w from (omega arith)))

  word : (end ≡ from → ⊥) → end ≡ end_at w from
  word ne = go (ltb from (length w)) refl (is_word_byte (get_or w from 0)) refl
    where
      go : (s : Bool) → ltb from (length w) ≡ s → (t : Bool) → is_word_byte (get_or w from 0) ≡ t → end ≡ end_at w from
      go true p true q = is ∙ sym (end-word w from (ltb-true from (length w) p) q)
      go true p false q = absurd (ne (is ∙ class_stop is_word_byte w from (ltb-true from (length w) p) q))
      go false p t q = absurd (ne (is ∙ class_out is_word_byte w from (ltb-false from (length w) p)))

  past : length w ≤ from → end ≡ end_at w from
  past h = is ∙ class_out is_word_byte w from h ∙ sym (end_out w from h)

pub returns-then-from-w : goal.returns-then-from-w
returns-then-from-w c = sign _ _ _ c.span_end-end.ensures c.if-end-from.true c.if-from-w.true

pub returns : goal.returns
returns c =
    let e = c.span_end-end.ensures in
    elim c.else-end-from.branch [
      | else-end-from-via-then-end-from+else-from-w w ↦ past _ _ _ e w.if-from-w.false
      | else-end-from-via-else-end-from w ↦ word _ _ _ e w.if-end-from.false
    ]
