-- `genlib_expression::name` meets its contract, by the token that stands there.
use Rattle.base.specs.{◌≡◌, subst, None, ◌≤◌, ◌<◌, length}
use Rattle.model.specs.{quoted}
use Rattle.model.specs.GenlibFormula.{named}
use Rattle.genlib_expression.specs.declared.Token.{Token}
use Rattle.genlib_expression.specs.{token_at, rest_at, part}
use Rattle.genlib_expression.proofs.ExpressionValues.{token_from, token_to, here, name-yes, name_no}
use Rattle.base.specs.{sym, ap, ◌∙◌, Bool, true, false, List, ℕ, arith}
use Rattle.model.specs.{flip, is_word, name_value}
use Rattle.genlib_expression.specs.{names_at}
use Rattle.genlib_expression.proofs.ExpressionValues.{quoted-is, in_phase-row}
use Rattle.genlib_expression.proofs.name.Goals as goal

-- the token's places
module _ (w : List ℕ) (at : ℕ) (h : at ≤ length w) (t : Token) (e : t ≡ token_at w at) where
  bounds : (at ≤ t.from) × (t.from ≤ t.to) × (t.to ≤ length w)
  bounds = subst (λ (x : Token). (at ≤ x.from) × (x.from ≤ x.to) × (x.to ≤ length w)) (sym e) (token_from w at h, (token_to w at h).0, (token_to w at h).1)

  -- its bytes
  bytes : part w t.from t.to ≡ here w at h
  bytes = ap (λ (x : Token). part w x.from x.to) e

  module _ (value : List ℕ → Bool) (odd : Bool) where
    is_name : is_word (part w t.from t.to) ≡ true
        → (named value odd (rest_at w at) ≡ quoted (flip odd (value (part w t.from t.to))) (rest_at w t.to)) × (at < t.to)
    is_name k =
        subst (λ (x : Token). (named value odd (rest_at w at) ≡ quoted (flip odd (value (part w x.from x.to))) (rest_at w x.to)) × (at < x.to)) (sym e)
        (name-yes w at h value odd (ap is_word (sym bytes) ∙ k))

    no_name : is_word (part w t.from t.to) ≡ false → named value odd (rest_at w at) ≡ None
    no_name k = name_no w at h value odd (ap is_word (sym bytes) ∙ k)

-- the token's places
pub negated_by_signs-odd_signs-requires : goal.negated_by_signs-odd_signs-requires
negated_by_signs-odd_signs-requires c = (bounds _ _ c.requires.0 _ c.next_token-t.ensures).2

pub returns : goal.returns
returns c =
    let q = c.negated_by_signs-odd_signs in
    let w = c.args.w.now in
    let t = c.next_token-t in
    let y : (value : List ℕ → Bool) → _ = λ value. is_name w c.args.at c.requires.0 t.result t.ensures value c.args.odd (sym c.is_word.ensures ∙ c.if-not-is_word.false) in (
      (omega (arith, q.ensures.0, (y (λ x. true)).1), q.ensures.1),
      λ row h. quoted-is w row c.in_phase.result q.result.1 _ _ _ _ (in_phase-row _ _ _ row c.in_phase.ensures (omega arith) h ∙ ap (flip q.result.0) (c.name_value-v.ensures row h)) q.ensures.2
          ∙ sym (y (name_value (names_at w c.args.p) row)).0,
    )

pub returns-then-not-is_word : goal.returns-then-not-is_word
returns-then-not-is_word c =
    (tt, λ row h. sym (no_name c.args.w.now c.args.at c.requires.0 _ c.next_token-t.ensures _ _ (sym c.is_word.ensures ∙ c.if-not-is_word.true)))

pub slice_bounds-word-count : goal.slice_bounds-word-count
slice_bounds-word-count c = (bounds _ _ c.requires.0 _ c.next_token-t.ensures).1

pub slice_bounds-word-start : goal.slice_bounds-word-start
slice_bounds-word-start c = (bounds _ _ c.requires.0 _ c.next_token-t.ensures).1

pub slice_bounds-word-end : goal.slice_bounds-word-end
slice_bounds-word-end c = (bounds _ _ c.requires.0 _ c.next_token-t.ensures).2
