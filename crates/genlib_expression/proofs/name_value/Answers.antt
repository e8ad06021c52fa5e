-- `genlib_expression::name_value` meets its contract, by its four ways.
use Rattle.base.specs.{◌≡◌, sym, ap, ◌∙◌, false, ℕ, ◌/◌, ◌%◌, ◌<◌, arith, eqb}
use Rattle.model.specs.{bit, text, value, name_value, const0, const1}
use Rattle.base_truth.proofs.{value_pattern, value_shift}
use Rattle.genlib_expression.proofs.ExpressionValues.{no_row, every-row}
use Rattle.genlib_expression.proofs.name_value.Goals as goal

-- a row has four bits
fifth : (row : ℕ) → row < 16 → bit row 4 ≡ false
unfolding value
fifth row h = let z : row / 16 % 2 ≡ 0 = omega arith in value_shift 4 row ∙ ap (λ (x : ℕ). eqb x 1) z

pub returns-then-same_bytes : goal.returns-then-same_bytes
unfolding name_value const0 const1 text
returns-then-same_bytes c = λ row h. rw (sym c.same_bytes.ensures ∙ c.if-same_bytes.true) (no_row row)

pub returns-then-same_bytes-2 : goal.returns-then-same_bytes-2
unfolding name_value const0 const1 text
returns-then-same_bytes-2 c =
    λ row h. rw (sym c.same_bytes.ensures ∙ c.if-same_bytes.false, sym c.same_bytes-2.ensures ∙ c.if-same_bytes-2.true) (every-row row h)

pub returns-then-i-lt4 : goal.returns-then-i-lt4
unfolding name_value const0 const1 text value
returns-then-i-lt4 c =
    λ row h. rw (sym c.same_bytes.ensures ∙ c.if-same_bytes.false, sym c.same_bytes-2.ensures ∙ c.if-same_bytes-2.false)
    (ap (λ (x : ℕ). bit x row) c.pattern.ensures ∙ value_pattern c.index-i.result row h ∙ ap (bit row) c.index-i.ensures.0)

pub returns-else-i-lt4 : goal.returns-else-i-lt4
unfolding name_value const0 const1 text
returns-else-i-lt4 c =
    let four : 4 ≡ c.index-i.result = omega (arith, c.index-i.ensures.1, c.if-i-lt4.false) in
    λ row h. rw (sym c.same_bytes.ensures ∙ c.if-same_bytes.false, sym c.same_bytes-2.ensures ∙ c.if-same_bytes-2.false)
    (no_row row ∙ sym (fifth row h) ∙ ap (bit row) (four ∙ c.index-i.ensures.0))
