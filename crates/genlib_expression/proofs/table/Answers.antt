-- `genlib_expression::table` meets its contract, row by row.
use Rattle.base.specs.{refl, Bool, false, ◌&&◌, zero-add, ℕ, ◌≤◌, ◌<◌, ltb, pow_mono, ltb-true, ltb-false}
use Rattle.model.specs.{bit, value}
use Rattle.model.proofs.{rows_less, row-bit, row-none}
use Rattle.base_truth.proofs.{tables_same, value-and}
use Rattle.base_text.proofs.{and-true, and-false}
use Rattle.base.specs.{◌≡◌, sym, ap, ◌∙◌, true, arith, ◌^◌, bit_and, and_le_l, and_le_r}
use Rattle.model.specs.{value_taken, row_bits}
use Rattle.model.specs.GenlibFormula.{value_of}
use Rattle.model.proofs.{rows-most}
use Rattle.genlib_expression.proofs.ExpressionValues.{known, no_row}
use Rattle.genlib_expression.proofs.table.Goals as goal

-- the rows of a table below n, and 0 above
module _ (f : ℕ → Bool) (t n : ℕ) (small : n ≤ 16) (is : (row : ℕ) → row < 16 → bit t row ≡ f row) where
  row_of : (row : ℕ) → row < 16 → (bit t row && bit (row_bits (λ r. true) 0 n) row) ≡ bit (row_bits f 0 n) row
  row_of row h = go (ltb row n) refl
    where
      go : (s : Bool) → ltb row n ≡ s → (bit t row && bit (row_bits (λ r. true) 0 n) row) ≡ bit (row_bits f 0 n) row
      go true p =
          let k = ltb-true row n p in
          rw (row-bit (λ r. true) 0 n row k, row-bit f 0 n row k, is row h, zero-add row) (and-true (f row))
      go false p =
          let k = ltb-false row n p in
          rw (row-none (λ r. true) 0 n row k, row-none f 0 n row k) (and-false (bit t row))

  below : row_bits f 0 n < 65536
  below = let p : 2 ^ n ≤ 2 ^ 16 = pow_mono {i = n} {j = 16} small in omega (arith, rows_less f 0 n)

  masked : bit_and t (row_bits (λ r. true) 0 n) < 65536 → bit_and t (row_bits (λ r. true) 0 n) ≡ row_bits f 0 n
  unfolding value
  masked h = tables_same (bit_and t (row_bits (λ r. true) 0 n)) (row_bits f 0 n) h below (λ row k. value-and t (row_bits (λ r. true) 0 n) row ∙ row_of row k)

-- the rows of a table below n, and 0 above
pub returns-in-Some : goal.returns-in-Some
unfolding value_of value_taken
returns-in-Some c =
    let n = 2 ^ c.args.p.n in
    let v = c.in-Some.v in
    ap (bit_and v) c.rows.ensures
    ∙ masked _ v n (rows-most _ c.requires.1) (λ row h. sym (ap value_taken (known _ row _ _ _ c.in-Some.is (c.sum.ensures.same row h 65537 (omega arith))))) (omega (arith, and_le_r v (row_bits (λ row. true) 0 n), c.rows.ensures, c.rows.type_inv))

pub returns-in-None : goal.returns-in-None
unfolding value_of value_taken
returns-in-None c =
    let n = 2 ^ c.args.p.n in
    let none : 0 ≡ bit_and 0 (row_bits (λ row. true) 0 n) = omega (arith, and_le_l 0 (row_bits (λ row. true) 0 n)) in
    none ∙ masked _ 0 n (rows-most _ c.requires.1) (λ row h. no_row row ∙ sym (ap value_taken (known _ row _ _ _ c.in-None.is (c.sum.ensures.same row h 65537 (omega arith))))) (omega arith)
