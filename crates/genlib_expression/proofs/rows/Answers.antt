-- `genlib_expression::rows` meets its contract, by its cases.
use Rattle.base.specs.{◌≡◌, sym, ap, ℕ, ◌^◌, ◌≤◌, arith, true}
use Rattle.model.specs.{one, row_bits}
use Rattle.genlib_expression.proofs.rows.Goals as goal

four : (n : ℕ) → n ≤ 4 → (n ≡ 3 → ⊥) → (n ≡ 2 → ⊥) → (n ≡ 1 → ⊥) → (n ≡ 0 → ⊥) → n ≡ 4
four n h a b c d = omega arith

abbrev full : ℕ → ℕ
full n = row_bits (λ row. true) 0 (2 ^ n)

pub returns-in-0 : goal.returns-in-0
unfolding row_bits one
returns-in-0 c = ap full (sym c.in-0.is)

pub returns-in-1 : goal.returns-in-1
unfolding row_bits one
returns-in-1 c = ap full (sym c.in-1.is)

pub returns-in-2 : goal.returns-in-2
unfolding row_bits one
returns-in-2 c = ap full (sym c.in-2.is)

pub returns-in-3 : goal.returns-in-3
unfolding row_bits one
returns-in-3 c = ap full (sym c.in-3.is)

pub returns-in_default : goal.returns-in_default
unfolding row_bits one
returns-in_default c = let h : c.args.pins ≡ 4 = four _ c.requires (λ e. omega arith) (λ e. omega arith) (λ e. omega arith) (λ e. omega arith) in ap full (sym h)
