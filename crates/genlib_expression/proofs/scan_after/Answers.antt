-- `genlib_expression::scan_after` meets its contract, by its ways.
use Rattle.base.specs.{ℕ, ◌≤◌, ◌<◌, arith, ◌≡◌, refl, Bool, true, false, eqb, eqb-true, eqb-false, eq-eqb, ne_eqb, lt-ltb, le-ltb}
use Rattle.model.specs.declared.Scan.TheVariants.{Expected, Broken}
use Rattle.genlib_expression.specs.{after_step, close_step, end_step}
use Rattle.genlib_expression.proofs.scan_after.Goals as goal

-- the signs between parts, and a byte that is no sign
join : (depth b : ℕ) → (b ≡ 41 → ⊥) → 41 ≤ b → b < 44 → Expected depth ≡ after_step depth b
unfolding after_step
join depth b n h k = go (eqb b 42) refl
  where
    go : (t : Bool) → eqb b 42 ≡ t → Expected depth ≡ after_step depth b
    go true e = rw (eqb-true b 42 e)
    go false e = let o = eqb-false b 42 e in let z : b ≡ 43 = omega (arith, n, o) in rw z

other : (depth b : ℕ) → (b ≡ 39 → ⊥) → (b ≡ 41 → ⊥) → (b ≡ 42 → ⊥) → (b ≡ 43 → ⊥) → (b ≡ 59 → ⊥) → Broken ≡ after_step depth b
unfolding after_step end_step
other depth b p q r s t = rw (ne_eqb b 39 p, ne_eqb b 41 q, ne_eqb b 42 r, ne_eqb b 43 s, ne_eqb b 59 t)

pub returns-in-39 : goal.returns-in-39
unfolding after_step
returns-in-39 c = rw c.in-39.is

pub returns-then-depth-gt0 : goal.returns-then-depth-gt0
unfolding after_step close_step
returns-then-depth-gt0 c = rw (c.in-41.is, lt-ltb _ _ c.if-depth-gt0.true)

pub returns-else-depth-gt0 : goal.returns-else-depth-gt0
unfolding after_step close_step
returns-else-depth-gt0 c = rw (c.in-41.is, le-ltb _ _ c.if-depth-gt0.false)

pub returns-then-depth-eq0 : goal.returns-then-depth-eq0
unfolding after_step end_step
returns-then-depth-eq0 c = rw (c.in-59.is, eq-eqb _ _ c.if-depth-eq0.true)

pub returns-else-depth-eq0 : goal.returns-else-depth-eq0
unfolding after_step end_step
returns-else-depth-eq0 c = rw (c.in-59.is, ne_eqb _ _ c.if-depth-eq0.false)

pub returns-in-42 : goal.returns-in-42
returns-in-42 c = join _ _ (λ e. omega arith) (omega arith) (omega arith)

pub returns-in_default : goal.returns-in_default
returns-in_default c = other _ _ (λ e. omega arith) (λ e. omega arith) (λ e. omega arith) (λ e. omega arith) (λ e. omega arith)

pub returns-in_default-2 : goal.returns-in_default-2
returns-in_default-2 c = other _ _ (λ e. omega arith) (λ e. omega arith) (λ e. omega arith) (λ e. omega arith) (λ e. omega arith)
