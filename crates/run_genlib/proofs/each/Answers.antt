-- `run_genlib::each` is safe: each case begins within the input, and the memory lent keeps its length.
use Rattle.base.specs.{ℕ, ◌≡◌, ◌+◌, ◌≤◌, ◌<◌, ◌-◌, arith}
use Rattle.run_genlib.proofs.each.Goals as goal

-- a case ends behind its start, and the next begins within the input or at its end
less : {n from a b : ℕ} → from < n → from ≤ a → a + 1 ≤ b → n + 1 - (b + 1) < n + 1 - from
less h k l = omega arith

within : {n from a b : ℕ} → from < n → a ≤ n + (from - n) → (a ≡ n → ⊥) → b ≤ n + (a + 1 - n) → b + 1 ≤ n + 1
within h k l m = omega arith

pub loop-from-smaller : goal.loop-from-smaller
loop-from-smaller g c =
    less c.loop-from-test.true c.end-a.ensures.1 c.end-b.ensures.1

pub loop-from-preserved : goal.loop-from-preserved
loop-from-preserved g c =
    (within c.loop-from-test.true c.end-a.ensures.2 c.if-a-s.false c.end-b.ensures.2, omega arith)
