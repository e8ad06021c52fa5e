-- `run_map::each` is safe: each case begins within the input, and the memory lent keeps its length.
use Rattle.base.specs.{ℕ, ◌+◌, ◌≤◌, ◌<◌, ◌-◌, arith}
use Rattle.run_map.proofs.each.Goals as goal

-- a case ends behind its start
less : {n from a b c d : ℕ} → from < n → from ≤ a → a + 1 ≤ b → b + 1 ≤ c → c + 1 ≤ d → n - (d + 1) < n - from
less h k l m o = omega arith

pub loop-from-smaller : goal.loop-from-smaller
loop-from-smaller g c =
    less c.loop-from-test.true c.end-a.ensures.1 c.end-b.ensures.1 c.end-c.ensures.1 c.end-d.ensures.1

pub loop-from-preserved : goal.loop-from-preserved
loop-from-preserved g c =
    (omega (arith, c.if-d-s.false), omega arith, omega arith)
