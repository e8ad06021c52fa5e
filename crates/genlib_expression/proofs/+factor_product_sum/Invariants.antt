-- `genlib_expression::sum`, `product` and `factor` meet their contracts. The measure of the cycle is three for each bracket that may still open, and 2, 1, 0 for the
-- three functions; that of a loop is what is left of the line. The invariant of a loop: the chain from the start is the value so far joined with the chain from
-- here on.
use Rattle.std.proofs.Common.{◌≤◌, ◌<◌, ◌+◌, ◌-◌, ◌*◌, ℕ, length}
use Rattle.model.specs.{bit}
use Rattle.genlib_expression.proofs.ExpressionValues.{ProductChained, SumChained}
use Rattle.genlib_expression.proofs.+factor_product_sum.Given as goal

abbrev pub decreases-factor : goal.decreases-factor
decreases-factor l = 3 * l.depth

abbrev pub decreases-product : goal.decreases-product
decreases-product l = 3 * l.depth + 1

abbrev pub decreases-sum : goal.decreases-sum
decreases-sum l = 3 * l.depth + 2

abbrev pub invariant-product-loop-u : goal.invariant-product-loop-u
invariant-product-loop-u l =
    (l.from ≤ l.at) × (l.at ≤ length l.w) × ((row : ℕ) → row < 16 → (k : ℕ) → length l.w < k → ProductChained l.w l.p row l.depth k l.from (bit l.v row) l.at)

abbrev pub decreases-product-loop-u : goal.decreases-product-loop-u
decreases-product-loop-u l = length l.w - l.at

abbrev pub invariant-sum-loop-u : goal.invariant-sum-loop-u
invariant-sum-loop-u l =
    (l.from ≤ l.at) × (l.at ≤ length l.w) × ((row : ℕ) → row < 16 → (k : ℕ) → length l.w < k → SumChained l.w l.p row l.depth k l.from (bit l.v row) l.at)

abbrev pub decreases-sum-loop-u : goal.decreases-sum-loop-u
decreases-sum-loop-u l = length l.w - l.at
