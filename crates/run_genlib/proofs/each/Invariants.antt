-- `run_genlib::each` is safe: each case begins within the input, and the memory lent keeps its length.
use Rattle.base.specs.{◌≡◌, ◌+◌, ◌≤◌, ◌-◌, length}
use Rattle.run_genlib.proofs.each.Given as goal

abbrev pub invariant-loop-from : goal.invariant-loop-from
invariant-loop-from g l = (l.from ≤ length l.s + 1) × (length l.text ≡ length l.initial.text)

abbrev pub decreases-loop-from : goal.decreases-loop-from
decreases-loop-from g l = length l.s + 1 - l.from
