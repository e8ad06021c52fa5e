-- `check_call::line_ends` meets its contract. The invariant: the number is that of the bytes passed, from the last on.
use Rattle.base.specs.{◌≡◌, ◌+◌, ◌≤◌, length, drop}
use Rattle.model.specs.{line_ends}
use Rattle.check_call.proofs.line_ends.Given as goal

abbrev pub invariant-loop-i : goal.invariant-loop-i
invariant-loop-i l = (l.n + l.i ≤ length l.s) × (l.n ≡ line_ends (drop l.i l.s))
