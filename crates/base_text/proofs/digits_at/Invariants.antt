-- `base_text::digits_at` meets its contract. The invariant: the bytes so far are digits, of value n, to which the rest adds.
use Rattle.base_text.proofs.ByteRuns.{Run}
use Rattle.base_text.proofs.digits_at.Given as goal

abbrev pub invariant-loop-at : goal.invariant-loop-at
invariant-loop-at l = Run l.s l.from l.n l.at
