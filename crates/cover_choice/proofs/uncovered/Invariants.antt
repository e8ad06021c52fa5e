-- `cover_choice::uncovered` meets its contract. The invariant: the outputs from k on say the same as all.
use Rattle.base.specs.{◌≡◌, ◌-◌}
use Rattle.cover_choice.specs.{missing_from}
use Rattle.cover_choice.proofs.uncovered.Given as goal

abbrev pub invariant-loop-k : goal.invariant-loop-k
invariant-loop-k l = missing_from l.work l.h.size l.k (l.h.outputs - l.k) ≡ missing_from l.work l.h.size 0 l.h.outputs
