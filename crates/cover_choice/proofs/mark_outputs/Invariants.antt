-- `cover_choice::mark_outputs` meets its contract. The invariant: the outputs that are left, marked, give the same words as all.
use Rattle.base.specs.{◌≡◌, ◌-◌, length}
use Rattle.cover_choice.specs.{put_outputs, OutputsIn}
use Rattle.cover_choice.proofs.mark_outputs.Given as goal

abbrev pub invariant-loop-k : goal.invariant-loop-k
invariant-loop-k l = OutputsIn l.work l.m l.outputs × (length l.work ≡ length l.initial.work) × (put_outputs l.work l.m l.k (l.outputs - l.k) ≡ put_outputs l.initial.work l.m 0 l.outputs)
