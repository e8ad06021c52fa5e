-- `tally::count_all` meets its contract. The invariant: the buffer keeps its length.
use Rattle.base.specs.{◌≡◌, length}
use Rattle.tally.proofs.count_all.Given as goal

abbrev pub invariant-loop-k : goal.invariant-loop-k
invariant-loop-k g l = length l.buf ≡ length l.initial.buf
