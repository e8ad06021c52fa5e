-- `cells_matching::best_match` meets its contract. The invariant: what is left of the bucket leads from b to the answer, of whichever cells the match table is.
-- The measure is how far h is from the end.
use Rattle.cells_matching.proofs.BucketWalk.{Walks, togo}
use Rattle.cells_matching.proofs.best_match.Given as goal

abbrev pub invariant-loop-h : goal.invariant-loop-h
invariant-loop-h l = Walks l.matches l.f l.times l.bound l.h l.b

abbrev pub decreases-loop-h : goal.decreases-loop-h
decreases-loop-h l = togo l.h
