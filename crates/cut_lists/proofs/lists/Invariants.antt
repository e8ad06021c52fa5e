-- `cut_lists::lists` meets its contract. The invariant: the first i variables are listed, and the words hold exactly their lists.
use Rattle.std.specs.Prelude.{Ok}
use Rattle.base.specs.{◌≡◌}
use Rattle.cut_lists.specs.{listing}
use Rattle.cut_lists.proofs.CutListing.{ListedSoFar}
use Rattle.cut_lists.proofs.lists.Given as goal

abbrev pub invariant-loop-i : goal.invariant-loop-i
invariant-loop-i l =
    record {
      all : (listing l.initial.work l.m l.i).answer ≡ Ok tt;
      listed : ListedSoFar l.initial.work l.m (listing l.initial.work l.m l.i).known l.work;
    }
