-- `cells_matching::match_of` meets its contract: the parts of a variant's number.
use Rattle.base.specs.{refl}
use Rattle.cells_matching.specs.{match_of}
use Rattle.cells_matching.proofs.match_of.Goals as goal

pub returns : goal.returns
unfolding match_of
returns c = refl
