-- `cells_matching::with_mask` meets its contract.
use Rattle.base.specs.{refl}
use Rattle.cells_matching.specs.{masked}
use Rattle.cells_matching.proofs.with_mask.Goals as goal

pub returns : goal.returns
unfolding masked
returns c = refl
