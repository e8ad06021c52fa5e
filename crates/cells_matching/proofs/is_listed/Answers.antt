-- `cells_matching::is_listed` meets its contract.
use Rattle.base.specs.{refl}
use Rattle.cells_matching.specs.{is_listed}
use Rattle.cells_matching.proofs.is_listed.Goals as goal

pub returns : goal.returns
unfolding is_listed
returns c = rw c.from.ensures refl
