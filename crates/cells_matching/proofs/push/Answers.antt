-- `cells_matching::push` meets its contract: three stores.
use Rattle.base.specs.{refl}
use Rattle.cells_matching.specs.{pushed}
use Rattle.cells_matching.proofs.push.Goals as goal

pub returns : goal.returns
unfolding pushed
returns c = rw c.from-i.ensures refl
