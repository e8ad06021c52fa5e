-- `cells_pairs::name_from` meets its contract.
use Rattle.base.specs.{refl}
use Rattle.cells_pairs.specs.{name_from}
use Rattle.cells_pairs.proofs.name_from.Goals as goal

pub returns : goal.returns
unfolding name_from
returns c = refl
