-- `cover_choice::nothing` meets its contract.
use Rattle.base.specs.{refl}
use Rattle.model.specs.{no_phase}
use Rattle.cover_choice.proofs.nothing.Goals as goal

pub returns : goal.returns
unfolding no_phase
returns c = refl
