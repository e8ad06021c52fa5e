-- `cover_choice::none_found` meets its contract: it arrives never.
use Rattle.base.specs.{arith}
use Rattle.cells_matching.proofs.{phase-input-arrival}
use Rattle.cover_choice.proofs.none_found.Goals as goal

pub returns : goal.returns
returns c = phase-input-arrival _ _ (omega arith)
