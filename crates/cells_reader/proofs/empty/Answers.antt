-- `cells_reader::empty` meets its contract: 32 blank cells.
use Rattle.base.specs.{refl}
use Rattle.model.specs.{library_of}
use Rattle.cells_reader.proofs.empty.Goals as goal

pub returns : goal.returns
unfolding library_of
returns c = refl
