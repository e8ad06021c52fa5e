-- `cells_reader::cell_of` meets its contract, by that of `name_bytes`.
use Rattle.cells_reader.specs.{line_cell}
use Rattle.cells_reader.proofs.cell_of.Goals as goal

pub returns : goal.returns
unfolding line_cell
returns c = rw c.name_bytes-name.ensures
