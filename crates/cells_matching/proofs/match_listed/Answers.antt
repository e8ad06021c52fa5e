-- `cells_matching::match_listed` meets its contract: the cell of the line is read out of the list, and matched.
use Rattle.model.specs.{cell_at}
use Rattle.cells_matching.proofs.match_listed.Goals as goal

pub match_cell-requires : goal.match_cell-requires
unfolding cell_at
match_cell-requires c = (c.requires.2, c.requires.1, c.requires.3)

pub returns : goal.returns
unfolding cell_at
returns c = c.match_cell.ensures
