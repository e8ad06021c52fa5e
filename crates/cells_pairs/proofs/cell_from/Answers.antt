-- `cells_pairs::cell_from` meets its contract.
use Rattle.base.specs.{◌+◌, ◌*◌, replicate}
use Rattle.cells_pairs.specs.{cell_from}
use Rattle.cells_pairs.proofs.cell_from.Goals as goal

pub returns : goal.returns
unfolding cell_from
returns c =
    λ i. record {
      name = c.name_from-name.ensures i;
      len = c.from.ensures i;
      pins = c.from-2.ensures i;
      table = 0;
      area = c.from-3.ensures i + 256 * c.from-4.ensures i;
      delays = replicate 4 0;
      mins = replicate 4 0;
    }
