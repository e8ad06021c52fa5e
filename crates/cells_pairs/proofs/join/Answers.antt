-- `cells_pairs::join` meets its contract: each of the four by `join_pin`.
use Rattle.model.specs.{pair_delays}
use Rattle.cells_pairs.proofs.PairCells.{join-four, four_are}
use Rattle.cells_pairs.proofs.join.Goals as goal

pub returns : goal.returns
returns c =
    let a = c.args in
    four_are (pair_delays a.pin a.n a.ds a.es) _ _ _ _
    (join-four a.pin a.n a.ds a.es c.requires.0 c.requires.1 c.requires.2 c.well_formed.1.1.0.1.0.1 c.well_formed.1.1.1.0.1.0.1)
    c.join_pin.ensures c.join_pin-2.ensures c.join_pin-3.ensures c.join_pin-4.ensures
