-- `tally_counting::add_place` meets its contract: a place of each figure.
use Rattle.base.specs.{arith, ltb}
use Rattle.tally_counting.proofs.CountPositions.{occurs-low}
use Rattle.tally_counting.proofs.add_place.Goals as goal

pub overflow_add-t-3 : goal.overflow_add-t-3
overflow_add-t-3 c = omega (arith, c.occurs.ensures, occurs-low (ltb 0 c.args.n))
