-- `cells_matching::delay_of` meets its contract: by whether there is such a pin.
use Rattle.base.specs.{arith}
use Rattle.cells_matching.proofs.BucketWalk.{delay_there, delay_absent}
use Rattle.cells_matching.proofs.delay_of.Goals as goal

pub returns-then-j-from : goal.returns-then-j-from
returns-then-j-from c = let a = c.args in delay_there a.pins a.delays a.j (omega (arith, c.if-j-from.true, c.from.ensures))

pub returns-else-j-from : goal.returns-else-j-from
returns-else-j-from c = let a = c.args in delay_absent a.pins a.delays a.j (omega (arith, c.if-j-from.false, c.from.ensures))
