-- `cells_reader::delay_ok` meets its contract.
use Rattle.base.specs.{lt-ltb, le-ltb}
use Rattle.cells_reader.proofs.delay_ok.Goals as goal

pub returns-then-j-pins : goal.returns-then-j-pins
returns-then-j-pins c = rw (lt-ltb _ _ c.if-j-pins.true)

pub returns-else-j-pins : goal.returns-else-j-pins
returns-else-j-pins c = rw (le-ltb _ _ c.if-j-pins.false)
