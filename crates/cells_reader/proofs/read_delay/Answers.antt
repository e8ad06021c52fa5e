-- `cells_reader::read_delay` meets its contract, by what must stand behind the delay.
use Rattle.cells_reader.proofs.read_delay.Goals as goal

pub returns-then-last : goal.returns-then-last
returns-then-last c = rw c.if-last.true c.number_end.ensures

pub returns : goal.returns
returns c = rw c.if-last.false c.number_then.ensures
