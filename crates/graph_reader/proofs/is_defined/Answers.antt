-- `graph_reader::is_defined` meets its contract.
use Rattle.graph_reader.specs.{is_defined}
use Rattle.graph_reader.proofs.is_defined.Goals as goal

pub returns : goal.returns
unfolding is_defined
returns c = rw c.kind.ensures
