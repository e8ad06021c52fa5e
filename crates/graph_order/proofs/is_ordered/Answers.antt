-- `graph_order::is_ordered` meets its contract.
use Rattle.graph_order.specs.{is_ordered}
use Rattle.graph_order.proofs.is_ordered.Goals as goal

pub returns : goal.returns
unfolding is_ordered
returns c = rw c.order_position.ensures
