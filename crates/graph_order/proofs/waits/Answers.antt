-- `graph_order::waits` meets its contract.
use Rattle.base.specs.{sym, eq-eqb, ne_eqb}
use Rattle.base_words.specs.{and_kind}
use Rattle.graph_order.specs.{is_waiting}
use Rattle.graph_order.proofs.waits.Goals as goal

pub returns-then-kind-eq-AND : goal.returns-then-kind-eq-AND
unfolding is_waiting
returns-then-kind-eq-AND c = rw (sym c.kind.ensures, eq-eqb _ and_kind c.if-kind-eq-AND.true, c.order_position.ensures)

pub returns-else-kind-eq-AND : goal.returns-else-kind-eq-AND
unfolding is_waiting
returns-else-kind-eq-AND c = rw (sym c.kind.ensures, ne_eqb _ and_kind c.if-kind-eq-AND.false)
