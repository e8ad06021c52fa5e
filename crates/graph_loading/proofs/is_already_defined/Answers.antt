-- `graph_loading::is_already_defined` meets its contract.
use Rattle.base.specs.{eq-eqb, ne_eqb}
use Rattle.graph_loading.specs.{is_already_defined}
use Rattle.graph_loading.proofs.is_already_defined.Goals as goal

pub returns-then-kind-ne-UNDEFINED : goal.returns-then-kind-ne-UNDEFINED
unfolding is_already_defined
returns-then-kind-ne-UNDEFINED c = rw (ne_eqb _ _ c.if-kind-ne-UNDEFINED.true, c.kind.ensures)

pub returns-else-kind-ne-UNDEFINED : goal.returns-else-kind-ne-UNDEFINED
unfolding is_already_defined
returns-else-kind-ne-UNDEFINED c = rw (eq-eqb _ _ c.if-kind-ne-UNDEFINED.false)
