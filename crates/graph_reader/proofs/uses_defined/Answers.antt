-- `graph_reader::uses_defined` meets its contract.
use Rattle.base.specs.{sym, ◌∙◌, eq-eqb, ne_eqb}
use Rattle.graph_reader.specs.{uses_defined}
use Rattle.graph_reader.proofs.uses_defined.Goals as goal

pub returns-then-is_defined : goal.returns-then-is_defined
unfolding uses_defined
returns-then-is_defined c =
    rw (ne_eqb _ _ c.if-kind-eq-UNDEFINED.false, sym c.is_defined-2.ensures ∙ c.if-is_defined.true) c.is_defined-then-is_defined.ensures

pub returns-else-is_defined : goal.returns-else-is_defined
unfolding uses_defined
returns-else-is_defined c = rw (ne_eqb _ _ c.if-kind-eq-UNDEFINED.false, sym c.is_defined-2.ensures ∙ c.if-is_defined.false) c.if-is_defined.false

pub returns-then-kind-eq-UNDEFINED : goal.returns-then-kind-eq-UNDEFINED
unfolding uses_defined
returns-then-kind-eq-UNDEFINED c = rw (eq-eqb _ _ c.if-kind-eq-UNDEFINED.true) c.is_defined.ensures
