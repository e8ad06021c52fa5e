-- `graph_loading::may_define` meets its contract.
use Rattle.base.specs.{◌%◌, eq-eqb, ne_eqb}
use Rattle.graph_loading.specs.{may_define}
use Rattle.graph_loading.proofs.may_define.Goals as goal

pub returns-then-first-eq0 : goal.returns-then-first-eq0
unfolding may_define
returns-then-first-eq0 c = rw (ne_eqb _ _ c.if-kind-eq-UNDEFINED.false, eq-eqb (c.args.first % 2) 0 c.if-first-eq0.true)

pub returns-then-kind-eq-UNDEFINED : goal.returns-then-kind-eq-UNDEFINED
unfolding may_define
returns-then-kind-eq-UNDEFINED c = rw (eq-eqb _ _ c.if-kind-eq-UNDEFINED.true)

pub returns-else-first-eq0 : goal.returns-else-first-eq0
unfolding may_define
returns-else-first-eq0 c = rw (ne_eqb _ _ c.if-kind-eq-UNDEFINED.false, ne_eqb (c.args.first % 2) 0 c.if-first-eq0.false)
