-- `genlib_expression::scan_expected` meets its contract, by its four ways.
use Rattle.base.specs.{eq-eqb, ne_eqb}
use Rattle.genlib_expression.specs.{expected_step}
use Rattle.genlib_expression.proofs.scan_expected.Goals as goal

pub returns-then-b-eq33 : goal.returns-then-b-eq33
unfolding expected_step
returns-then-b-eq33 c = rw (eq-eqb _ _ c.if-b-eq33.true)

pub returns-then-b-eq40 : goal.returns-then-b-eq40
unfolding expected_step
returns-then-b-eq40 c = rw (ne_eqb _ _ c.if-b-eq33.false, eq-eqb _ _ c.if-b-eq40.true)

pub returns-then-name : goal.returns-then-name
unfolding expected_step
returns-then-name c = rw (ne_eqb _ _ c.if-b-eq33.false, ne_eqb _ _ c.if-b-eq40.false, c.if-name.true)

pub returns-else-name : goal.returns-else-name
unfolding expected_step
returns-else-name c = rw (ne_eqb _ _ c.if-b-eq33.false, ne_eqb _ _ c.if-b-eq40.false, c.if-name.false)
