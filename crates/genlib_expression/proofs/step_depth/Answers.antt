-- `genlib_expression::step_depth` meets its contract, by its ways.
use Rattle.base.specs.{ne_eqb, arith}
use Rattle.genlib_expression.specs.{opened_by}
use Rattle.genlib_expression.proofs.step_depth.Goals as goal

pub returns-in-40 : goal.returns-in-40
unfolding opened_by
returns-in-40 c = rw c.in-40.is

pub returns-in-41 : goal.returns-in-41
unfolding opened_by
returns-in-41 c = rw c.in-41.is c.saturating_sub.ensures

pub returns-in_default : goal.returns-in_default
unfolding opened_by
returns-in_default c = let b = c.args.b in rw (ne_eqb b 40 (λ e. omega arith), ne_eqb b 41 (λ e. omega arith))
