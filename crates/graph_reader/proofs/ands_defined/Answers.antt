-- `graph_reader::ands_defined` meets its contract. The invariant: what the variables from here on pass is what all pass.
use Rattle.base.specs.{sym, ◌∙◌, arith}
use Rattle.graph_reader.proofs.DefinedUses.{passing_first, passing_on, passing_stop, passing_end}
use Rattle.graph_reader.proofs.ands_defined.Goals as goal

pub returns-then-not-operands_defined : goal.returns-then-not-operands_defined
returns-then-not-operands_defined c = sym (passing_stop _ _ _ c.loop-v.invariant (omega arith) (sym c.operands_defined.ensures ∙ c.if-not-operands_defined.true))

pub loop-v-preserved : goal.loop-v-preserved
loop-v-preserved c = passing_on _ _ _ c.loop-v.invariant (omega arith) (sym c.operands_defined.ensures ∙ c.if-not-operands_defined.false)

pub loop-v-init : goal.loop-v-init
loop-v-init c = passing_first _ _

pub returns : goal.returns
returns c = sym (passing_end _ _ _ c.loop-v.invariant (omega arith))
