-- `graph_reader::outputs_defined` meets its contract. The invariant: what the outputs from here on pass is what all pass.
use Rattle.base.specs.{sym, ◌∙◌}
use Rattle.graph_reader.proofs.DefinedUses.{passing_first, passing_on, passing_stop, passing_end}
use Rattle.graph_reader.proofs.outputs_defined.Goals as goal

pub returns-then-not-output_defined : goal.returns-then-not-output_defined
returns-then-not-output_defined c =
    sym (passing_stop _ _ _ c.loop-i.invariant c.loop-i-test.true (sym c.output_defined.ensures ∙ c.if-not-output_defined.true))

pub loop-i-preserved : goal.loop-i-preserved
loop-i-preserved c =
    passing_on _ _ _ c.loop-i.invariant c.loop-i-test.true (sym c.output_defined.ensures ∙ c.if-not-output_defined.false)

pub loop-i-init : goal.loop-i-init
loop-i-init c = passing_first _ _

pub returns : goal.returns
returns c = sym (passing_end _ _ _ c.loop-i.invariant c.loop-i-test.false)
