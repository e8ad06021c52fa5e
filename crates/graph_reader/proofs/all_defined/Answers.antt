-- `graph_reader::all_defined` meets its contract.
use Rattle.base.specs.{sym, ◌∙◌}
use Rattle.graph_reader.specs.{words_defined}
use Rattle.graph_reader.proofs.all_defined.Goals as goal

pub returns-then-outputs_defined : goal.returns-then-outputs_defined
unfolding words_defined
returns-then-outputs_defined c = rw (sym c.outputs_defined.ensures ∙ c.if-outputs_defined.true) c.ands_defined.ensures

pub returns-else-outputs_defined : goal.returns-else-outputs_defined
unfolding words_defined
returns-else-outputs_defined c = rw (sym c.outputs_defined.ensures ∙ c.if-outputs_defined.false) c.if-outputs_defined.false
