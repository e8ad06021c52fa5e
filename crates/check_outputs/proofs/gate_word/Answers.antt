-- `check_outputs::gate_word` meets its contract, by the last pin.
use Rattle.base.specs.{◌∙◌}
use Rattle.check_outputs.specs.{selected}
use Rattle.check_outputs.proofs.GateWords.{last_of_four}
use Rattle.check_outputs.proofs.gate_word.Goals as goal

pub returns : goal.returns
returns c = c.select.ensures ∙ (λ i. selected c.args.d (c.gate_of_three.ensures i) (c.gate_of_three-2.ensures i)) ∙ last_of_four c.args.table c.args.a c.args.b c.args.c c.args.d
