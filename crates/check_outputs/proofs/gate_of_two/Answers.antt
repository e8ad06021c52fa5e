-- `check_outputs::gate_of_two` meets its contract, by the last pin.
use Rattle.base.specs.{◌∙◌}
use Rattle.check_outputs.specs.{selected}
use Rattle.check_outputs.proofs.GateWords.{last_of_two}
use Rattle.check_outputs.proofs.gate_of_two.Goals as goal

pub returns : goal.returns
returns c = c.select.ensures ∙ (λ i. selected c.args.b (c.gate_of_one.ensures i) (c.gate_of_one-2.ensures i)) ∙ last_of_two c.args.table c.args.a c.args.b
