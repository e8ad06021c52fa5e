-- `check_outputs::gate_of_one` meets its contract, by the last pin.
use Rattle.base.specs.{◌∙◌}
use Rattle.check_outputs.specs.{selected}
use Rattle.check_outputs.proofs.GateWords.{last_of_one}
use Rattle.check_outputs.proofs.gate_of_one.Goals as goal

pub returns : goal.returns
returns c = c.select.ensures ∙ (λ i. selected c.args.a (c.gate_of_none.ensures i) (c.gate_of_none-2.ensures i)) ∙ last_of_one c.args.table c.args.a
