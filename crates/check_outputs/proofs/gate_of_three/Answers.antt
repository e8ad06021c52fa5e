-- `check_outputs::gate_of_three` meets its contract, by the last pin.
use Rattle.base.specs.{◌∙◌}
use Rattle.check_outputs.specs.{selected}
use Rattle.check_outputs.proofs.GateWords.{last_of_three}
use Rattle.check_outputs.proofs.gate_of_three.Goals as goal

pub returns : goal.returns
returns c = c.select.ensures ∙ (λ i. selected c.args.c (c.gate_of_two.ensures i) (c.gate_of_two-2.ensures i)) ∙ last_of_three c.args.table c.args.a c.args.b c.args.c
