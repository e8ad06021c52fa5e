-- `check_outputs::differing` meets its contract, bit by bit.
use Rattle.base.specs.{◌∙◌, arith}
use Rattle.check_outputs.proofs.GateWords.{differ_bits}
use Rattle.check_outputs.proofs.differing.Goals as goal

pub returns : goal.returns
returns c = c.select.ensures ∙ differ_bits c.args.x c.args.y (omega arith)
