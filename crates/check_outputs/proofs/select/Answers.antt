-- `check_outputs::select` meets its contract, bit by bit.
use Rattle.base.specs.{arith}
use Rattle.check_outputs.proofs.GateWords.{select_bits}
use Rattle.check_outputs.proofs.select.Goals as goal

pub returns : goal.returns
returns c = select_bits c.args.s c.args.x c.args.y (omega arith) (omega arith) (omega arith)
