-- `check_outputs::assignments_of` meets its contract: the shift loses nothing.
use Rattle.base.specs.{◌∙◌, arith, shl_exact}
use Rattle.check_outputs.proofs.assignments_of.Goals as goal

pub returns : goal.returns
returns c = shl_exact 1 c.args.inputs 64 (omega arith) (omega arith) ∙ omega arith
