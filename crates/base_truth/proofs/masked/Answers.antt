-- `base_truth::masked` meets its contract: a bit by a shift.
use Rattle.base.specs.{arith}
use Rattle.model.specs.{bit}
use Rattle.base_truth.proofs.Tables.{one_bit}
use Rattle.base_truth.proofs.PinNets.{literal-one}
use Rattle.base_truth.proofs.masked.Goals as goal

pub returns : goal.returns
returns c = let a = c.args in (omega (arith, literal-one (bit a.mask a.j) a.v, one_bit a.mask a.j), omega arith)
