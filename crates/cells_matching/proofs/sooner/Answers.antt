-- `cells_matching::sooner` meets its contract, by the case of the best so far and the test.
use Rattle.base.specs.{sym}
use Rattle.cells_matching.specs.{quicker}
use Rattle.cells_matching.proofs.InverterChoice.{quicker_less, quicker-not}
use Rattle.cells_matching.proofs.sooner.Goals as goal

pub returns-in-Some : goal.returns-in-Some
returns-in-Some c = rw c.in-Some.is (sym (quicker-not _ _ c.args.line c.args.d c.if-e-d.true))

pub returns-in_default : goal.returns-in_default
returns-in_default c = rw c.in-Some.is (sym (quicker_less _ _ c.args.line c.args.d c.if-e-d.false))

pub returns-in_default-2 : goal.returns-in_default-2
unfolding quicker
returns-in_default-2 c = rw c.in_default.is
