-- `certificate_tables::bit` meets its contract: a row by a shift.
use Rattle.base.specs.{sym}
use Rattle.model.specs.{value}
use Rattle.base_truth.proofs.{value_shift}
use Rattle.certificate_tables.proofs.bit.Goals as goal

pub returns : goal.returns
unfolding value
returns c = sym (value_shift c.args.r c.args.t)
