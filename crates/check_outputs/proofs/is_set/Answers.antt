-- `check_outputs::is_set` meets its contract: a bit by a shift.
use Rattle.base.specs.{sym}
use Rattle.model.specs.{value}
use Rattle.base_truth.proofs.{value_shift}
use Rattle.check_outputs.proofs.is_set.Goals as goal

pub returns : goal.returns
unfolding value
returns c = sym (value_shift c.args.t c.args.x)
