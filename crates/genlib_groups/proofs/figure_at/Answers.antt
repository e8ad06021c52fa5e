-- `genlib_groups::figure_at` meets its contract, by the token’s bytes.
use Rattle.base.specs.{ap, ◌∙◌}
use Rattle.model.specs.{thousandths}
use Rattle.genlib_groups.proofs.figure_at.Goals as goal

pub returns : goal.returns
returns c = c.figure.ensures ∙ ap thousandths c.nth_bytes.ensures
