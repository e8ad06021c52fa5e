-- `cover_choice::size` meets its contract.
use Rattle.base.specs.{◌∙◌}
use Rattle.cover_choice.proofs.LeafTimes.{size_least}
use Rattle.cover_choice.proofs.size.Goals as goal

pub returns : goal.returns
returns c = c.min.ensures ∙ size_least c.args.cut c.requires
