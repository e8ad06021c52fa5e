-- `base_text::name_bytes` meets its contract: bytes put over eight zeros leave zeros behind them.
use Rattle.base.specs.{◌∙◌}
use Rattle.base_text.proofs.NameBytes.{name-put}
use Rattle.base_text.proofs.name_bytes.Goals as goal

pub returns : goal.returns
returns c = c.put.ensures ∙ name-put _
