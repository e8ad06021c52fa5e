-- `base_text::same_bytes` meets its contract: slices' `==` answers byte by byte.
use Rattle.base.specs.{◌∙◌}
use Rattle.base_text.proofs.Bytes.{pointwise-same}
use Rattle.base_text.proofs.same_bytes.Goals as goal

pub returns : goal.returns
returns c = c.eq.ensures ∙ pointwise-same _ _
