-- `base_text::put_byte` meets its contract.
use Rattle.base.specs.{refl}
use Rattle.base_words.proofs.{put_one}
use Rattle.base_text.proofs.put_byte.Goals as goal

pub returns : goal.returns
returns c = record { ends = refl; leaves = put_one _ _ _ c.requires }
