-- `arraymap::arraymap_map_pairs` meets its contract, thin over `mapper::map_texts`.
use Rattle.base.specs.{ap, ◌∙◌}
use Rattle.arraymap.specs.{answered}
use Rattle.arraymap.proofs.arraymap_map_pairs.Goals as goal

pub returns : goal.returns
returns c =
    let e = c.map_texts.ensures in
    let m = e.memory in
    record { answers = c.into.ensures ∙ ap answered m.returns; words = m.words; bytes = m.bytes; promised = e.promised }
