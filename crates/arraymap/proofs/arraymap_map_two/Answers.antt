-- `arraymap::arraymap_map_two` meets its contract, thin over `mapper_two::map_two`.
use Rattle.base.specs.{ap, ◌∙◌}
use Rattle.arraymap.specs.{answered}
use Rattle.arraymap.proofs.arraymap_map_two.Goals as goal

pub returns : goal.returns
returns c =
    let e = c.map_two.ensures in
    let m = e.memory in
    record {
      first = c.into.ensures.0 ∙ ap answered m.returns_first;
      second = c.into.ensures.1 ∙ ap answered m.returns_second;
      words = m.words;
      bytes1 = m.first_bytes;
      bytes2 = m.second_bytes;
      promised = e.promised;
    }
