-- `cover_choice::match_library` meets its contract: the pairs matched and then the listed cells are all cells matched.
use Rattle.base.specs.{ap, ◌∙◌}
use Rattle.model.specs.{cells_of}
use Rattle.cells_matching.specs.{list_matched}
use Rattle.cells_matching.proofs.{pairs_first}
use Rattle.cover_choice.proofs.match_library.Goals as goal

pub returns : goal.returns
returns c =
    let a = c.args in
    c.match_listed.ensures
    ∙ ap (list_matched (cells_of a.lib) 0) c.build_pairs.ensures
    ∙ pairs_first a.lib a.ids.now a.matches.now c.requires.0.joinable.whole
