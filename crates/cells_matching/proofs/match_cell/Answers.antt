-- `cells_matching::match_cell` meets its contract, by that of `match_parts`: its delays are as wide as a pair's.
use Rattle.base.specs.{ap, ◌∙◌, List, ℕ, ◌*◌}
use Rattle.cells_matching.specs.{passed, timed, cell_matched}
use Rattle.cells_matching.proofs.match_cell.Goals as goal

pub returns : goal.returns
unfolding cell_matched
returns c =
    let a = c.args in
    c.match_parts.ensures
    ∙ ap (λ (ds : List ℕ). passed a.c.pins a.c.table (384 * a.line) 384 (timed a.c.pins ds a.line a.matches.now)) c.widened.ensures
