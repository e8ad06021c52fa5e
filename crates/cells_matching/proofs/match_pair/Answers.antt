-- `cells_matching::match_pair` meets its contract, by that of `match_parts` and the pair's pins, table and delays.
use Rattle.base.specs.{◌∙◌, ◌*◌, arith}
use Rattle.cells_matching.specs.{passed, timed, cell_matched}
use Rattle.cells_matching.proofs.PairMatches.{pins_by_lem}
use Rattle.cells_matching.proofs.match_pair.Goals as goal

pub match_parts-requires : goal.match_parts-requires
match_parts-requires c =
    let p = c.pins_of-pins in
    (omega (arith, p.ensures, pins_by_lem c.args.lib c.args.ids.now c.requires.0 c.args.k), omega (arith, c.requires.0.few, c.requires.1), c.requires.2)

pub returns : goal.returns
unfolding cell_matched
returns c =
    let a = c.args in
    let p = c.pins_of-pins in
    let t = c.table_of-table in
    let d = c.delays_of in
    c.match_parts.ensures
    ∙ (λ i. passed (p.ensures i) (t.ensures i) (384 * a.k) 384 (timed (p.ensures i) (d.ensures i) a.k a.matches.now))
