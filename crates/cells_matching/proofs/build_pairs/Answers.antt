-- `cells_matching::build_pairs` meets its contract. The invariant: the pairs from number n + i on are matched.
use Rattle.base.specs.{◌≡◌, ap, ◌∙◌, List, ℕ, ◌+◌, ◌-◌, arith, length, drop}
use Rattle.model.specs.{cell_at, cells_of}
use Rattle.model.specs.declared.Cell.{Cell}
use Rattle.cells_pairs.specs.{cells_by}
use Rattle.cells_pairs.proofs.{by_length}
use Rattle.cells_matching.specs.{cell_matched, list_matched}
use Rattle.cells_matching.proofs.BucketLinks.{listed-none, list_long}
use Rattle.cells_matching.proofs.PairMatches.{pairs-down}
use Rattle.cells_matching.proofs.build_pairs.Goals as goal

pub loop-i-init : goal.loop-i-init
loop-i-init c =
    let a = c.args in
    listed-none (cells_by (cells_of a.lib) a.ids.now) (a.lib.n + length a.ids.now) a.matches.now (omega (arith, by_length (cells_of a.lib) a.ids.now, c.requires.0.joinable.whole))

pub match_pair-requires : goal.match_pair-requires
match_pair-requires c =
    let a = c.args in
    let l = c.loop-i in
    let t = c.loop-i-test.true in
    (c.requires.0, omega (arith, t), omega (arith, c.requires.1, t, ap length l.invariant ∙ list_long (drop (a.lib.n + l.i) (cells_by (cells_of a.lib) a.ids.now)) (a.lib.n + l.i) a.matches.now))

pub loop-i-preserved : goal.loop-i-preserved
loop-i-preserved c =
    let a = c.args in
    let l = c.loop-i in
    let t = c.loop-i-test.true in
    let k : ℕ = a.lib.n + (l.i - 1) in
    let cells : List Cell = cells_by (cells_of a.lib) a.ids.now in
    c.match_pair.ensures
    ∙ ap (cell_matched (cell_at cells k) k) l.invariant
    ∙ pairs-down cells a.lib.n l.i a.matches.now t (omega (arith, by_length (cells_of a.lib) a.ids.now, c.requires.0.joinable.whole))

pub shape_of-matches : goal.shape_of-matches
shape_of-matches c =
    let a = c.args in
    let l = c.loop-i in
    ap length l.invariant ∙ list_long (drop (a.lib.n + l.i) (cells_by (cells_of a.lib) a.ids.now)) (a.lib.n + l.i) a.matches.now

pub returns : goal.returns
returns c =
    let a = c.args in
    let l = c.loop-i in
    let e : a.lib.n + l.i ≡ a.lib.n = omega (arith, c.loop-i-test.false) in
    l.invariant ∙ ap (λ (m : ℕ). list_matched (drop m (cells_by (cells_of a.lib) a.ids.now)) m a.matches.now) e
