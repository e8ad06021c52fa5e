-- `cells_matching::build` meets its contract. The invariant: the cells from line i on are matched.
use Rattle.base.specs.{◌≡◌, ap, ◌∙◌, ℕ, ◌-◌, arith, length, drop}
use Rattle.model.specs.{cell_at}
use Rattle.cells_matching.specs.{cell_matched}
use Rattle.cells_matching.proofs.BucketLinks.{listed-none, listed-down, listed-all, list_long}
use Rattle.cells_matching.proofs.build.Goals as goal

pub loop-i-init : goal.loop-i-init
loop-i-init c = listed-none c.args.cells.now (length c.args.cells.now) c.args.matches.now (omega arith)

pub match_listed-requires : goal.match_listed-requires
match_listed-requires c =
    let a = c.args in
    let l = c.loop-i in
    let n : length l.matches ≡ length a.matches.now = ap length l.invariant ∙ list_long (drop l.i a.cells.now) l.i a.matches.now in
    (omega arith, omega (arith, c.requires.0), c.requires.1 (l.i - 1), omega (arith, n, c.requires.2))

pub loop-i-preserved : goal.loop-i-preserved
loop-i-preserved c =
    let a = c.args in
    let l = c.loop-i in
    let k : ℕ = l.i - 1 in
    c.match_listed.ensures ∙ ap (cell_matched (cell_at a.cells.now k) k) l.invariant ∙ listed-down a.cells.now l.i a.matches.now c.loop-i-test.true (omega arith)

pub returns : goal.returns
returns c =
    let l = c.loop-i in
    l.invariant ∙ listed-all c.args.cells.now l.i c.args.matches.now (omega (arith, c.loop-i-test.false))
