-- `cells_pairs::delays_of` meets its contract: a listed cell's delays, or those of a pair's two cells joined.
use Rattle.base.specs.{refl, sym, ap, ◌∙◌, arith, ◌-◌, get_or}
use Rattle.model.specs.{cells_of}
use Rattle.model.specs.declared.Cell.{Cell}
use Rattle.cells_pairs.specs.declared.CellPair.{CellPair}
use Rattle.cells_pairs.proofs.PairJoins.{listed-is}
use Rattle.cells_pairs.proofs.PairCells.{number-listed, number-pairs, number-pair, delays_are}
use Rattle.cells_pairs.proofs.delays_of.Goals as goal

pub returns-then-k-lib : goal.returns-then-k-lib
unfolding cells_of
returns-then-k-lib c =
    c.widened.ensures
    ∙ ap (λ (x : Cell). x.delays) (sym (listed-is c.args.lib c.requires.0.joinable c.args.k c.if-k-lib.true) ∙ number-listed c.args.lib c.args.ids.now c.requires.0 c.args.k c.if-k-lib.true)

pub join-requires : goal.join-requires
join-requires c =
    let p = number-pairs c.args.lib c.args.ids.now c.requires.0 c.args.k (get_or c.args.ids.now (c.args.k - c.args.lib.n) 0) c.if-k-lib.false c.requires.1 refl in
    let i = c.from.ensures ∙ ap (λ (x : CellPair). x.inner.pins) c.pair_of-p.ensures in
    (omega (arith, ap (λ (x : CellPair). x.pin) c.pair_of-p.ensures), omega (arith, p.some, i), omega (arith, p.pin, p.five, i))

pub returns : goal.returns
returns c =
    let x = get_or c.args.ids.now (c.args.k - c.args.lib.n) 0 in
    c.join.ensures
    ∙ rw (c.from.ensures, c.pair_of-p.ensures)
    (delays_are (cells_of c.args.lib) x _ _ refl refl
    ∙ ap (λ (y : Cell). y.delays) (number-pair c.args.lib c.args.ids.now c.requires.0 c.args.k x c.if-k-lib.false c.requires.1 refl))
