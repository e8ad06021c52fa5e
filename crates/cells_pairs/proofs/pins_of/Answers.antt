-- `cells_pairs::pins_of` meets its contract: a listed cell's pins, or those of a pair's two cells.
use Rattle.base.specs.{refl, sym, ap, ◌∙◌, arith, ◌-◌, get_or}
use Rattle.model.specs.{cells_of}
use Rattle.model.specs.declared.Cell.{Cell}
use Rattle.cells_pairs.specs.declared.CellPair.{CellPair}
use Rattle.cells_pairs.proofs.PairJoins.{listed-is}
use Rattle.cells_pairs.proofs.PairCells.{number-listed, number-pairs, number-pair, pins_are}
use Rattle.cells_pairs.proofs.pins_of.Goals as goal

pub returns-then-k-lib : goal.returns-then-k-lib
unfolding cells_of
returns-then-k-lib c =
    ap (λ (x : Cell). x.pins) (sym (listed-is c.args.lib c.requires.0.joinable c.args.k c.if-k-lib.true) ∙ number-listed c.args.lib c.args.ids.now c.requires.0 c.args.k c.if-k-lib.true)

pub overflow_add-result : goal.overflow_add-result
overflow_add-result c =
    let p = number-pairs c.args.lib c.args.ids.now c.requires.0 c.args.k (get_or c.args.ids.now (c.args.k - c.args.lib.n) 0) c.if-k-lib.false c.requires.1 refl in
    omega (arith, p.five, p.some, ap (λ (x : CellPair). x.inner.pins) c.pair_of-p.ensures, ap (λ (x : CellPair). x.root.pins) c.pair_of-p.ensures)

pub overflow_sub-result : goal.overflow_sub-result
overflow_sub-result c =
    let p = number-pairs c.args.lib c.args.ids.now c.requires.0 c.args.k (get_or c.args.ids.now (c.args.k - c.args.lib.n) 0) c.if-k-lib.false c.requires.1 refl in
    omega (arith, p.five, p.some, ap (λ (x : CellPair). x.inner.pins) c.pair_of-p.ensures, ap (λ (x : CellPair). x.root.pins) c.pair_of-p.ensures)

pub returns : goal.returns
returns c =
    rw c.pair_of-p.ensures
    (pins_are (cells_of c.args.lib) (get_or c.args.ids.now (c.args.k - c.args.lib.n) 0) _ _ refl refl
    ∙ ap (λ (x : Cell). x.pins) (number-pair c.args.lib c.args.ids.now c.requires.0 c.args.k (get_or c.args.ids.now (c.args.k - c.args.lib.n) 0) c.if-k-lib.false c.requires.1 refl))
