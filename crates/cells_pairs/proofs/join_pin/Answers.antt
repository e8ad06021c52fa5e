-- `cells_pairs::join_pin` meets its contract: before the inner's pins, among them, and after them.
use Rattle.base.specs.{◌∙◌}
use Rattle.cells_pairs.proofs.PairCells.{join-before, join-inner, join-after}
use Rattle.cells_pairs.proofs.join_pin.Goals as goal

pub returns-then-j-pin : goal.returns-then-j-pin
returns-then-j-pin c =
    let a = c.args in
    c.from.ensures ∙ join-before a.pin a.n a.ds a.es c.requires.0 c.requires.1 c.requires.2 c.well_formed.1.1.0.1.0.1 c.well_formed.1.1.1.0.1.0.1 a.j c.requires.3 c.if-j-pin.true

pub returns-then-j-pin-2 : goal.returns-then-j-pin-2
returns-then-j-pin-2 c =
    let a = c.args in
    rw (c.from-then-j-pin-2.ensures, c.from-then-j-pin-2-2.ensures)
    (join-inner a.pin a.n a.ds a.es c.requires.0 c.requires.1 c.requires.2 c.well_formed.1.1.0.1.0.1 c.well_formed.1.1.1.0.1.0.1 a.j c.requires.3 c.if-j-pin.false c.if-j-pin-2.true)

pub returns : goal.returns
returns c =
    let a = c.args in
    c.from-2.ensures ∙ join-after a.pin a.n a.ds a.es c.requires.0 c.requires.1 c.requires.2 c.well_formed.1.1.0.1.0.1 c.well_formed.1.1.1.0.1.0.1 a.j c.requires.3 c.if-j-pin-2.false
