-- `cells_reader::in_range` meets its contract, pin by pin.
use Rattle.base.specs.{sym, ◌∙◌, le-leb, lt-leb}
use Rattle.cells_reader.proofs.CellValidation.{range_is}
use Rattle.cells_reader.proofs.in_range.Goals as goal

pub returns-then-low-high-3 : goal.returns-then-low-high-3
returns-then-low-high-3 c =
    sym (range_is c.args.f ∙ rw (le-leb _ _ c.if-low-high.true, le-leb _ _ c.if-low-high-2.true, le-leb _ _ c.if-low-high-3.true))

pub returns-else-low-high-3 : goal.returns-else-low-high-3
returns-else-low-high-3 c =
    lt-leb _ _ c.if-low-high-3.false ∙ sym (range_is c.args.f ∙ rw (le-leb _ _ c.if-low-high.true, le-leb _ _ c.if-low-high-2.true, lt-leb _ _ c.if-low-high-3.false))

pub returns-else-low-high-2 : goal.returns-else-low-high-2
returns-else-low-high-2 c =
    lt-leb _ _ c.if-low-high-2.false ∙ sym (range_is c.args.f ∙ rw (le-leb _ _ c.if-low-high.true, lt-leb _ _ c.if-low-high-2.false))

pub returns-else-low-high : goal.returns-else-low-high
returns-else-low-high c = lt-leb _ _ c.if-low-high.false ∙ sym (range_is c.args.f ∙ rw (lt-leb _ _ c.if-low-high.false))
