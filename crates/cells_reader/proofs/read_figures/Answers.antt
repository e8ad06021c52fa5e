-- `cells_reader::read_figures` meets its contract: each return knows what the reads that led there found.
use Rattle.base.specs.{sym, ◌∙◌, le-leb, lt-leb}
use Rattle.cells_reader.specs.{figures_at}
use Rattle.cells_reader.proofs.read_figures.Goals as goal

pub returns-in_err-pins : goal.returns-in_err-pins
unfolding figures_at
returns-in_err-pins c = c.from_residual.ensures ∙ rw (sym c.in_err-pins.ensures)

pub returns-in_err-table : goal.returns-in_err-table
unfolding figures_at
returns-in_err-table c = c.from_residual-in_err-table.ensures ∙ rw (sym c.in_ok-pins.ensures, sym c.in_err-table.ensures)

pub returns-in_err-area : goal.returns-in_err-area
unfolding figures_at
returns-in_err-area c = c.from_residual-in_err-area.ensures ∙ rw (sym c.in_ok-pins.ensures, sym c.in_ok-table.ensures, sym c.in_err-area.ensures)

pub returns-in_err-delays : goal.returns-in_err-delays
unfolding figures_at
returns-in_err-delays c =
    c.from_residual-in_err-delays.ensures ∙ rw (sym c.in_ok-pins.ensures, sym c.in_ok-table.ensures, sym c.in_ok-area.ensures, sym c.in_err-delays.ensures)

pub returns-then-pins-gt4 : goal.returns-then-pins-gt4
unfolding figures_at
returns-then-pins-gt4 c =
    rw (sym c.in_ok-pins.ensures, sym c.in_ok-table.ensures, sym c.in_ok-area.ensures, sym c.in_ok-delays.ensures, lt-leb _ _ c.if-pins-gt4.true)

pub returns : goal.returns
unfolding figures_at
returns c =
    rw (sym c.in_ok-pins.ensures, sym c.in_ok-table.ensures, sym c.in_ok-area.ensures, sym c.in_ok-delays.ensures, le-leb _ _ c.if-pins-gt4.false)
