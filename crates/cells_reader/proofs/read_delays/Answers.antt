-- `cells_reader::read_delays` meets its contract: each return knows what the reads that led there found.
use Rattle.base.specs.{sym, ◌∙◌}
use Rattle.cells_reader.specs.{delays_at}
use Rattle.cells_reader.proofs.read_delays.Goals as goal

pub returns-in_err-d0 : goal.returns-in_err-d0
unfolding delays_at
returns-in_err-d0 c = c.from_residual.ensures ∙ rw (sym c.in_err-d0.ensures)

pub returns-in_err-d1 : goal.returns-in_err-d1
unfolding delays_at
returns-in_err-d1 c = c.from_residual-in_err-d1.ensures ∙ rw (sym c.in_ok-d0.ensures, sym c.in_err-d1.ensures)

pub returns-in_err-d2 : goal.returns-in_err-d2
unfolding delays_at
returns-in_err-d2 c = c.from_residual-in_err-d2.ensures ∙ rw (sym c.in_ok-d0.ensures, sym c.in_ok-d1.ensures, sym c.in_err-d2.ensures)

pub returns-in_err-d3 : goal.returns-in_err-d3
unfolding delays_at
returns-in_err-d3 c = c.from_residual-in_err-d3.ensures ∙ rw (sym c.in_ok-d0.ensures, sym c.in_ok-d1.ensures, sym c.in_ok-d2.ensures, sym c.in_err-d3.ensures)

pub returns : goal.returns
unfolding delays_at
returns c = rw (sym c.in_ok-d0.ensures, sym c.in_ok-d1.ensures, sym c.in_ok-d2.ensures, sym c.in_ok-d3.ensures)
