-- `graph_arrivals::read_line` meets its contract: each return knows what the reads that led there found.
use Rattle.base.specs.{sym, ◌∙◌}
use Rattle.graph_arrivals.specs.{entry_at}
use Rattle.graph_arrivals.proofs.read_line.Goals as goal

pub returns-in_err-index : goal.returns-in_err-index
unfolding entry_at
returns-in_err-index c = c.from_residual.ensures ∙ rw (sym c.in_err-index.ensures)

pub returns-in_err-time : goal.returns-in_err-time
unfolding entry_at
returns-in_err-time c = c.from_residual-in_err-time.ensures ∙ rw (sym c.in_ok-index.ensures, sym c.in_err-time.ensures)

pub returns : goal.returns
unfolding entry_at
returns c = rw (sym c.in_ok-index.ensures, sym c.in_ok-time.ensures)
