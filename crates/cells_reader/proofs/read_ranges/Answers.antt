-- `cells_reader::read_ranges` meets its contract: each return knows what the reads that led there found.
use Rattle.base.specs.{sym, ◌∙◌}
use Rattle.cells_reader.specs.{ranges_at}
use Rattle.cells_reader.proofs.read_ranges.Goals as goal

pub returns-in_err-delays : goal.returns-in_err-delays
unfolding ranges_at
returns-in_err-delays c = c.from_residual.ensures ∙ rw (sym c.in_err-delays.ensures)

pub returns-then-not-ranged : goal.returns-then-not-ranged
unfolding ranges_at
returns-then-not-ranged c = rw (sym c.in_ok-delays.ensures, c.if-not-ranged.true)

pub returns-in_err-mins : goal.returns-in_err-mins
unfolding ranges_at
returns-in_err-mins c = c.from_residual-in_err-mins.ensures ∙ rw (sym c.in_ok-delays.ensures, c.if-not-ranged.false, sym c.in_err-mins.ensures)

pub returns : goal.returns
unfolding ranges_at
returns c = rw (sym c.in_ok-delays.ensures, c.if-not-ranged.false, sym c.in_ok-mins.ensures)
