-- `graph_reader::read_three` meets its contract: each return knows what the reads that led there found.
use Rattle.base.specs.{sym, ◌∙◌}
use Rattle.graph_reader.specs.{three_at}
use Rattle.graph_reader.proofs.read_three.Goals as goal

pub returns-in_err-a : goal.returns-in_err-a
unfolding three_at
returns-in_err-a c = c.from_residual.ensures ∙ rw (sym c.in_err-a.ensures)

pub returns-in_err-b : goal.returns-in_err-b
unfolding three_at
returns-in_err-b c = c.from_residual-in_err-b.ensures ∙ rw (sym c.in_ok-a.ensures, sym c.in_err-b.ensures)

pub returns-in_err-d : goal.returns-in_err-d
unfolding three_at
returns-in_err-d c = c.from_residual-in_err-d.ensures ∙ rw (sym c.in_ok-a.ensures, sym c.in_ok-b.ensures, sym c.in_err-d.ensures)

pub returns : goal.returns
unfolding three_at
returns c = rw (sym c.in_ok-a.ensures, sym c.in_ok-b.ensures, sym c.in_ok-d.ensures)
