-- `graph_reader::header_form` meets its contract: each return knows what the reads that led there found.
use Rattle.base.specs.{sym, ◌∙◌}
use Rattle.graph_reader.specs.{form_at}
use Rattle.graph_reader.proofs.header_form.Goals as goal

pub returns-in_err-binary : goal.returns-in_err-binary
unfolding form_at
returns-in_err-binary c = c.from_residual.ensures ∙ rw (sym c.in_err-binary.ensures)

pub returns-then-not-header_ends : goal.returns-then-not-header_ends
unfolding form_at
returns-then-not-header_ends c = rw (sym c.in_ok-binary.ensures, sym c.header_ends.ensures ∙ c.if-not-header_ends.true)

pub returns : goal.returns
unfolding form_at
returns c = rw (sym c.in_ok-binary.ensures, sym c.header_ends.ensures ∙ c.if-not-header_ends.false) c.header_numbers.ensures
