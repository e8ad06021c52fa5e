-- `graph_reader::header_numbers` meets its contract: each return knows what the reads that led there found.
use Rattle.base.specs.{sym, ◌∙◌}
use Rattle.graph_reader.specs.{numbers_form}
use Rattle.graph_reader.proofs.header_numbers.Goals as goal

pub returns-in_err-size : goal.returns-in_err-size
unfolding numbers_form
returns-in_err-size c = c.from_residual.ensures ∙ rw (sym c.in_err-size.ensures)

pub returns-in_err-inputs : goal.returns-in_err-inputs
unfolding numbers_form
returns-in_err-inputs c = c.from_residual-in_err-inputs.ensures ∙ rw (sym c.in_ok-size.ensures, sym c.in_err-inputs.ensures)

pub returns-in_err-latches : goal.returns-in_err-latches
unfolding numbers_form
returns-in_err-latches c = c.from_residual-in_err-latches.ensures ∙ rw (sym c.in_ok-size.ensures, sym c.in_ok-inputs.ensures, sym c.in_err-latches.ensures)

pub returns : goal.returns
unfolding numbers_form
returns c = rw (sym c.in_ok-size.ensures, sym c.in_ok-inputs.ensures, sym c.in_ok-latches.ensures, c.from.ensures, c.from-2.ensures, c.from-3.ensures, c.from-4.ensures, c.from-5.ensures)
