-- `cells_reader::read_form` meets its contract: each return knows what the reads that led there found.
use Rattle.base.specs.{sym, ◌∙◌}
use Rattle.cells_reader.specs.{form_at}
use Rattle.cells_reader.proofs.read_form.Goals as goal

pub returns-in_err-name : goal.returns-in_err-name
unfolding form_at
returns-in_err-name c = c.from_residual.ensures ∙ rw (sym c.in_err-name.ensures)

pub returns-in_err-behind : goal.returns-in_err-behind
unfolding form_at
returns-in_err-behind c = c.from_residual-in_err-behind.ensures ∙ rw (sym c.in_ok-name.ensures, sym c.in_err-behind.ensures)

pub returns : goal.returns
unfolding form_at
returns c = rw (sym c.in_ok-name.ensures, sym c.in_ok-behind.ensures) c.read_figures.ensures
