-- `cells_reader::validate_figures` meets its contract: each return knows the tests that led there.
use Rattle.base.specs.{sym, ◌∙◌}
use Rattle.cells_reader.specs.{figures_validated}
use Rattle.cells_reader.proofs.validate_figures.Goals as goal

pub returns-then-not-in_range : goal.returns-then-not-in_range
unfolding figures_validated
returns-then-not-in_range c = rw (sym c.is_clean.ensures ∙ c.if-not-is_clean.false, sym c.in_range.ensures ∙ c.if-not-in_range.true)

pub returns : goal.returns
unfolding figures_validated
returns c = rw (sym c.is_clean.ensures ∙ c.if-not-is_clean.false, sym c.in_range.ensures ∙ c.if-not-in_range.false)

pub returns-then-not-is_clean : goal.returns-then-not-is_clean
unfolding figures_validated
returns-then-not-is_clean c = rw (sym c.is_clean.ensures ∙ c.if-not-is_clean.true)
