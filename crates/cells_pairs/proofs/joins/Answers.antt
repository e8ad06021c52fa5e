-- `cells_pairs::joins` meets its contract, by its two tests.
use Rattle.base.specs.{◌∙◌, lt-leb}
use Rattle.cells_pairs.proofs.PairJoins.{joins_pinless, joins_pinned}
use Rattle.cells_pairs.proofs.joins.Goals as goal

pub returns-then-inner-ge1 : goal.returns-then-inner-ge1
returns-then-inner-ge1 c = joins_pinned _ _ c.if-inner-ge1.true

pub returns-else-inner-ge1 : goal.returns-else-inner-ge1
returns-else-inner-ge1 c = lt-leb _ _ c.if-inner-ge1.false ∙ joins_pinless _ _ c.if-inner-ge1.false
