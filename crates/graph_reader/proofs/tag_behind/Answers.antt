-- `graph_reader::tag_behind` meets its contract: each return knows what the reads that led there found.
use Rattle.base.specs.{sym, ◌∙◌}
use Rattle.graph_reader.specs.{tag_behind}
use Rattle.graph_reader.proofs.tag_behind.Goals as goal

pub returns-in_err-d : goal.returns-in_err-d
unfolding tag_behind
returns-in_err-d c = c.from_residual.ensures ∙ rw (sym c.in_err-d.ensures)

pub returns : goal.returns
unfolding tag_behind
returns c = rw (sym c.in_ok-d.ensures)
