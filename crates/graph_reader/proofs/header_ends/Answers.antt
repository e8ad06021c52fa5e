-- `graph_reader::header_ends` meets its contract: the first line's end is of one byte.
use Rattle.base.specs.{sym, ap, ◌∙◌}
use Rattle.graph_reader.specs.{header_ends}
use Rattle.graph_reader.proofs.HeaderReading.{first-from, first-ten, either_end}
use Rattle.graph_reader.proofs.header_ends.Goals as goal

pub returns-then-binary : goal.returns-then-binary
returns-then-binary c = first-ten _ _ c.line-first.ensures ∙ ap (header_ends _) (sym c.if-binary.true)

pub overflow_sub-result : goal.overflow_sub-result
overflow_sub-result c = first-from _ _ c.line-first.ensures

pub returns-else-binary : goal.returns-else-binary
returns-else-binary c = sym (ap (header_ends _) c.if-binary.false ∙ either_end _)
