-- `graph_reader::in_sequence` meets its contract.
use Rattle.model.specs.{in_sequence}
use Rattle.graph_reader.proofs.in_sequence.Goals as goal

pub returns-then-not-h : goal.returns-then-not-h
unfolding in_sequence
returns-then-not-h c = rw (c.if-not-h.true)

pub returns-else-not-h : goal.returns-else-not-h
unfolding in_sequence
returns-else-not-h c = rw (c.if-not-h.false)
