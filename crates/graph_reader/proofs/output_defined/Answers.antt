-- `graph_reader::output_defined` meets its contract.
use Rattle.base.specs.{sym, le-leb, lt-leb}
use Rattle.graph_reader.specs.{output_defined}
use Rattle.graph_reader.proofs.output_defined.Goals as goal

pub returns-then-l-h : goal.returns-then-l-h
unfolding output_defined
returns-then-l-h c = rw (sym c.output-l.ensures, le-leb _ _ c.if-l-h.true) c.is_defined.ensures

pub returns-else-l-h : goal.returns-else-l-h
unfolding output_defined
returns-else-l-h c = rw (sym c.output-l.ensures, lt-leb _ _ c.if-l-h.false)
