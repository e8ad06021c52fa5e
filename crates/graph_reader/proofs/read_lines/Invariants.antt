-- `graph_reader::read_lines` meets its contract. The invariant: what the lines from here on give is what all lines give.
use Rattle.graph_reader.proofs.LineValidation.{Rest}
use Rattle.graph_reader.proofs.read_lines.Given as goal

abbrev pub invariant-loop-k : goal.invariant-loop-k
invariant-loop-k l = Rest l.s l.h l.initial.work l.k l.at l.work
