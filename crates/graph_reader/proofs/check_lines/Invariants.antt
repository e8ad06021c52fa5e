-- `graph_reader::check_lines` meets its contract. The invariant: what the lines from here on give is what all lines give.
use Rattle.graph_reader.proofs.LineValidation.{Left}
use Rattle.graph_reader.proofs.check_lines.Given as goal

abbrev pub invariant-loop-k : goal.invariant-loop-k
invariant-loop-k l = Left l.s l.h l.work l.k l.at
