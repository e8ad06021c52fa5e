-- `cells_matching::inverter_of` meets its contract. The invariant: with the cells from a line on, the best so far leads to the answer.
use Rattle.base.specs.{◌≡◌, drop}
use Rattle.cells_matching.specs.{inverter_from, inverter_of}
use Rattle.cells_matching.proofs.inverter_of.Given as goal

abbrev pub invariant-loop-line : goal.invariant-loop-line
invariant-loop-line l = inverter_from l.best (drop l.line l.c-items) l.line ≡ inverter_of l.c-items
