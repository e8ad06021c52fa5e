-- `certificate_tables::gate` meets its contract. The invariant: t has the rows from r on.
use Rattle.base.specs.{◌≡◌}
use Rattle.base_truth.proofs.RowDescent.{rows_from}
use Rattle.certificate_tables.proofs.TableRows.{cell_row}
use Rattle.certificate_tables.proofs.gate.Given as goal

abbrev pub invariant-loop-r : goal.invariant-loop-r
invariant-loop-r l = l.t ≡ rows_from 16 (cell_row l.pins l.table l.ts) l.r
