-- `base_truth::first_table` meets its contract. The invariant: t has the rows from r on.
use Rattle.base.specs.{◌≡◌, Bool, ℕ}
use Rattle.model.specs.{value, pin_row}
use Rattle.base_truth.specs.{places_of}
use Rattle.base_truth.proofs.RowDescent.{rows_from}
use Rattle.base_truth.proofs.first_table.Given as goal

unfoldable pub cell : ℕ → ℕ → ℕ → ℕ → Bool
cell pins table order r = value table (pin_row pins (places_of order) 0 r)

abbrev pub invariant-loop-r : goal.invariant-loop-r
invariant-loop-r l = l.t ≡ rows_from 16 (cell l.pins l.table l.order) l.r
