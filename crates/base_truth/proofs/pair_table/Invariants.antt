-- `base_truth::pair_table` meets its contract. The invariant: t has the rows from r on.
use Rattle.base.specs.{◌≡◌, Bool, map, ℕ, ◌+◌, ◌-◌, ◌^◌}
use Rattle.model.specs.{bit, below, pair_pins, pair_value}
use Rattle.model.specs.declared.Cell.{Cell}
use Rattle.base_truth.proofs.RowDescent.{rows_from}
use Rattle.base_truth.proofs.pair_table.Given as goal

-- the pair's value in a row
unfoldable pub at_row : Cell → ℕ → Cell → ℕ → Bool
at_row root pin inner r = pair_value root pin inner (map (bit r) (below (pair_pins root inner)))

unfoldable pub rows : Cell → Cell → ℕ
rows root inner = 2 ^ (root.pins + inner.pins - 1)

abbrev pub invariant-loop-r : goal.invariant-loop-r
invariant-loop-r l = l.t ≡ rows_from (rows l.root l.inner) (at_row l.root l.pin l.inner) l.r
