-- `net_timing::min_delay_table` meets its contract. The invariant: the numbers before the k-th have their cells' lowest delays.
use Rattle.base.specs.{◌≡◌, ℕ, ◌+◌, ◌*◌, ◌<◌, get_or}
use Rattle.model.specs.{cell_at, cells_of}
use Rattle.cells_pairs.specs.{cells_by}
use Rattle.net_timing.proofs.min_delay_table.Given as goal

abbrev pub invariant-loop-k : goal.invariant-loop-k
invariant-loop-k l = ((c j : ℕ) → c < l.k → j < 4 → get_or l.mins (4 * c + j) 0 ≡ get_or (cell_at (cells_by (cells_of l.lib) l.ids) c).mins j 0)
