-- `cover_choice::pin_counts` meets its contract. The invariant: the numbers before the k-th have their cells' pins.
use Rattle.base.specs.{◌≡◌, ℕ, ◌<◌, length, get_or}
use Rattle.model.specs.{cell_at, cells_of}
use Rattle.cells_pairs.specs.{cells_by}
use Rattle.cover_choice.proofs.pin_counts.Given as goal

abbrev pub invariant-loop-k : goal.invariant-loop-k
invariant-loop-k l = (length l.pins ≡ 256) × ((j : ℕ) → j < l.k → get_or l.pins j 0 ≡ (cell_at (cells_by (cells_of l.lib) l.ids) j).pins)
