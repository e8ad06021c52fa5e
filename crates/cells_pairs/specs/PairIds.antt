-- A pair of cells as a number of twelve bits: the root's line, the fed pin, the inner's line.
use Rattle.std.specs.Prelude.{◌+◌, ◌*◌, ◌/◌, ◌%◌, ◌<◌, ◌≤◌, ◌≡◌, ◌∷◌, ◌++◌}
use Rattle.base.specs.{ℕ, true, cond, List, [], map, length, get_or}
use Rattle.model.specs.{below, each, cell_at, cells_of, Pair, joins, cell_of_pair}
use Rattle.model.specs.declared.Cell.{Cell}
use Rattle.model.specs.declared.Library.{Library}
use Rattle.cells_pairs.specs.declared.CellPair.{CellPair}

abbrev pub id_of : ℕ → ℕ → ℕ → ℕ
id_of root pin inner = root * 128 + pin * 32 + inner

abbrev pub id_of_pair : Pair → ℕ
id_of_pair p = id_of p.root p.pin p.inner

-- the pair of a number
abbrev pub pair_of_id : ℕ → Pair
pair_of_id k = record { root = k / 128; pin = k / 32 % 4; inner = k % 32 }

-- the two cells of a number's pair, and the root's pin that is fed
abbrev pub pair_cells : List Cell → ℕ → CellPair
pair_cells cells k = record { root = cell_at cells (k / 128); pin = k / 32 % 4; inner = cell_at cells (k % 32) }

-- one pair's number, or none
unfoldable pub id_for : Cell → Cell → ℕ → List ℕ
unfolding joins
id_for root inner k = cond (joins root inner) (k ∷ []) []

-- those of a root and its fed pin, by the inner's lines
unfoldable pub inner_ids : List Cell → ℕ → ℕ → List ℕ → List ℕ
unfolding each id_for
inner_ids cells i p = each (λ (j : ℕ). id_for (cell_at cells i) (cell_at cells j) (id_of i p j))

-- of a root, by its pins
unfoldable pub pin_ids : List Cell → ℕ → List ℕ → List ℕ
unfolding each below inner_ids
pin_ids cells i = each (λ (p : ℕ). inner_ids cells i p (below (length cells)))

-- by the root's lines
unfoldable pub root_ids : List Cell → List ℕ → List ℕ
unfolding each below pin_ids
root_ids cells = each (λ (i : ℕ). pin_ids cells i (below (cell_at cells i).pins))

-- of all pairs
unfoldable pub pair_ids : List Cell → List ℕ
unfolding below root_ids
pair_ids cells = root_ids cells (below (length cells))

-- The first n cells are there, "Pins: 0 to 4".
pub record Joinable (l : Library) : Type 0 where
  pub whole : length (cells_of l) ≡ l.n
  pub few : l.n ≤ 32
  pub pins : (c : ℕ) → (cell_at (cells_of l) c).pins ≤ 4

-- The cells to map with: the listed ones and, behind them, those of the pairs' numbers.
unfoldable pub cells_by : List Cell → List ℕ → List Cell
unfolding cell_of_pair
cells_by cells ids = cells ++ map (λ (k : ℕ). cell_of_pair cells (pair_of_id k)) ids

-- The numbers are those of pairs of a library, at most 256 with its cells.
pub record Coded (l : Library) (ids : List ℕ) : Type 0 where
  pub joinable : Joinable l
  pub few : l.n + length ids ≤ 256
  pub root : (i : ℕ) → i < length ids → get_or ids i 0 / 128 < l.n
  pub inner : (i : ℕ) → i < length ids → get_or ids i 0 % 32 < l.n
  pub pin : (i : ℕ) → i < length ids → get_or ids i 0 / 32 % 4 < (cell_at (cells_of l) (get_or ids i 0 / 128)).pins
  pub joined : (i : ℕ) → i < length ids → joins (cell_at (cells_of l) (get_or ids i 0 / 128)) (cell_at (cells_of l) (get_or ids i 0 % 32)) ≡ true
