-- A cell line, an order and a mask as one number, in 01's order: "cell line, order number, mask, lowest first".
use Rattle.std.specs.Prelude.{◌*◌, ◌/◌, ◌%◌, ◌^◌, ◌≤◌, ◌<◌, ◌≡◌, ◌&&◌}
use Rattle.base.specs.{ℕ, zero, suc, Bool, List, eqb, ltb, length, get_or}
use Rattle.model.specs.{keep, below, cell_at, cells_of, places_fit}
use Rattle.model.specs.declared.Cell.{Cell}
use Rattle.model.specs.declared.Library.{Library}
use Rattle.model.specs.declared.Match.{Match}
use Rattle.base_truth.specs.{places_of, variant_table}

-- ---- a variant's number

-- the cell's line, from 0
abbrev pub line_of : ℕ → ℕ
line_of x = x / 384

abbrev pub order_of : ℕ → ℕ
order_of x = x / 16 % 24

abbrev pub mask_of : ℕ → ℕ
mask_of x = x % 16

-- the match on cut number k that a variant's number means
unfoldable pub match_of : ℕ → ℕ → Match
match_of k x = record { cut = k; cell = line_of x; order = order_of x; mask = mask_of x }

-- ---- what is asked of a library, and of the cells to map with

-- The first n cells are there, "Pins: 0 to 4", "Area and pin delays are decimal, 0 to 65,535".
pub record LibraryInBounds (l : Library) : Type 0 where
  pub whole : length (cells_of l) ≡ l.n
  pub few : l.n ≤ 32
  pub pins : (c : ℕ) → (cell_at (cells_of l) c).pins ≤ 4
  pub delays : (c j : ℕ) → get_or (cell_at (cells_of l) c).delays j 0 < 65536

-- "30 when cells and pairs exceed 256"; a pair has at most four pins, and its delays are the sums of two.
pub record Matchable (cells : List Cell) : Type 0 where
  pub few : length cells ≤ 256
  pub pins : (c : ℕ) → (cell_at cells c).pins ≤ 4
  pub delays : (c j : ℕ) → get_or (cell_at cells c).delays j 0 < 131072

-- ---- the variants of a table

-- "a phase mask (no bit at or above m)"
unfoldable pub is_variant : List Cell → ℕ → Bool
unfolding cell_at
is_variant cells x = ltb (mask_of x) (2 ^ (cell_at cells (line_of x)).pins)

-- the table of a variant
unfoldable pub table_at : List Cell → ℕ → ℕ
unfolding cell_at variant_table
table_at cells x =
    variant_table (cell_at cells (line_of x)).pins (cell_at cells (line_of x)).table (places_of (order_of x)) (mask_of x)

unfoldable pub has_table : List Cell → ℕ → ℕ → Bool
unfolding is_variant table_at
has_table cells t x = is_variant cells x && eqb t (table_at cells x)

-- the variants whose table is t, lowest first
unfoldable pub variants : List Cell → ℕ → List ℕ
unfolding keep below has_table
variants cells t = keep (has_table cells t) (below (384 * length cells))

-- ---- those that are tried

-- "The 24 orders of places 0 to 3 stand in lexicographic order": so those that give a cell's pins the same places stand side by side, as many as the places
-- that are left have orders
unfoldable pub run_of : ℕ → ℕ
run_of zero = 24
run_of (suc zero) = 6
run_of (suc (suc zero)) = 2
run_of (suc (suc (suc pins))) = 1

-- the first of each run is enough: the others have its table and its arrival, and come later
unfoldable pub fresh : ℕ → ℕ → Bool
unfolding run_of
fresh pins x = ltb (mask_of x) (2 ^ pins) && eqb (order_of x % run_of pins) 0

unfoldable pub is_fresh : List Cell → ℕ → Bool
unfolding cell_at fresh
is_fresh cells x = fresh (cell_at cells (line_of x)).pins x

unfoldable pub fresh_with : List Cell → ℕ → ℕ → Bool
unfolding is_fresh table_at
fresh_with cells t x = is_fresh cells x && eqb t (table_at cells x)

-- those of the table t, lowest first
unfoldable pub fresh_ones : List Cell → ℕ → List ℕ
unfolding keep below fresh_with
fresh_ones cells t = keep (fresh_with cells t) (below (384 * length cells))

-- "pin j's place is below the number of leaves for each j < m", of variant x
unfoldable pub places_at : List Cell → ℕ → ℕ → Bool
unfolding places_fit cell_at
places_at cells leaves x = places_fit (cell_at cells (line_of x)) (places_of (order_of x)) leaves
