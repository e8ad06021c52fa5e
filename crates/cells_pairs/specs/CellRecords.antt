-- The listed cells, and the numbers of the pairs, as bytes.
use Rattle.std.specs.Prelude.{◌+◌, ◌-◌, ◌*◌, ◌/◌, ◌%◌, ◌∷◌, ◌++◌}
use Rattle.base.specs.{ℕ, List, [], length, get_or, drop, replicate}
use Rattle.model.specs.{each, name_of}
use Rattle.model.specs.declared.Cell.{Cell}

-- the eight bytes of a name
unfoldable pub name_from : List ℕ → List ℕ
name_from bs = get_or bs 0 0 ∷ get_or bs 1 0 ∷ get_or bs 2 0 ∷ get_or bs 3 0 ∷ get_or bs 4 0 ∷ get_or bs 5 0 ∷ get_or bs 6 0 ∷ get_or bs 7 0 ∷ []

-- a cell's bytes: those of its name, how many of them are the name, the pins, the area with its low byte first
unfoldable pub cell_bytes : Cell → List ℕ
unfolding name_from name_of
cell_bytes c = name_from c.name ++ (length (name_of c) ∷ c.pins ∷ c.area % 256 ∷ c.area / 256 ∷ [])

-- the cell of twelve bytes, without its table and delays
unfoldable pub cell_from : List ℕ → Cell
unfolding name_from
cell_from bs = record {
  name = name_from bs;
  len = get_or bs 8 0;
  pins = get_or bs 9 0;
  table = 0;
  area = get_or bs 10 0 + 256 * get_or bs 11 0;
  delays = replicate 4 0;
  mins = replicate 4 0;
}

-- a pair's number, the low byte first
abbrev pub id_bytes : ℕ → List ℕ
id_bytes k = k % 256 ∷ k / 256 ∷ []

-- how many cells there are, and each
abbrev pub listed_bytes : List Cell → List ℕ
listed_bytes cells = length cells ∷ each cell_bytes cells

-- a list of cell records: the listed cells, and behind them the numbers of the pairs
abbrev pub cell_records_of : List Cell → List ℕ → List ℕ
cell_records_of cells ids = listed_bytes cells ++ each id_bytes ids

-- how many cells are listed
abbrev pub count_in : List ℕ → ℕ
count_in records = get_or records 0 0

-- the cell at a line
abbrev pub line_cell : List ℕ → ℕ → Cell
line_cell records k = cell_from (drop (1 + 12 * k) records)

-- where the pair's number of a cell's number stands, and the number
abbrev pub id_place : List ℕ → ℕ → ℕ
id_place records k = 1 + 12 * count_in records + 2 * (k - count_in records)

abbrev pub id_in : List ℕ → ℕ → ℕ
id_in records k = get_or records (id_place records k) 0 + 256 * get_or records (id_place records k + 1) 0
