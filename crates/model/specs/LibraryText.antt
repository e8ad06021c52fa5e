-- The cell library's text, read: its cells, or the first refusal of 2 to 6 and 27 with its place.
use Rattle.std.specs.Prelude.{◌-◌, ◌^◌, ◌&&◌, ◌||◌, ◌∷◌, ◌++◌}
use Rattle.base.specs.{ℕ, suc, Bool, true, false, not, cond, Option, List, [], eqb, leb, ltb, length, get_or}
use Rattle.base.specs.{take, drop, replicate}
use Rattle.model.specs.Base.{all, any, same, and_then, only}
use Rattle.model.specs.Text.{Line, ended, text, lines_from, fields, numbers, hex_table, is_name}
use Rattle.model.specs.ReadResult.{Read, holds, fault, next, unless, from?}
use Rattle.model.specs.Cells.{name_of}
use Rattle.model.specs.declared.Cell.{Cell}

-- a name in eight bytes, zeros behind it
unfoldable pub name_bytes : List ℕ → List ℕ
name_bytes w = w ++ replicate (8 - length w) 0

-- the cell of a line's eight fields, or of twelve under the longer names line. Under the shorter one a pin's lowest delay is its delay
unfoldable pub cell_of_fields : Bool → List (List ℕ) → Option Cell
unfolding and_then only numbers hex_table is_name name_bytes
cell_of_fields ranged ws =
    and_then (only (eqb (length ws) (cond ranged 12 8) && is_name (get_or ws 0 [])) ws) (λ _.
    and_then (numbers (get_or ws 1 [] ∷ drop 3 ws)) (λ ns.
    and_then (hex_table (get_or ws 2 [])) (λ table.
    only (leb (get_or ns 0 0) 4)
    (record {
      name = name_bytes (get_or ws 0 []);
      len = length (get_or ws 0 []);
      pins = get_or ns 0 0;
      table = table;
      area = get_or ns 1 0;
      delays = take 4 (drop 2 ns);
      mins = drop (cond ranged 6 2) ns;
    }))))

-- "Accept either ending, line by line": a line without its end is no cell's
unfoldable pub cell_of_line : Bool → Line → Option Cell
unfolding and_then only cell_of_fields fields
cell_of_line ranged l = and_then (only (ended l) (fields l.bytes)) (cell_of_fields ranged)

-- no "table bit at or above row 2^pins", and no "delay of an absent pin" that "isn't 0": "An absent pin has lowest delay 0, else 6 applies."
unfoldable pub is_clean : Cell → Bool
unfolding all
is_clean c = ltb c.table (2 ^ 2 ^ c.pins) && (all (eqb 0) (drop c.pins c.delays) && all (eqb 0) (drop c.pins c.mins))

-- no "lowest delay exceeds its `d`"
unfoldable pub no_lower : List ℕ → List ℕ → Bool
no_lower [] ds = true
no_lower (l ∷ ls) [] = false
no_lower (l ∷ ls) (d ∷ ds) = let r = no_lower ls ds in leb l d && r

-- the cell lines, of which k went before: "Items 3 to 6 are tried line by line", and 27 "after 6 on its line"; `before` are the cells so far, the last
-- first
unfoldable pub read_cells : Bool → ℕ → List Cell → List Line → Read (List Cell)
unfolding next unless from? cell_of_line is_clean no_lower any same name_of
read_cells ranged k before [] = holds []
read_cells ranged k before (l ∷ ls) =
    unless (ltb k 32) 3 l.offset
    (next (from? (cell_of_line ranged l) 4 l.offset) (λ c.
    unless (not (any (λ (d : Cell). same (name_of c) (name_of d)) before)) 5 l.offset
    (unless (is_clean c) 6 l.offset
    (unless (no_lower c.mins c.delays) 27 l.offset
    (next (read_cells ranged (suc k) (c ∷ before) ls) (λ cs. holds (c ∷ cs)))))))

-- document 01's names line
unfoldable pub is_shorter : Line → Bool
unfolding same text
is_shorter l = same l.bytes (text "cell pins table area d0 d1 d2 d3")

-- "`l0` to `l3` after `d3` in its names line"
unfoldable pub is_longer : Line → Bool
unfolding same text
is_longer l = same l.bytes (text "cell pins table area d0 d1 d2 d3 l0 l1 l2 l3")

-- "The library's first line isn't the names line; place 0": "2 takes either names line"
unfoldable pub read_library_lines : List Line → Read (List Cell)
unfolding unless is_shorter is_longer read_cells
read_library_lines [] = fault 2 0
read_library_lines (l ∷ ls) = unless (ended l && (is_shorter l || is_longer l)) 2 0 (read_cells (is_longer l) 0 [] ls)

-- "A new library text has `l0` to `l3`": whether this one has
unfoldable pub ranged_lines : List Line → Bool
unfolding is_longer
ranged_lines [] = false
ranged_lines (l ∷ ls) = is_longer l

unfoldable pub is_ranged : List ℕ → Bool
unfolding ranged_lines lines_from
is_ranged bytes = ranged_lines (lines_from 0 [] bytes)

-- the cells of a library's text
unfoldable pub read_library : List ℕ → Read (List Cell)
unfolding read_library_lines lines_from
read_library bytes = read_library_lines (lines_from 0 [] bytes)
