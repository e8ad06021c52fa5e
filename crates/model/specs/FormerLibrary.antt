-- The cell library's text by document 01 alone, before N10's ranges: one names line, eight fields a line, 2 to 6. What stands in a cell for its lowest
-- delays are its delays.
use Rattle.std.specs.Prelude.{◌^◌, ◌&&◌, ◌∷◌}
use Rattle.base.specs.{ℕ, suc, Bool, not, Option, List, [], eqb, leb, ltb, length, get_or, drop}
use Rattle.model.specs.Base.{all, any, same, and_then, only}
use Rattle.model.specs.Text.{Line, ended, text, lines_from, fields, numbers, hex_table, is_name}
use Rattle.model.specs.ReadResult.{Read, holds, fault, next, unless, from?}
use Rattle.model.specs.Cells.{name_of}
use Rattle.model.specs.LibraryText.{name_bytes}
use Rattle.model.specs.declared.Cell.{Cell}

-- "cell pins table area d0 d1 d2 d3"
unfoldable pub former_fields : List (List ℕ) → Option Cell
unfolding and_then only numbers hex_table is_name name_bytes
former_fields ws =
    and_then (only (eqb (length ws) 8 && is_name (get_or ws 0 [])) ws) (λ _.
    and_then (numbers (get_or ws 1 [] ∷ drop 3 ws)) (λ ns.
    and_then (hex_table (get_or ws 2 [])) (λ table.
    only (leb (get_or ns 0 0) 4)
    (record { name = name_bytes (get_or ws 0 []); len = length (get_or ws 0 []); pins = get_or ns 0 0; table = table; area = get_or ns 1 0; delays = drop 2 ns; mins = drop 2 ns }))))

unfoldable pub former_line : Line → Option Cell
unfolding and_then only former_fields fields
former_line l = and_then (only (ended l) (fields l.bytes)) former_fields

-- "A table bit at or above row 2^pins, or the delay of an absent pin, isn't 0."
unfoldable pub former_clean : Cell → Bool
unfolding all
former_clean c = ltb c.table (2 ^ 2 ^ c.pins) && all (eqb 0) (drop c.pins c.delays)

-- "Items 3 to 6 are tried line by line"
unfoldable pub former_cells : ℕ → List Cell → List Line → Read (List Cell)
unfolding next unless from? former_line former_clean any same name_of
former_cells k before [] = holds []
former_cells k before (l ∷ ls) =
    unless (ltb k 32) 3 l.offset
    (next (from? (former_line l) 4 l.offset) (λ c.
    unless (not (any (λ (d : Cell). same (name_of c) (name_of d)) before)) 5 l.offset
    (unless (former_clean c) 6 l.offset
    (next (former_cells (suc k) (c ∷ before) ls) (λ cs. holds (c ∷ cs))))))

-- "The library's first line isn't the names line; place 0."
unfoldable pub former_lines : List Line → Read (List Cell)
unfolding unless same text former_cells
former_lines [] = fault 2 0
former_lines (l ∷ ls) = unless (ended l && same l.bytes (text "cell pins table area d0 d1 d2 d3")) 2 0 (former_cells 0 [] ls)

unfoldable pub former_library : List ℕ → Read (List Cell)
unfolding former_lines lines_from
former_library bytes = former_lines (lines_from 0 [] bytes)
