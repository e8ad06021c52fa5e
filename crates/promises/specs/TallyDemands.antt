-- What is promised of a tally and of its report, by the bytes of the netlists that were counted: apart from the definitions that count and that print. A cell's
-- gates are the gate lines that name it, its netlists those with such a line, and the report's bytes are read back, line by line and word by word.
use Rattle.std.specs.Prelude.{◌*◌, ◌<◌, ◌≡◌, ◌&&◌, ◌∷◌, ◌++◌, Ok, Err}
use Rattle.base.specs.{ℕ, suc, Bool, cond, Option, Some, List, [], map, eqb, ltb, length, get_or}
use Rattle.model.specs.{Verdict, same, and_then, only, keep, Line, ended_by_ten, text, parts, lines_from, fields, name_of, cell_at, figure, sum}
use Rattle.model.specs.declared.Cell.{Cell}
use Rattle.model.specs.declared.Tally.{Tally}
use Rattle.promises.specs.Sums.{GatesLine, figures_in, gates_sum, area_sum, Sums}

-- ---- the netlists' gate lines

-- "a gate line is `.gate`, the cell's name ..": a line that names the cell
unfoldable pub names_cell : List ℕ → List ℕ → Bool
unfolding same text fields
names_cell name l = same (text ".gate") (get_or (fields l) 0 []) && same name (get_or (fields l) 1 [])

-- how many of these lines do
unfoldable pub lines_naming : List ℕ → List (List ℕ) → ℕ
unfolding names_cell
lines_naming name [] = 0
lines_naming name (l ∷ ls) = let r = lines_naming name ls in cond (names_cell name l) (suc r) r

-- how many lines of a netlist do
unfoldable pub gates_naming : List ℕ → List ℕ → ℕ
unfolding lines_naming parts
gates_naming name netlist = lines_naming name (parts 10 netlist)

-- a cell's "gates", over all netlists
unfoldable pub gates_of : List (List ℕ) → Cell → ℕ
unfolding sum gates_naming name_of
gates_of ns c = sum (map (gates_naming (name_of c)) ns)

-- "in how many netlists it occurs": those with at least one such line
unfoldable pub occurs_in : List (List ℕ) → Cell → ℕ
unfolding keep gates_naming name_of
occurs_in ns c = length (keep (λ (n : List ℕ). ltb 0 (gates_naming (name_of c) n)) ns)

-- ---- the tally of these netlists

-- "its gates, their total area and in how many netlists it occurs", of each cell; the sums and the netlists counted
pub record Tallied (cells : List Cell) (ns : List (List ℕ)) (t : Tally) : Type 0 where
  pub gates_long : length t.gates ≡ 32
  pub areas_long : length t.areas ≡ 32
  pub occurs_long : length t.occurs ≡ 32
  pub gates : (i : ℕ) → i < length cells → get_or t.gates i 0 ≡ gates_of ns (cell_at cells i)
  pub areas : (i : ℕ) → i < length cells → get_or t.areas i 0 ≡ gates_of ns (cell_at cells i) * (cell_at cells i).area
  pub occurs : (i : ℕ) → i < length cells → get_or t.occurs i 0 ≡ occurs_in ns (cell_at cells i)
  pub sums : Sums cells ns t

-- the netlists counted after one more was given: "A refused netlist adds nothing."
unfoldable pub counted_with : Verdict → List ℕ → List (List ℕ) → List (List ℕ)
counted_with (Ok done) netlist ns = netlist ∷ ns
counted_with (Err r) netlist ns = ns

-- ---- the report, read back

-- a line of the report: a name, and three figures
pub record Row : Type 0 where
  pub name : List ℕ
  pub gates : ℕ
  pub area : ℕ
  pub netlists : ℕ

-- `inv 3 3 2`: four words, on a line that byte 10 ends
unfoldable pub read_row : Line → Option Row
unfolding and_then only fields figure
read_row l =
    and_then (only (ended_by_ten l && eqb (length (fields l.bytes)) 4) (fields l.bytes)) (λ ws.
    and_then (figure (get_or ws 1 [])) (λ gates.
    and_then (figure (get_or ws 2 [])) (λ area.
    and_then (figure (get_or ws 3 [])) (λ netlists. Some (record { name = get_or ws 0 []; gates = gates; area = area; netlists = netlists })))))

unfoldable pub read_rows : List Line → Option (List Row)
unfolding and_then read_row
read_rows [] = Some []
read_rows (l ∷ ls) = and_then (read_row l) (λ r. and_then (read_rows ls) (λ rs. Some (r ∷ rs)))

unfoldable pub read_report : List ℕ → Option (List Row)
unfolding read_rows lines_from
read_report bytes = read_rows (lines_from 0 [] bytes)

-- what a cell's line has to say
unfoldable pub cell_row : List (List ℕ) → Cell → Row
unfolding name_of gates_of occurs_in
cell_row ns c = record { name = name_of c; gates = gates_of ns c; area = gates_of ns c * c.area; netlists = occurs_in ns c }

-- and the last line
abbrev pub total_row : List GatesLine → ℕ → Row
total_row lines n = record { name = text "total"; gates = gates_sum lines; area = area_sum lines; netlists = n }

-- "Report a line per cell in library order .. then `total` with gates, area and netlists counted. Its gates and area equal the sums of the counted netlists'
-- `# gates` lines, and the sums over cells."
pub record ReadsBack (cells : List Cell) (ns : List (List ℕ)) (report : List ℕ) : Type 0 where
  pub lines : List GatesLine
  pub are_lines : map figures_in ns ≡ map Some lines
  pub rows : read_report report ≡ Some (map (cell_row ns) cells ++ (total_row lines (length ns) ∷ []))
  pub over_gates : sum (map (gates_of ns) cells) ≡ gates_sum lines
  pub over_areas : sum (map (λ (c : Cell). gates_of ns c * c.area) cells) ≡ area_sum lines
