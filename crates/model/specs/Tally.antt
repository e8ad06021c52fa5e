-- Netlists of one library counted into a tally, and its report: "a line per cell in library order, as `inv 3 3 2`: its gates, their total area and in how many
-- netlists it occurs; then `total` with gates, area and netlists counted".
use Rattle.std.specs.Prelude.{◌+◌, ◌-◌, ◌*◌, ◌^◌, ◌&&◌, ◌∷◌, ◌++◌}
use Rattle.base.specs.{ℕ, suc, Bool, cond, Option, None, Some, List, [], map, eqb, leb, ltb, length}
use Rattle.base.specs.{take, get_or, replicate}
use Rattle.model.specs.Base.{one, all, each, same, below}
use Rattle.model.specs.Text.{Line, ended_by_ten, text, decimal, lines_from, fields}
use Rattle.model.specs.ReadResult.{Read, holds, fault, next, unless}
use Rattle.model.specs.Cells.{name_of, cell_at}
use Rattle.model.specs.LibraryText.{read_library, is_ranged}
use Rattle.model.specs.Netlist.{sum}
use Rattle.model.specs.NetlistLines.{is_name_list, gate_of, is_wire, is_figures, is_timing}
use Rattle.model.specs.declared.Cell.{Cell}
use Rattle.model.specs.declared.Tally.{Tally}

-- ---- the tally

-- "from an empty one"
unfoldable pub empty_tally : Tally
empty_tally = record { gates = replicate 32 0; areas = replicate 32 0; occurs = replicate 32 0; netlists = 0 }

-- no "tally figure exceeds 2^40"
unfoldable pub in_width : Tally → Bool
unfolding all
in_width t =
    all (λ (n : ℕ). leb n (2 ^ 40)) t.gates
    && (all (λ (n : ℕ). leb n (2 ^ 40)) t.areas && (all (λ (n : ℕ). leb n (2 ^ 40)) t.occurs && leb t.netlists (2 ^ 40)))

-- ---- the netlist, 29

-- lines expected one after the other, and those behind them; a missing line's place is the text's length, `end`
unfoldable pub expected_lines : ℕ → List (List ℕ → Bool) → List Line → Read (List Line)
unfolding unless
expected_lines end [] ls = holds ls
expected_lines end (p ∷ ps) [] = fault 29 end
expected_lines end (p ∷ ps) (l ∷ ls) = let r = expected_lines end ps ls in unless (ended_by_ten l && p l.bytes) 29 l.offset r

-- a line too many
unfoldable pub nothing_left : List Line → Read (List Line)
nothing_left [] = holds []
nothing_left (l ∷ ls) = fault 29 l.offset

-- the listed cell that a line is a gate of, if it is one
unfoldable pub gate_in : List Cell → Line → Option ℕ
unfolding gate_of
gate_in cells l = cond (ended_by_ten l) (gate_of 0 cells l.bytes) None

-- the cells of the gate lines that come first, and the lines behind these
unfoldable pub gates_in : List Cell → List Line → List ℕ
unfolding gate_in
gates_in cells [] = []
gates_in cells (l ∷ ls) = elim (gate_in cells l) [ Some i ↦ i ∷ gates_in cells ls | None ↦ [] ]

unfoldable pub after_gates : List Cell → List Line → List Line
unfolding gate_in
after_gates cells [] = []
after_gates cells (l ∷ ls) = elim (gate_in cells l) [ Some i ↦ after_gates cells ls | None ↦ l ∷ ls ]

-- the area of gates
unfoldable pub area_of : List Cell → List ℕ → ℕ
unfolding sum cell_at
area_of cells used = sum (map (λ (i : ℕ). (cell_at cells i).area) used)

-- the first three lines
-- document 01: "frame"
unfoldable pub preamble : List (List ℕ → Bool)
unfolding same text is_name_list
preamble = same (text ".model top") ∷ is_name_list (text ".inputs") 112 ∷ is_name_list (text ".outputs") 111 ∷ []

-- `.names` and `1 1` for so many outputs
unfoldable pub wire_pairs : ℕ → List (List ℕ → Bool)
unfolding each below is_wire same text
wire_pairs outs = each (λ (_ : ℕ). is_wire ∷ same (text "1 1") ∷ []) (below outs)

-- a timing line for each output, where the library gives delays as a range
unfoldable pub timings : Bool → ℕ → List (List ℕ → Bool)
unfolding below is_timing
timings ranged outs = cond ranged (map (λ (_ : ℕ). is_timing) (below outs)) []

-- the lines behind the gates
unfoldable pub behind_gates : Bool → ℕ → ℕ → ℕ → List (List ℕ → Bool)
unfolding wire_pairs same text is_figures timings
behind_gates ranged outs gates area = wire_pairs outs ++ (same (text ".end") ∷ is_figures gates area ∷ timings ranged outs)

-- how many names the third line has
unfoldable pub outputs_of : List Line → ℕ
unfolding fields
outputs_of ls = length (fields (get_or ls 2 (record { offset = 0; bytes = []; ending = 0 })).bytes) - 1

-- the cells of a netlist's gates: "29 when a line isn't of the kind and form mapping prints there .., names no listed cell, or gives a gate count or area that
-- isn't that of the gates above it"
unfoldable pub read_counted : Bool → List Cell → List ℕ → Read (List ℕ)
unfolding next expected_lines preamble gates_in after_gates area_of behind_gates outputs_of nothing_left lines_from
read_counted ranged cells bytes =
    let ls = lines_from 0 [] bytes in
    next (expected_lines (length bytes) preamble ls) (λ ms.
    let used = gates_in cells ms in
    next (expected_lines (length bytes) (behind_gates ranged (outputs_of ls) (length used) (area_of cells used)) (after_gates cells ms)) (λ rest.
    next (nothing_left rest) (λ _. holds used)))

-- ---- counting

-- how often n stands in a list
unfoldable pub times : ℕ → List ℕ → ℕ
times n [] = 0
times n (m ∷ ms) = let r = times n ms in cond (eqb n m) (suc r) r

-- each place with what f adds to it, from place k on
unfoldable pub add_each : (ℕ → ℕ) → ℕ → List ℕ → List ℕ
add_each f k [] = []
add_each f k (n ∷ ns) = (n + f k) ∷ add_each f (suc k) ns

-- the tally with one netlist more, whose gates are of these cells
unfoldable pub counted : List Cell → List ℕ → Tally → Tally
unfolding add_each times cell_at one
counted cells used t = record {
  gates = add_each (λ i. times i used) 0 t.gates;
  areas = add_each (λ i. times i used * (cell_at cells i).area) 0 t.areas;
  occurs = add_each (λ i. one (ltb 0 (times i used))) 0 t.occurs;
  netlists = t.netlists + 1;
}

-- the tally handed on: 1, the library's refusals, "28 when 64 netlists are counted already or .. a tally figure exceeds 2^40, place 64; then 29"
unfoldable pub count_text : Tally → List ℕ → List ℕ → Read Tally
unfolding next unless read_library is_ranged in_width read_counted counted
count_text t library netlist =
    unless (leb (length library) 65536 && leb (length netlist) 65536) 1 0
    (next (read_library library) (λ cells.
    unless (ltb t.netlists 64 && in_width t) 28 64
    (next (read_counted (is_ranged library) cells netlist) (λ used. holds (counted cells used t)))))

-- "A refused netlist adds nothing."
unfoldable pub tally_after : Tally → Read Tally → Tally
tally_after t (holds u) = u
tally_after t (fault n k) = t

-- ---- the report

unfoldable pub report_line : List ℕ → ℕ → ℕ → ℕ → List ℕ
unfolding decimal text
report_line name a b c = name ++ (32 ∷ decimal a ++ (32 ∷ decimal b ++ (32 ∷ decimal c ++ text "\n")))

-- the line of the cell at place i
unfoldable pub cell_line : List Cell → Tally → ℕ → List ℕ
unfolding report_line name_of cell_at
cell_line cells t i = report_line (name_of (cell_at cells i)) (get_or t.gates i 0) (get_or t.areas i 0) (get_or t.occurs i 0)

-- the sums go over the listed cells
unfoldable pub total_line : List Cell → Tally → List ℕ
unfolding report_line sum text
total_line cells t = report_line (text "total") (sum (take (length cells) t.gates)) (sum (take (length cells) t.areas)) t.netlists

unfoldable pub report_text : List Cell → Tally → List ℕ
unfolding each below cell_line total_line
report_text cells t = each (cell_line cells t) (below (length cells)) ++ total_line cells t

-- 1, the library's refusals, 28 for figures alone, and 18 for "the report's memory"
unfoldable pub report_of : Tally → List ℕ → ℕ → Read (List ℕ)
unfolding next unless read_library in_width report_text
report_of t library bytes =
    unless (leb (length library) 65536) 1 0
    (next (read_library library) (λ cells.
    unless (in_width t) 28 64
    (let r = report_text cells t in unless (leb (length r) bytes) 18 (length r) (holds r))))
