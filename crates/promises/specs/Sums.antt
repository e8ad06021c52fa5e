-- What is promised of a tally "handed on by these calls from an empty one".
use Rattle.std.specs.Prelude.{◌+◌, ◌≤◌, ◌<◌, ◌≡◌, ◌&&◌, ◌∷◌, ◌++◌}
use Rattle.base.specs.{ℕ, Bool, true, cond, Option, Some, List, [], map, length, take, get_or}
use Rattle.model.specs.{each, same, and_then, only, below, text, parts, fields, holds, read_library, figure, sum, mapped, Call, map_texts}
use Rattle.model.specs.{empty_tally, in_width, count_text, report_line, cell_line}
use Rattle.model.specs.declared.Cell.{Cell}
use Rattle.model.specs.declared.Tally.{Tally}
use Rattle.model.specs.declared.Figures.{Figures}

-- tallies that were handed on, by whatever libraries
pub data Handed : Tally → Type 0 where
  empty : Handed empty_tally
  more : {t u : Tally} (library netlist : List ℕ) → Handed t → count_text t library netlist ≡ holds u → Handed u

-- ---- the `# gates` lines

-- what a `# gates` line says of gates and area
pub record GatesLine : Type 0 where
  pub gates : ℕ
  pub area : ℕ

-- the words that a `# gates` line begins with
unfoldable pub begins_gates : List (List ℕ) → Bool
unfolding same text
begins_gates ws = same (text "#") (get_or ws 0 []) && same (text "gates") (get_or ws 1 [])

-- the words of the first such line
unfoldable pub gates_words : List (List ℕ) → List (List ℕ)
unfolding fields begins_gates
gates_words [] = []
gates_words (l ∷ ls) = let later = gates_words ls in cond (begins_gates (fields l)) (fields l) later

-- "gates written" and "sum of their areas", each "in decimal without leading zeros"; what follows them is not read
unfoldable pub gates_line : List (List ℕ) → Option GatesLine
unfolding and_then only same text figure
gates_line ws =
    and_then (only (same (text "area") (get_or ws 3 [])) ws) (λ _.
    and_then (figure (get_or ws 2 [])) (λ gates.
    and_then (figure (get_or ws 4 [])) (λ area. Some (record { gates = gates; area = area }))))

-- what a netlist's own `# gates` line says, by its words: no gate is counted for it
unfoldable pub figures_in : List ℕ → Option GatesLine
unfolding gates_line gates_words parts
figures_in netlist = gates_line (gates_words (parts 10 netlist))

-- ---- the sums

-- the counted netlists of one library, the last first, and their tally
pub data Counting (library : List ℕ) : List (List ℕ) → Tally → Type 0 where
  empty : Counting library [] empty_tally
  more : {ns : List (List ℕ)} {t u : Tally} (netlist : List ℕ) → Counting library ns t → count_text t library netlist ≡ holds u → Counting library (netlist ∷ ns) u

abbrev pub gates_sum : List GatesLine → ℕ
gates_sum lines = sum (map (λ (l : GatesLine). l.gates) lines)

abbrev pub area_sum : List GatesLine → ℕ
area_sum lines = sum (map (λ (l : GatesLine). l.area) lines)

-- "Its gates and area equal the sums of the counted netlists' `# gates` lines, and the sums over cells."
pub record Sums (cells : List Cell) (ns : List (List ℕ)) (t : Tally) : Type 0 where
  pub lines : List GatesLine
  pub are_lines : map figures_in ns ≡ map Some lines
  pub gates : sum (take (length cells) t.gates) ≡ gates_sum lines
  pub areas : sum (take (length cells) t.areas) ≡ area_sum lines
  pub netlists : t.netlists ≡ length ns

-- the same of a report: the sums of the `# gates` lines stand in its `total` line, and what its lines of cells have adds up to them
pub record Reported (cells : List Cell) (ns : List (List ℕ)) (t : Tally) (report : List ℕ) : Type 0 where
  pub sums : Sums cells ns t
  pub is_report : report ≡ each (cell_line cells t) (below (length cells)) ++ report_line (text "total") (gates_sum sums.lines) (area_sum sums.lines) (length ns)
  pub over_gates : sum (map (λ (i : ℕ). get_or t.gates i 0) (below (length cells))) ≡ gates_sum sums.lines
  pub over_areas : sum (map (λ (i : ℕ). get_or t.areas i 0) (below (length cells))) ≡ area_sum sums.lines

-- a tally that grew by one netlist of so many gates and so much area
pub record Grown (cells : List Cell) (t u : Tally) (gates area : ℕ) : Type 0 where
  pub gates_grown : sum (take (length cells) u.gates) ≡ sum (take (length cells) t.gates) + gates
  pub areas_grown : sum (take (length cells) u.areas) ≡ sum (take (length cells) t.areas) + area
  pub netlists_grown : u.netlists ≡ t.netlists + 1

-- a netlist that is counted adds what its own `# gates` line says
pub record Added (cells : List Cell) (t u : Tally) (netlist : List ℕ) : Type 0 where
  pub line : GatesLine
  pub is_line : figures_in netlist ≡ Some line
  pub grown : Grown cells t u line.gates line.area

-- a tally that takes one netlist more: 32 places for gates and areas, as every tally of the calls has, and no cause for 28
pub record Open (t : Tally) : Type 0 where
  pub gates_long : length t.gates ≡ 32
  pub areas_long : length t.areas ≡ 32
  pub not_full : t.netlists < 64
  pub fits : in_width t ≡ true

-- every netlist that mapping prints is counted under its library, with its own figures, "within the length in 1"
abbrev pub CountsPrinted : Call → Type 0
CountsPrinted c = (t : List ℕ) (f : Figures) → map_texts c ≡ mapped t f → length t ≤ 65536
    → (cells : List Cell) → read_library c.library ≡ holds cells
    → (tally : Tally) → Open tally → (u : Tally) × (count_text tally c.library t ≡ holds u) × Grown cells tally u f.gates f.area
