-- What the stages of a call ask, and what they answer for whatever graph the words are of.
use Rattle.std.specs.Prelude.{◌≡◌, ◌≤◌}
use Rattle.base.specs.{List, ℕ, Bool, length}
use Rattle.model.specs.{need, holds, read_header, Answer}
use Rattle.model.specs.Graph.{Graph}
use Rattle.model.specs.declared.Library.{Library}
use Rattle.model.specs.declared.Header.{Header}
use Rattle.cells_matching.specs.{MatchTable}
use Rattle.net_writer.specs.MappedWords.{Mapped}
use Rattle.mapper.specs.MapStages.{Answered, Left, LibraryOk, all_of, Timed, Timeable, printed_for, ordered_for, graph_for, header_for}

-- the words are of some mapped graph
abbrev pub Printable : List ℕ → Library → List ℕ → Header → Type 0
Printable work lib ids h = (g : Graph) × Mapped work lib ids h g × Timeable work lib ids h g

-- its netlist
abbrev pub Printed : List ℕ → Library → List ℕ → Header → Bool → List ℕ → Answer → List ℕ → Type 0
Printed work lib ids h ranged text r text' = (g : Graph) → Mapped work lib ids h g → Timeable work lib ids h g → Answered (printed_for ranged lib ids g (length text)) text r text'

-- the words are of some graph with its arrivals, and the match table of the cells
abbrev pub Cuttable : List ℕ → Library → List ℕ → Header → List ℕ → Type 0
Cuttable work lib ids h matches = ((g : Graph) × Timed work lib ids h g) × MatchTable (all_of lib ids) matches

-- what comes of it
abbrev pub CutAnswered : List ℕ → Library → List ℕ → Header → Bool → List ℕ → Answer → List ℕ → Type 0
CutAnswered work lib ids h ranged text r text' = (g : Graph) → Timed work lib ids h g → Answered (ordered_for ranged lib ids g (length text)) text r text'

-- a graph text whose header was read, words enough, and the match table of the cells
abbrev pub GraphMappable : List ℕ → Header → Library → List ℕ → List ℕ → List ℕ → Type 0
GraphMappable graph h lib ids matches work = LibraryOk lib ids × (read_header graph ≡ holds h) × (need h.size h.outputs ≤ length work) × MatchTable (all_of lib ids) matches

-- what comes of a graph text and an arrivals' text
abbrev pub GraphAnswered : List ℕ → List ℕ → Header → Library → List ℕ → Bool → List ℕ → Answer → List ℕ → Type 0
GraphAnswered graph arrivals h lib ids ranged text r text' = Answered (graph_for ranged lib ids graph arrivals h (length text)) text r text'

-- and what it leaves of work memory
abbrev pub HeaderLeft : List ℕ → List ℕ → Library → List ℕ → Bool → List ℕ → List ℕ → Answer → List ℕ → List ℕ → Type 0
HeaderLeft graph arrivals lib ids ranged work text r work' text' = Left (header_for ranged lib ids graph arrivals (length work) (length text)) work text r work' text'
