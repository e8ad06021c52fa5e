-- The whole: three texts, the lent words and bytes, the answer "in checking order", and what the lent memory then holds.
use Rattle.std.specs.Prelude.{◌&&◌, ◌||◌, ◌++◌, Result, Ok, Err}
use Rattle.base.specs.{ℕ, Bool, cond, List, eqb, leb, length, drop, replicate}
use Rattle.model.specs.Limits.{need}
use Rattle.model.specs.ReadResult.{Read, refused_with, holds, fault, next, unless}
use Rattle.model.specs.LibraryText.{read_library, is_ranged}
use Rattle.model.specs.Pairs.{cells_for}
use Rattle.model.specs.GraphText.{read_header, read_graph}
use Rattle.model.specs.ArrivalsText.{read_arrivals, timed_by}
use Rattle.model.specs.Graph.{Graph}
use Rattle.model.specs.Netlist.{Outcome, refused, mapped, map_graph}
use Rattle.model.specs.Timing.{followed}
use Rattle.model.specs.declared.Cell.{Cell}
use Rattle.model.specs.declared.Mapped.{Mapped}
use Rattle.model.specs.declared.Refusal.{Refusal}

-- what a call is given: whether it wants pairs of cells, the library's text, the graph's, the arrivals', "or empty for none", and how many words and
-- bytes are lent to it
pub record Call : Type 0 where
  pub paired : Bool
  pub library : List ℕ
  pub graph : List ℕ
  pub arrivals : List ℕ
  pub words : ℕ
  pub bytes : ℕ

-- the call on three texts, pairs wanted or not, with work memory and text memory lent
abbrev pub call_of : Bool → List ℕ → List ℕ → List ℕ → List ℕ → List ℕ → Call
call_of paired library graph arrivals work text = record { paired = paired; library = library; graph = graph; arrivals = arrivals; words = length work; bytes = length text }

-- what the texts hold: the listed cells, the cells to map with, which are these and, where pairs are wanted, the pairs behind them, whether delays are
-- ranges, and the graph
pub record Design : Type 0 where
  pub listed : List Cell
  pub cells : List Cell
  pub ranged : Bool
  pub graph : Graph

-- what a call's listed cells and graph make
abbrev pub design_of : Call → List Cell → Graph → Design
design_of c listed g = record { listed = listed; cells = cells_for c.paired listed; ranged = is_ranged c.library; graph = g }

-- "A text is longer than 65,536 bytes": any of the three
abbrev pub short : Call → Bool
short c = leb (length c.library) 65536 && (leb (length c.graph) 65536 && leb (length c.arrivals) 65536)

-- the listed cells of a library's text: "30 when cells and pairs exceed 256, after 6, place 0"
unfoldable pub read_listed : Bool → List ℕ → Read (List Cell)
unfolding next unless read_library cells_for
read_listed paired library = next (read_library library) (λ cells. unless (leb (length (cells_for paired cells)) 256) 30 0 (holds cells))

-- refusals 1 to 14, 19 to 21, 25 to 27 and 30: "Work memory has fewer than 124(M+1) + O 16-bit words" stands between the header's and those of what follows
-- it, and the arrivals' come "after 14"
unfoldable pub read_texts : Call → Read Design
unfolding next unless read_listed cells_for is_ranged read_header read_graph read_arrivals timed_by need
read_texts c =
    unless (short c) 1 0
    (next (read_listed c.paired c.library) (λ listed.
    next (read_header c.graph) (λ h.
    unless (leb (need h.size h.outputs) c.words) 10 0
    (next (read_graph c.graph h) (λ g.
    next (read_arrivals h.inputs c.arrivals) (λ es. holds (design_of c listed (timed_by g es))))))))

-- "Text memory is shorter than the netlist; place, the length needed."
unfoldable pub within : ℕ → Outcome → Outcome
within bytes (refused n k) = refused n k
within bytes (mapped t f) = cond (leb (length t) bytes) (mapped t f) (refused 18 (length t))

-- the outcome for what was read
unfoldable pub map_design : ℕ → Read Design → Outcome
unfolding within map_graph followed
map_design bytes (holds d) = within bytes (followed d.ranged d.cells d.graph (map_graph d.listed d.cells d.graph))
map_design bytes (fault n k) = refused n k

-- the outcome of a call
unfoldable pub map_texts : Call → Outcome
unfolding map_design read_texts
map_texts c = map_design c.bytes (read_texts c)

-- ---- the answer, and the lent memory

-- what a call answers
abbrev pub Answer : Type 0
Answer = Result Mapped Refusal

-- the answer of a call
unfoldable pub answer_of : Outcome → Answer
answer_of (refused n k) = refused_with n k
answer_of (mapped t f) = Ok (record { length = length t; figures = f })

-- what the document says that a call returns
pub record Returned : Type 0 where
  pub number : ℕ
  pub value : ℕ
  pub gates : ℕ
  pub area : ℕ
  pub arrival : ℕ

-- "Success returns number 0, the netlist's length and the three figures of its `# gates` line; a refusal its number, its place and zero figures"
unfoldable pub returned : Answer → Returned
returned (Ok m) = record { number = 0; value = m.length; gates = m.figures.gates; area = m.figures.area; arrival = m.figures.arrival }
returned (Err r) = record { number = r.number; value = r.place; gates = 0; area = 0; arrival = 0 }

-- the same of an outcome: what a call returns, whatever its answer is made of
unfoldable pub returned_by : Outcome → Returned
returned_by (mapped t f) = record { number = 0; value = length t; gates = f.gates; area = f.area; arrival = f.arrival }
returned_by (refused n k) = record { number = n; value = k; gates = 0; area = 0; arrival = 0 }

-- a refusal leaves "text memory unchanged"; "On success text memory begins with the netlist and keeps its other bytes."
unfoldable pub text_after : Outcome → List ℕ → List ℕ
text_after (refused n k) memory = memory
text_after (mapped t f) memory = t ++ drop (length t) memory

-- the refusals "tried up to 10": 19 is "tried after 9", 27 "after 6 on its line", and 30 "after 6"
abbrev pub tried_early : ℕ → Bool
tried_early n = leb n 10 || (eqb n 19 || (eqb n 27 || eqb n 30))

-- "Work memory is unchanged by every refusal tried up to 10, and all zero after a later one and after success."
unfoldable pub work_after : Outcome → List ℕ → List ℕ
work_after (refused n k) memory = cond (tried_early n) memory (replicate (length memory) 0)
work_after (mapped t f) memory = replicate (length memory) 0
