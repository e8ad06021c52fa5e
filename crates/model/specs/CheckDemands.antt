-- The demands for the check of an edited netlist, for every call: library text, graph text, netlist text and number of lent words.
use Rattle.std.specs.Prelude.{◌+◌, ◌*◌, ◌^◌, ◌≤◌, ◌<◌, ◌≡◌, ◌↔◌, Ok}
use Rattle.base.specs.{ℕ, Bool, Some, List, map, Memᴰ, length, get_or}
use Rattle.model.specs.Base.{bit}
use Rattle.model.specs.Limits.{need}
use Rattle.model.specs.ReadResult.{holds}
use Rattle.model.specs.Table.{value, row_of}
use Rattle.model.specs.Graph.{Graph, literal_value, GraphValues}
use Rattle.model.specs.LibraryText.{read_library}
use Rattle.model.specs.Netlist.{mapped, out_name}
use Rattle.model.specs.Blif.{Blif, read_blif, NetValues}
use Rattle.model.specs.Mapper.{Call, Design, read_texts, map_texts}
use Rattle.model.specs.Check.{Checked, Driver, Edited, input_nets, output_nets, assignment_of, line_ends, read_edited, check_texts, result_of, result_by}
use Rattle.model.specs.Check.{checked_work}
use Rattle.model.specs.declared.Cell.{Cell}
use Rattle.model.specs.declared.Figures.{Figures}
use Rattle.model.specs.declared.Comparison.TheVariants.{Equal, Differs}

-- ---- Demand 1: the answer of a check, the numbers that it stands for, and what it leaves of the lent words
pub record CheckMemory (library graph netlist work : List ℕ) (answer : Checked) (work_left : List ℕ) : Type 0 where
  pub answers : answer ≡ check_texts library graph netlist (length work)
  pub result : result_of answer ≡ result_by (read_edited library graph netlist (length work))
  pub words : work_left ≡ checked_work (check_texts library graph netlist (length work)) work

-- ---- what the answer means

-- the nets' values hold under an assignment of the variables: an input net has its assignment, a driven net its table's value at the nets that it uses
pub record ValuesUnder (g : Graph) (ds : List Driver) (assignment : ℕ → Bool) (w : List ℕ → Bool) : Type 0 where
  pub at_inputs : map w (input_nets g) ≡ map assignment g.inputs
  pub at_drivers : (d : Driver) → Memᴰ d ds → w d.net ≡ value d.table (row_of (map w d.uses))

-- output k of the netlist has the graph's value under an assignment, with any values that hold
abbrev pub RightUnder : Graph → List Driver → (ℕ → Bool) → ℕ → Type 0
RightUnder g ds assignment k =
    (v : ℕ → Bool) → GraphValues g assignment v → (w : List ℕ → Bool) → ValuesUnder g ds assignment w
    → w (out_name k) ≡ literal_value v (get_or g.outputs k 0)

-- both under the assignment of a number
abbrev pub DriverValues : Graph → List Driver → ℕ → (List ℕ → Bool) → Type 0
DriverValues g ds s w = ValuesUnder g ds (assignment_of s 0 g.inputs) w

abbrev pub Right : Graph → List Driver → ℕ → ℕ → Type 0
Right g ds s k = RightUnder g ds (assignment_of s 0 g.inputs) k

-- "accepted exactly when every output equals the graph's for each of the 2^I input settings; otherwise the lowest setting that differs is
-- returned, input k as bit k, and that setting's first wrong output". Values exist under every assignment. `numbered` and `every` say what the numbers
-- below 2^I are: all assignments of the inputs, input k as bit k; so `accepted` speaks of no numbers
pub record Compared (g : Graph) (ds : List Driver) (answer : Checked) : Type 0 where
  pub graph_has : (s : ℕ) → (v : ℕ → Bool) × GraphValues g (assignment_of s 0 g.inputs) v
  pub netlist_has : (s : ℕ) → (w : List ℕ → Bool) × DriverValues g ds s w
  pub accepts : (answer ≡ Ok Equal) ↔ ((s : ℕ) → s < 2 ^ length g.inputs → (k : ℕ) → k < length g.outputs → Right g ds s k)
  pub differing : (s k : ℕ) → (answer ≡ Ok (Differs s k)) ↔ ((s < 2 ^ length g.inputs) × (k < length g.outputs) × (¬ Right g ds s k)
      × ((j : ℕ) → j < k → Right g ds s j) × ((r : ℕ) → r < s → (j : ℕ) → j < length g.outputs → Right g ds r j))
  pub numbered : (s k : ℕ) → k < length g.inputs → assignment_of s 0 g.inputs (get_or g.inputs k 0) ≡ bit s k
  pub every : (assignment : ℕ → Bool) → (s : ℕ) × (s < 2 ^ length g.inputs) × ((v : ℕ) → Memᴰ v g.inputs → assignment_of s 0 g.inputs v ≡ assignment v)
  pub accepted : (answer ≡ Ok Equal) ↔ ((assignment : ℕ → Bool) (k : ℕ) → k < length g.outputs → RightUnder g ds assignment k)

-- so of every check that is unrefused
abbrev pub ComparedCheck : List ℕ → List ℕ → List ℕ → ℕ → Type 0
ComparedCheck library graph netlist words =
    (e : Edited) → read_edited library graph netlist words ≡ holds e → Compared e.graph e.drivers (check_texts library graph netlist words)

-- the drivers read from a netlist mean what its text means as BLIF, "as we print it": the text reads as a model with the graph's inputs and outputs, and
-- values that hold for the drivers are those that hold for the model
pub record MeansText (cells : List Cell) (g : Graph) (netlist : List ℕ) (ds : List Driver) : Type 0 where
  pub blif : Blif
  pub reads : read_blif netlist ≡ Some blif
  pub inputs : blif.inputs ≡ input_nets g
  pub outputs : blif.outputs ≡ output_nets g
  pub values : (assignment : ℕ → Bool) (w : List ℕ → Bool) → ValuesUnder g ds assignment w ↔ NetValues cells blif (map assignment g.inputs) w

-- so of every check that is unrefused
abbrev pub MeantCheck : List ℕ → List ℕ → List ℕ → ℕ → Type 0
MeantCheck library graph netlist words =
    (e : Edited) → read_edited library graph netlist words ≡ holds e → (cells : List Cell) → read_library library ≡ holds cells
    → MeansText cells e.graph netlist e.drivers

-- both together, in demand 2's words: accepted exactly when, under every assignment of the inputs, each output of the netlist's text as BLIF, "read at its `o`
-- name", has the graph's value, with any values that hold
abbrev pub EqualCheck : List ℕ → List ℕ → List ℕ → ℕ → Type 0
EqualCheck library graph netlist words =
    (e : Edited) → read_edited library graph netlist words ≡ holds e → (cells : List Cell) → read_library library ≡ holds cells
    → (n : Blif) → read_blif netlist ≡ Some n
    → (check_texts library graph netlist words ≡ Ok Equal) ↔ ((assignment v : ℕ → Bool) → GraphValues e.graph assignment v
    → (w : List ℕ → Bool) → NetValues cells n (map assignment e.graph.inputs) w
    → (k : ℕ) → k < length e.graph.outputs → w (out_name k) ≡ literal_value v (get_or e.graph.outputs k 0))

-- "Given memory enough, every netlist that `map` prints from the same texts with I up to 12 is accepted": whatever arrivals it was mapped with, and whatever
-- memory was lent to the call that printed it. The netlist is within the length in 1: what `map` prints is, for it lends so many bytes
abbrev pub AcceptsPrinted : Call → Type 0
AcceptsPrinted c =
    (d : Design) (t : List ℕ) (f : Figures) (words : ℕ) → read_texts c ≡ holds d → map_texts c ≡ mapped t f
    → length d.graph.inputs ≤ 12 → length t ≤ 65536 → need d.graph.size (length d.graph.outputs) + 8 * line_ends t ≤ words
    → check_texts c.library c.graph t words ≡ Ok Equal

-- so of the texts of one check: the call that printed the netlist had this library and this graph
abbrev pub PrintedAccepted : List ℕ → List ℕ → List ℕ → ℕ → Type 0
PrintedAccepted library graph netlist words =
    (paired : Bool) (arrivals : List ℕ) (with_memory bytes : ℕ) (d : Design) (f : Figures)
    → read_texts (record { paired = paired; library = library; graph = graph; arrivals = arrivals; words = with_memory; bytes = bytes }) ≡ holds d
    → map_texts (record { paired = paired; library = library; graph = graph; arrivals = arrivals; words = with_memory; bytes = bytes }) ≡ mapped netlist f
    → length d.graph.inputs ≤ 12 → length netlist ≤ 65536 → need d.graph.size (length d.graph.outputs) + 8 * line_ends netlist ≤ words
    → check_texts library graph netlist words ≡ Ok Equal

-- ---- what is promised of a check
pub record CheckPromised (library graph netlist : List ℕ) (words : ℕ) : Type 0 where
  -- "Unrefused, it is accepted exactly when every output equals the graph's for each of the 2^I input settings; otherwise the lowest setting that differs is
  -- returned, input k as bit k, and that setting's first wrong output."
  pub compared : ComparedCheck library graph netlist words
  pub meant : MeantCheck library graph netlist words
  pub equal : EqualCheck library graph netlist words
  -- "Given memory enough, every netlist that `map` prints from the same texts with I up to 12 is accepted"
  pub accepts : PrintedAccepted library graph netlist words
