-- Request N13, "Shuffled libraries": what "two accepted libraries holding the same cell lines in any orders" agree on. Nothing is said of the gates, of the
-- area, of minimum arrivals and of 18, which "may differ".
use Rattle.std.specs.Prelude.{◌≤◌, ◌≡◌, ◌↔◌, ◌∷◌}
use Rattle.base.specs.{ℕ, List, [], map, Memᴰ}
use Rattle.model.specs.Text.{Line, lines_from}
use Rattle.model.specs.ReadResult.{holds}
use Rattle.model.specs.Graph.{Graph, unordered}
use Rattle.model.specs.Cover.{Needed, Cover, CoverArrivals}
use Rattle.model.specs.Netlist.{refused, mapped, net_name}
use Rattle.model.specs.Blif.{Blif, NetArrivals}
use Rattle.model.specs.Mapper.{Call, Design, read_texts, map_texts}
use Rattle.model.specs.Demands.{driven_nets, Printed}
use Rattle.model.specs.declared.Cell.{Cell}
use Rattle.model.specs.declared.Figures.{Figures}

-- the lines behind the first, which is the names line
unfoldable pub behind_first : List Line → List Line
behind_first [] = []
behind_first (l ∷ ls) = ls

-- the cell lines of a library's text, without their ends: so with either
unfoldable pub cell_lines : List ℕ → List (List ℕ)
unfolding lines_from behind_first
cell_lines library = map (λ (l : Line). l.bytes) (behind_first (lines_from 0 [] library))

-- "holding the same cell lines in any orders": an accepted library repeats no name, so that no line stands twice
abbrev pub SameLines : List ℕ → List ℕ → Type 0
SameLines library library' = (x : List ℕ) → Memᴰ x (cell_lines library) ↔ Memᴰ x (cell_lines library')

-- the same cells
abbrev pub SameCells : List Cell → List Cell → Type 0
SameCells cells cells' = (c : Cell) → Memᴰ c cells ↔ Memᴰ c cells'

-- "the earliest arrival" of a phase's net: some cover reaches it, and none that has the net is earlier
pub record EarliestAt (cells : List Cell) (g : Graph) (l t : ℕ) : Type 0 where
  pub reached : (c : Cover cells g (l ∷ [])) × (at : ℕ → ℕ) × CoverArrivals cells g (l ∷ []) c at × (at l ≡ t)
  pub least : (outs : List ℕ) (c : Cover cells g outs) (at : ℕ → ℕ) → CoverArrivals cells g outs c at → Needed cells g outs c.source l → t ≤ at l

-- the call with another library's text: "for the same graph, arrivals and lent lengths", and pairs wanted in both or in neither
abbrev pub on_library : Call → List ℕ → Call
on_library c library = record { paired = c.paired; library = library; graph = c.graph; arrivals = c.arrivals; words = c.words; bytes = c.bytes }

-- "with no refusal before 16, two accepted libraries": the texts hold d with the call's library and d' with the other, and all ANDs can be ordered
pub record Shuffled (c : Call) (library : List ℕ) (d d' : Design) : Type 0 where
  pub lines : SameLines c.library library
  pub design : read_texts c ≡ holds d
  pub design' : read_texts (on_library c library) ≡ holds d'
  pub ordered : unordered d.graph ≡ []

-- they "agree on the earliest arrival of every `p` and `m` net, on whether 16 or 17 occurs and its place, and, where both print, on the printed arrival".
-- "Where pairs are formed, both libraries form theirs": the covers of each are over its own cells and pairs. And a `p` or `m` net that both print arrives
-- at the same time in both netlists. A net that some cover has, has an earliest arrival, and no two: so `earliest` compares times that are there
pub record Agree (c : Call) (library : List ℕ) (d d' : Design) : Type 0 where
  pub graphs : d.graph ≡ d'.graph
  pub earliest : (l t : ℕ) → EarliestAt d.cells d.graph l t ↔ EarliestAt d'.cells d'.graph l t
  pub reachable : (outs : List ℕ) (v : Cover d.cells d.graph outs) (l : ℕ) → Needed d.cells d.graph outs v.source l
      → (t : ℕ) × EarliestAt d.cells d.graph l t
  pub one : (l t u : ℕ) → EarliestAt d.cells d.graph l t → EarliestAt d'.cells d'.graph l u → t ≡ u
  pub sixteen : (k : ℕ) → (map_texts c ≡ refused 16 k) ↔ (map_texts (on_library c library) ≡ refused 16 k)
  pub seventeen : (k : ℕ) → (map_texts c ≡ refused 17 k) ↔ (map_texts (on_library c library) ≡ refused 17 k)
  pub arrival : (t t' : List ℕ) (f f' : Figures) → map_texts c ≡ mapped t f → map_texts (on_library c library) ≡ mapped t' f' → f.arrival ≡ f'.arrival
  pub nets : (t t' : List ℕ) (f f' : Figures) (n n' : Blif) → Printed c t f d n → Printed (on_library c library) t' f' d' n'
      → (at at' : List ℕ → ℕ) → NetArrivals d.listed n (map d.graph.input_arrival d.graph.inputs) at
      → NetArrivals d'.listed n' (map d'.graph.input_arrival d'.graph.inputs) at'
      → (l : ℕ) → Memᴰ (net_name l) (driven_nets n) → Memᴰ (net_name l) (driven_nets n') → at (net_name l) ≡ at' (net_name l)

-- so with every library of the same cell lines
abbrev pub Shuffles : Call → Type 0
Shuffles c = (library : List ℕ) (d d' : Design) → Shuffled c library d d' → Agree c library d d'
