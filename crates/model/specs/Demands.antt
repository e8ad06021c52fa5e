-- The three demands as types, for every call: pairs wanted or not, library text, graph text in either form, arrivals' text, number of lent words and
-- number of lent bytes; and what is promised of two texts that mean the same graph, of texts alike but for line ends, of inputs that arrive late, and of
-- delays given as ranges.
use Rattle.std.specs.Prelude.{◌+◌, ◌*◌, ◌≤◌, ◌<◌, ◌≡◌, ◌&&◌, ◌||◌, ◌∷◌, ◌++◌, ◌⊎◌, ◌↔◌}
use Rattle.base.specs.{ℕ, suc, Bool, true, false, cond, Some, List, [], map, Memᴰ}
use Rattle.base.specs.{Ordering-gt, eqb, leb, length, take, drop, get_or}
use Rattle.model.specs.Base.{each, below, same}
use Rattle.model.specs.Limits.{need}
use Rattle.model.specs.Text.{Line, text, lines_from, shown, fields}
use Rattle.model.specs.ReadResult.{Read, holds, fault, next, unless}
use Rattle.model.specs.Cells.{name_of, cell_at}
use Rattle.model.specs.Graph.{Graph, literal, var_of, negated, unordered, topological_order, literal_value, GraphValues}
use Rattle.model.specs.LibraryText.{is_ranged}
use Rattle.model.specs.Pairs.{pair_at, cells_for}
use Rattle.model.specs.PairDemands.{PairsKept}
use Rattle.model.specs.FormerLibrary.{former_library}
use Rattle.model.specs.GraphText.{read_header, read_graph, ascii_text}
use Rattle.model.specs.ArrivalsText.{InputArrival, read_arrivals, timed_by}
use Rattle.model.specs.Cuts.{cuts_of, compare_leaves, over_limit}
use Rattle.model.specs.Choice.{feeds, absent, chosen, preference}
use Rattle.model.specs.Cover.{IsInputSource, Allowed, Needed, arrival_by, Cover, CoverArrivals}
use Rattle.model.specs.Netlist.{Outcome, refused, mapped, map_graph, gates, number_of, figures_of, netlist_text, net_name, out_name, sum}
use Rattle.model.specs.Netlist.{largest}
use Rattle.model.specs.Timing.{min_arrival_of, timing_lines}
use Rattle.model.specs.Blif.{GateLine, Binding, Wire, Blif, read_blif, read_figures, TimingLine, read_timings, named, drives, fed_by}
use Rattle.model.specs.Blif.{pin_names, output_name, NetValues, Delays, delays_at, NetTimes, NetArrivals, InRange}
use Rattle.model.specs.Mapper.{Answer, Call, Design, design_of, short, read_listed, read_texts, within, map_design, map_texts, answer_of, returned}
use Rattle.model.specs.Mapper.{Answer, returned_by, text_after, work_after}
use Rattle.model.specs.declared.Cell.{Cell}
use Rattle.model.specs.declared.Header.{Header}
use Rattle.model.specs.declared.Source.{Source}
use Rattle.model.specs.declared.Figures.{Figures}

-- no element stands twice
abbrev pub Distinct {ℓ} : {A : Type ℓ} → List A → Type ℓ
Distinct [] = Unit
Distinct (x ∷ xs) = (¬ Memᴰ x xs) × Distinct xs

-- ---- Demand 1: "after a call on arbitrary bytes the lent memory holds what document 01 says and nothing else"; every call ends "with a
-- netlist or with the first of the .. numbered refusals that applies": a call's answer, and what it leaves of work and text, the memory lent to
-- it (c is `call_of` of the texts and of this memory). "Demand 1's list takes in every number added here or later, in the place given."
pub record Memory (c : Call) (work text : List ℕ) (answer : Answer) (work_left text_left : List ℕ) : Type 0 where
  pub answers : answer ≡ answer_of (map_texts c)
  pub returns : returned answer ≡ returned_by (map_texts c)
  pub words : work_left ≡ work_after (map_texts c) work
  pub bytes : text_left ≡ text_after (map_texts c) text

-- ---- what is printed

-- the nets that a netlist drives: "`.inputs` drives its nets", each gate its own, and each output's `.names` line that output's own name
unfoldable pub driven_nets : Blif → List (List ℕ)
unfolding drives
driven_nets n = n.inputs ++ (map drives n.gates ++ map (λ (x : Wire). x.target) n.wires)

-- the text t is printed with figures f for a design, reads back as n, and its `# gates` line says f
pub record Printed (c : Call) (t : List ℕ) (f : Figures) (d : Design) (n : Blif) : Type 0 where
  pub design : read_texts c ≡ holds d
  pub outcome : map_texts c ≡ mapped t f
  pub reads : read_blif t ≡ Some n
  pub says : read_figures t ≡ Some f

-- a statement of what a call prints: of the listed cells, the cells that are mapped with, the graph, the figures and the netlist
abbrev pub OfPrinted : (List Cell → List Cell → Graph → Figures → Blif → Type 0) → Call → Type 0
OfPrinted P c = (t : List ℕ) (f : Figures) (d : Design) (n : Blif) → Printed c t f d n → P d.listed d.cells d.graph f n

-- what is printed is read from a design, and reads back
abbrev pub Readable : Call → Type 0
Readable c = (t : List ℕ) (f : Figures) → map_texts c ≡ mapped t f → (d : Design) × (n : Blif) × Printed c t f d n

-- "Inputs and outputs keep the file's order." "The list becomes `o0`, `o1` and so on, in file order. Before `.end`, each gets `.names` with its net and
-- its own name": the wires lead to the listed names, in this order, from the nets of the graph's outputs. "Nets are `p` or `m` (negative) and the
-- variable", and a pair's inner gate is "on a net `s` followed by the root's net name": inputs' and gates' nets are such, and all others are outputs' own
-- names. Each gate is of a listed cell and binds its pins and its output; no net is driven twice, and every net that is used is driven
pub record Formed (listed cells : List Cell) (g : Graph) (f : Figures) (n : Blif) : Type 0 where
  pub inputs : n.inputs ≡ map (λ (v : ℕ). net_name (literal false v)) g.inputs
  pub outputs : n.outputs ≡ map out_name (below (length g.outputs))
  pub targets : map (λ (x : Wire). x.target) n.wires ≡ n.outputs
  pub sources : map (λ (x : Wire). x.source) n.wires ≡ map net_name g.outputs
  pub of_cells : (t : GateLine) → Memᴰ t n.gates → (c : Cell) × Memᴰ c listed × (name_of c ≡ t.cell)
      × (map (λ (b : Binding). b.pin) t.bindings ≡ pin_names c.pins ++ (output_name ∷ []))
  pub nets : (net : List ℕ) → Memᴰ net (n.inputs ++ map drives n.gates) → (l : ℕ) × ((net ≡ net_name l) ⊎ (net ≡ 115 ∷ net_name l))
  pub once : Distinct (driven_nets n)
  pub driven : (net : List ℕ) → Memᴰ net (n.outputs ++ (each (fed_by listed) n.gates ++ map (λ (x : Wire). x.source) n.wires)) → Memᴰ net (driven_nets n)

-- "by ascending variable, `p` first"
abbrev pub Before : ℕ → ℕ → Type 0
Before l k = (var_of l < var_of k) ⊎ ((var_of l ≡ var_of k) × (negated l ≡ false) × (negated k ≡ true))

-- each phase stands before all that come after it
abbrev pub InOrder : List ℕ → Type 0
InOrder [] = Unit
InOrder (l ∷ ls) = ((k : ℕ) → Memᴰ k ls → Before l k) × InOrder ls

-- the lines of phase l where its source's cell has number k and is fed by these nets. A listed cell is one line ..
pub record OneLine (listed : List Cell) (k : ℕ) (nets : List (List ℕ)) (l : ℕ) (t : GateLine) : Type 0 where
  pub is_listed : k < length listed
  pub cell : t.cell ≡ name_of (cell_at listed k)
  pub net : drives t ≡ net_name l
  pub fed : fed_by listed t ≡ nets

-- .. and "A pair prints as two gates, the inner first, on a net `s` followed by the root's net name": "Its pins are the root's in order, with the inner's,
-- in order, at the fed pin's place."
pub record TwoLines (listed : List Cell) (k : ℕ) (nets : List (List ℕ)) (l : ℕ) (s t : GateLine) : Type 0 where
  pub is_pair : length listed ≤ k
  pub inner_cell : s.cell ≡ name_of (cell_at listed (pair_at listed k).inner)
  pub root_cell : t.cell ≡ name_of (cell_at listed (pair_at listed k).root)
  pub inner_net : drives s ≡ 115 ∷ net_name l
  pub root_net : drives t ≡ net_name l
  pub inner_fed : fed_by listed s ≡ take (cell_at listed (pair_at listed k).inner).pins (drop (pair_at listed k).pin nets)
  pub root_fed : fed_by listed t
      ≡ take (pair_at listed k).pin nets ++ ((115 ∷ net_name l) ∷ drop ((pair_at listed k).pin + (cell_at listed (pair_at listed k).inner).pins) nets)

-- the lines of phases, in the order of these
pub data LinesOf (listed : List Cell) (number : ℕ → ℕ) (nets : ℕ → List (List ℕ)) : List ℕ → List GateLine → Type 0 where
  none : LinesOf listed number nets [] []
  one : {l : ℕ} {ls : List ℕ} {t : GateLine} {ts : List GateLine} → OneLine listed (number l) (nets l) l t → LinesOf listed number nets ls ts
      → LinesOf listed number nets (l ∷ ls) (t ∷ ts)
  two : {l : ℕ} {ls : List ℕ} {s t : GateLine} {ts : List GateLine} → TwoLines listed (number l) (nets l) l s t → LinesOf listed number nets ls ts
      → LinesOf listed number nets (l ∷ ls) (s ∷ t ∷ ts)

-- "Needed phases, inputs' own positive nets apart, become gates by ascending variable, `p` first": the gate lines drive the nets of these phases and no
-- other phase's; they are the lines of these phases, in this order, each of its phase's chosen cell, fed by the nets of the phases that the chosen source
-- is fed by
pub record Gated (listed cells : List Cell) (g : Graph) (f : Figures) (n : Blif) : Type 0 where
  pub nets : (l : ℕ) → Memᴰ (net_name l) (map drives n.gates) ↔ (Needed cells g g.outputs (λ x. (chosen cells g x).source) l × (¬ IsInputSource g l))
  pub order : (ls : List ℕ) × InOrder ls
      × LinesOf listed (λ l. number_of (chosen cells g l).source) (λ l. map net_name (feeds cells (cuts_of g) l (chosen cells g l).source)) ls n.gates

-- ---- Demand 2: "the printed netlist, read by BLIF's rules with the listed cells' tables, gives every output the value that the AIGER graph
-- gives it, for every setting of the inputs": both have values, and with any such values each output, at its `o` name, has the graph's
pub record SameValues (listed cells : List Cell) (g : Graph) (f : Figures) (n : Blif) : Type 0 where
  pub graph_has : (assignment : ℕ → Bool) → (v : ℕ → Bool) × GraphValues g assignment v
  pub netlist_has : (assignment : ℕ → Bool) → (w : List ℕ → Bool) × NetValues listed n (map assignment g.inputs) w
  pub same : (assignment v : ℕ → Bool) → GraphValues g assignment v → (w : List ℕ → Bool) → NetValues listed n (map assignment g.inputs) w
      → map w n.outputs ≡ map (literal_value v) g.outputs

-- "the figures equal those of the printed text": nets have arrivals, from those of the graph's inputs on, and with any such arrivals, an output's
-- "read at its `o` name", the figures are the text's.
-- "Gates number at most 2(M+1)." With pairs "the gate bound becomes 4(M+1)"
pub record SameFigures (listed cells : List Cell) (g : Graph) (f : Figures) (n : Blif) : Type 0 where
  pub has_arrivals : (at : List ℕ → ℕ) × NetArrivals listed n (map g.input_arrival g.inputs) at
  pub count : f.gates ≡ length n.gates
  pub area : f.area ≡ sum (map (λ (t : GateLine). (named listed t.cell).area) n.gates)
  pub arrival : (at : List ℕ → ℕ) → NetArrivals listed n (map g.input_arrival g.inputs) at → f.arrival ≡ largest (map at n.outputs)
  pub bound : f.gates ≤ 4 * suc g.size
  pub bound_listed : cells ≡ listed → f.gates ≤ 2 * suc g.size

-- ---- Demand 3: "for each net of the printed netlist, every cover of the outputs that has this net gives it an arrival no earlier".
-- "A cover has a net if it needs that net's phase". "The earliest-arrival promise, for `p` and `m` nets, .. range over covers with pairs too". Both arrivals start from the inputs' own: "no cover so timed gives a printed net earlier"
abbrev pub NoEarlier : List Cell → List Cell → Graph → Figures → Blif → Type 0
NoEarlier listed cells g f n =
    (at : List ℕ → ℕ) → NetArrivals listed n (map g.input_arrival g.inputs) at → (l : ℕ) → Memᴰ (net_name l) (driven_nets n)
    → (c : Cover cells g g.outputs) (arrival : ℕ → ℕ) → CoverArrivals cells g g.outputs c arrival → Needed cells g g.outputs c.source l
    → at (net_name l) ≤ arrival l

-- the same of the nets `o0`, `o1` and so on: output k's own name arrives as its net, which every cover of the outputs has
abbrev pub OutputsNoEarlier : List Cell → List Cell → Graph → Figures → Blif → Type 0
OutputsNoEarlier listed cells g f n =
    (at : List ℕ → ℕ) → NetArrivals listed n (map g.input_arrival g.inputs) at → (k : ℕ) → k < length g.outputs
    → (at (out_name k) ≡ at (net_name (get_or g.outputs k 0)))
    × ((c : Cover cells g g.outputs) (arrival : ℕ → ℕ) → CoverArrivals cells g g.outputs c arrival → at (out_name k) ≤ arrival (get_or g.outputs k 0))

-- "Where no refusal tried before 16 applies and no AND is over 18 cuts"
pub record Mappable (c : Call) (d : Design) : Type 0 where
  pub design : read_texts c ≡ holds d
  pub ordered : unordered d.graph ≡ []
  pub few : over_limit d.graph ≡ []

-- a statement of the outcome of a call whose texts can be mapped
abbrev pub OfMappable : (Bool → ℕ → Outcome → List Cell → List Cell → Graph → Type 0) → Call → Type 0
OfMappable P c = (d : Design) → Mappable c d → P d.ranged c.bytes (map_texts c) d.listed d.cells d.graph

-- every cover has arrivals, and on the phases that it needs no others: where there is no cover there are no sources for one. "every arrival starts from
-- it": an input's own net has the input's arrival
pub record Timed (cells : List Cell) (g : Graph) (outs : List ℕ) (c : Cover cells g outs) : Type 0 where
  pub has : (at : ℕ → ℕ) × CoverArrivals cells g outs c at
  pub alone : (at bt : ℕ → ℕ) → CoverArrivals cells g outs c at → CoverArrivals cells g outs c bt
      → (l : ℕ) → Needed cells g outs c.source l → at l ≡ bt l
  pub starts : (at : ℕ → ℕ) → CoverArrivals cells g outs c at → (l : ℕ) → Needed cells g outs c.source l → IsInputSource g l → at l ≡ g.input_arrival (var_of l)

abbrev pub CoversTimed : Bool → ℕ → Outcome → List Cell → List Cell → Graph → Type 0
CoversTimed ranged bytes outcome listed cells g = (outs : List ℕ) (c : Cover cells g outs) → Timed cells g outs c

-- output k is the lowest that has no cover: "a cover of one output is a cover with that as the only output"
pub record LowestUncovered (cells : List Cell) (g : Graph) (k : ℕ) : Type 0 where
  pub is_output : k < length g.outputs
  pub has_none : ¬ Cover cells g (get_or g.outputs k 0 ∷ [])
  pub before : (j : ℕ) → j < k → Cover cells g (get_or g.outputs j 0 ∷ [])

-- the text and the figures of the netlist of the cover that 01's choice gives
abbrev pub choice_figures : List Cell → List Cell → Graph → Figures
choice_figures listed cells g = figures_of g (chosen cells g) (gates listed cells g (chosen cells g))

-- its text
abbrev pub choice_text : List Cell → List Cell → Graph → List ℕ
choice_text listed cells g = netlist_text g (gates listed cells g (chosen cells g)) (choice_figures listed cells g)

-- what is printed: the netlist, and where delays are ranges it is "followed by a line per output"
abbrev pub printed_text : Bool → List Cell → List Cell → Graph → List ℕ
printed_text ranged listed cells g =
    cond ranged (choice_text listed cells g ++ timing_lines (min_arrival_of cells g) (λ (l : ℕ). (chosen cells g l).arrival) 0 g.outputs) (choice_text listed cells g)

-- "refusal 17 comes exactly when some output has no cover, and names the lowest; else the netlist of the cover that 01's choice gives is
-- printed, or 18 exactly when it applies"
pub record Decided (ranged : Bool) (bytes : ℕ) (outcome : Outcome) (listed cells : List Cell) (g : Graph) : Type 0 where
  pub seventeen : (k : ℕ) → (outcome ≡ refused 17 k) ↔ LowestUncovered cells g k
  pub prints : ((l : ℕ) → Memᴰ l g.outputs → Cover cells g (l ∷ [])) → length (printed_text ranged listed cells g) ≤ bytes
      → outcome ≡ mapped (printed_text ranged listed cells g) (choice_figures listed cells g)
  pub eighteen : ((l : ℕ) → Memᴰ l g.outputs → Cover cells g (l ∷ [])) → bytes < length (printed_text ranged listed cells g)
      → outcome ≡ refused 18 (length (printed_text ranged listed cells g))

-- "the cover that 01's choice gives": where every output has a cover, the chosen sources and arrivals are a cover of the outputs
pub record ChosenCover (cells : List Cell) (g : Graph) : Type 0 where
  pub cover : Cover cells g g.outputs
  pub sources : (l : ℕ) → cover.source l ≡ (chosen cells g l).source
  pub arrivals : CoverArrivals cells g g.outputs cover (λ l. (chosen cells g l).arrival)

-- the choice by 01's order of preference: no allowed source of an ordered phase whose pins have sources comes before the chosen one, and the
-- chosen one is allowed and timed by the rule
pub record Preferred (cells : List Cell) (g : Graph) (l : ℕ) : Type 0 where
  pub allowed : absent (chosen cells g l).source ≡ false → Allowed cells g l (chosen cells g l).source
  pub timed : absent (chosen cells g l).source ≡ false
      → (chosen cells g l).arrival ≡ arrival_by cells g (λ x. (chosen cells g x).arrival) l (chosen cells g l).source
  pub first : (s : Source) → Allowed cells g l s
      → ((x : ℕ) → Memᴰ x (feeds cells (cuts_of g) l s) → absent (chosen cells g x).source ≡ false)
      → (absent (chosen cells g l).source ≡ false)
      × (¬ (compare_leaves (preference (chosen cells g l)) (preference (record { source = s; arrival = arrival_by cells g (λ x. (chosen cells g x).arrival) l s })) ≡ Ordering-gt))

-- what is said of the choice
pub record Chosen (ranged : Bool) (bytes : ℕ) (outcome : Outcome) (listed cells : List Cell) (g : Graph) : Type 0 where
  pub covers : ((l : ℕ) → Memᴰ l g.outputs → Cover cells g (l ∷ [])) → ChosenCover cells g
  pub preferred : (l : ℕ) → Memᴰ (var_of l) (topological_order g) → Preferred cells g l

-- ---- "Delays given as a range"

-- the `# timing` lines ts of a netlist. "a line per output": their names are the outputs', in order. "Every choice of pin delays, each within its range and
-- fixed separately per gate, puts the output within these two, and each end is reached by some choice": a choice gives any delays to any gate line, apart from
-- what it gives to the others; it has arrivals, from those of the graph's inputs on; within the ranges it puts every output, "read at its `o` name", between
-- the two numbers of its line. One choice reaches the low ends of all lines, and one the high ends
pub record WithinRanges (listed : List Cell) (g : Graph) (n : Blif) (ts : List TimingLine) : Type 0 where
  pub names : map (λ (x : TimingLine). x.output) ts ≡ n.outputs
  pub separate : (ds : List (List ℕ)) → length ds ≡ length n.gates → (delays : Delays) × (map (delays_at delays) n.gates ≡ ds)
  pub has_times : (delays : Delays) → (at : List ℕ → ℕ) × NetTimes listed delays n (map g.input_arrival g.inputs) at
  pub within : (delays : Delays) → InRange listed delays n → (at : List ℕ → ℕ) → NetTimes listed delays n (map g.input_arrival g.inputs) at
      → (x : TimingLine) → Memᴰ x ts → (x.low ≤ at x.output) × (at x.output ≤ x.high)
  pub lowest : (delays : Delays) × InRange listed delays n
      × ((at : List ℕ → ℕ) → NetTimes listed delays n (map g.input_arrival g.inputs) at → map at n.outputs ≡ map (λ (x : TimingLine). x.low) ts)
  pub highest : (delays : Delays) × InRange listed delays n
      × ((at : List ℕ → ℕ) → NetTimes listed delays n (map g.input_arrival g.inputs) at → map at n.outputs ≡ map (λ (x : TimingLine). x.high) ts)

-- what a printed text says behind its `# gates` line, read there: under the longer names line these lines, under the shorter nothing
pub record Ranges (c : Call) : Type 0 where
  pub timed : (t : List ℕ) (f : Figures) (d : Design) (n : Blif) → Printed c t f d n → is_ranged c.library ≡ true
      → (ts : List TimingLine) × (read_timings t ≡ Some ts) × WithinRanges d.listed d.graph n ts
  pub untimed : (t : List ℕ) (f : Figures) → map_texts c ≡ mapped t f → is_ranged c.library ≡ false → read_timings t ≡ Some []

-- ---- demands 2 and 3 together, for a call

-- Demand 2, with the figures
pub record Values (c : Call) : Type 0 where
  pub readable : Readable c
  pub formed : OfPrinted Formed c
  pub gated : OfPrinted Gated c
  pub values : OfPrinted SameValues c
  pub figures : OfPrinted SameFigures c
  pub ranges : Ranges c

-- "Pairs follow the listed cells, and all pairs are kept", where the call wants them: the cells that the covers range over
abbrev pub KeepsPairs : Call → Type 0
KeepsPairs c = (d : Design) → read_texts c ≡ holds d → (d.cells ≡ cells_for c.paired d.listed) × PairsKept d.listed

-- Demand 3
pub record Earliest (c : Call) : Type 0 where
  pub pairs : KeepsPairs c
  pub earliest : OfPrinted NoEarlier c
  pub outputs : OfPrinted OutputsNoEarlier c
  pub timed : OfMappable CoversTimed c
  pub decided : OfMappable Decided c
  pub choice : OfMappable Chosen c

-- ---- either form: "correctness and earliest arrival now range over the graph meant, in either form"

-- a text "within the length in 1" means a graph
pub record Means (bytes : List ℕ) (g : Graph) : Type 0 where
  pub header : Header
  pub short : length bytes ≤ 65536
  pub is_header : read_header bytes ≡ holds header
  pub is_graph : read_graph bytes header ≡ holds g

-- the call with another graph's text
abbrev pub on_graph : Call → List ℕ → Call
on_graph c t = record { paired = c.paired; library = c.library; graph = t; arrivals = c.arrivals; words = c.words; bytes = c.bytes }

-- "A file free of 19 to 21 and its ASCII twin, each within the length in 1, must give the same netlist": what a call's text means, its ASCII form
-- means; and whatever else differs in two texts that mean the same graph, the outcome is the same, netlist, figures or refusal
-- document 02: "ASCII twin"
pub record AsciiForms (c : Call) : Type 0 where
  pub ascii : (g : Graph) → Means c.graph g → length (ascii_text g) ≤ 65536 → Means (ascii_text g) g
  pub same : (t : List ℕ) (g : Graph) → Means c.graph g → Means t g → map_texts (on_graph c t) ≡ map_texts c

-- "Inputs are variables 1 to I and ANDs follow in sequence": 13, 14 and 15 refuse no text in the binary form
abbrev pub Sequenced : Call → Type 0
Sequenced c =
    (h : Header) → read_header c.graph ≡ holds h → h.binary ≡ true
    → (n k : ℕ) → map_texts c ≡ refused n k → (¬ (n ≡ 13)) × (¬ (n ≡ 14)) × (¬ (n ≡ 15))

-- ---- either ending: "Texts alike but for line ends, each within the length in 1, give the same netlist."

-- two texts have the same lines, in the same order, of the same contents, each with its end in both or in neither: so they differ in no more than
-- which of the two ends a line has
abbrev pub Alike : List ℕ → List ℕ → Type 0
Alike s t = map shown (lines_from 0 [] s) ≡ map shown (lines_from 0 [] t)

-- the first word of a text's first line
unfoldable pub first_word : List Line → List ℕ
unfolding fields
first_word [] = []
first_word (l ∷ ls) = get_or (fields l.bytes) 0 []

-- a graph's text in the `aig` form, "known by the header's first word"
unfoldable pub is_binary_text : List ℕ → Bool
unfolding first_word lines_from same text
is_binary_text s = same (first_word (lines_from 0 [] s)) (text "aig")

-- all texts are "within the length in 1"
pub record Short (c : Call) : Type 0 where
  pub library : length c.library ≤ 65536
  pub graph : length c.graph ≤ 65536
  pub arrivals : length c.arrivals ≤ 65536

-- two calls that differ in no more than the ends of their texts' lines. Either ending is accepted "in library and ASCII graph", and lines of arrivals are
-- "ended as library lines are"; a graph in the binary form is the same in both
pub record AlikeTexts (c d : Call) : Type 0 where
  pub paired : c.paired ≡ d.paired
  pub libraries : Alike c.library d.library
  pub graphs : Alike c.graph d.graph
  pub arrivals : Alike c.arrivals d.arrivals
  pub binary : is_binary_text c.graph ≡ true → c.graph ≡ d.graph
  pub words : c.words ≡ d.words
  pub bytes : c.bytes ≡ d.bytes
  pub short : Short c
  pub short_too : Short d

-- where a text's line begins, by its number from 0; behind the last line, where the text ends
unfoldable pub line_start : List ℕ → ℕ → ℕ
unfolding lines_from
line_start s i = get_or (map (λ (l : Line). l.offset) (lines_from 0 [] s)) i (length s)

-- "Offsets still count every byte": the places k of one text and j of the other are those of the same line; or it is one text and one place
abbrev pub SamePlace : List ℕ → List ℕ → ℕ → ℕ → Type 0
SamePlace s t k j = ((i : ℕ) × (line_start s i ≡ k) × (line_start t i ≡ j)) ⊎ ((s ≡ t) × (k ≡ j))

-- the refusals of the arrivals' text
abbrev pub of_arrivals : ℕ → Bool
of_arrivals n = eqb n 25 || eqb n 26

-- the refusals of the library's text
abbrev pub of_library : ℕ → Bool
of_library n = leb n 6 || (eqb n 27 || eqb n 30)

-- the text that a refusal's place is in: 2 to 6, 27 and 30 are the library's, 25 and 26 the arrivals', the others tried before 15 the graph's
unfoldable pub at_fault : ℕ → Call → List ℕ
at_fault n c = cond (of_library n) c.library (cond (of_arrivals n) c.arrivals c.graph)

-- what the one call's texts hold the other's hold, and whatever comes of that comes of both, 15 to 18 at the same place too: the same netlist is
-- printed, with the same figures. A refusal of the one is a refusal of the other and of the same number; where it is one of the texts, at the same line
pub record SameButEnds (c d : Call) : Type 0 where
  pub design : (x : Design) → read_texts c ≡ holds x → read_texts d ≡ holds x
  pub outcome : (x : Design) → read_texts c ≡ holds x → map_texts c ≡ map_texts d
  pub printed : (t : List ℕ) (f : Figures) → map_texts c ≡ mapped t f → map_texts d ≡ mapped t f
  pub refusal : (n k : ℕ) → map_texts c ≡ refused n k → (j : ℕ) × (map_texts d ≡ refused n j)
  pub place : (n k : ℕ) → read_texts c ≡ fault n k → (j : ℕ) × (read_texts d ≡ fault n j) × SamePlace (at_fault n c) (at_fault n d) k j

-- so with every call that is alike this one
abbrev pub EitherEnd : Call → Type 0
EitherEnd c = (d : Call) → AlikeTexts c d → SameButEnds c d

-- ---- "Inputs that arrive late"

-- what the library's text and the graph's hold, with no third text: the inputs arrive at 0
abbrev pub read_untimed : Call → Read Design
read_untimed c =
    unless (leb (length c.library) 65536 && leb (length c.graph) 65536) 1 0
    (next (read_listed c.paired c.library) (λ listed.
    next (read_header c.graph) (λ h.
    unless (leb (need h.size h.outputs) c.words) 10 0
    (next (read_graph c.graph h) (λ g. holds (design_of c listed g))))))

-- the third text is "empty for none": the outcome is then that of the library and the graph alone
pub record Untimed (c : Call) : Type 0 where
  pub reads : c.arrivals ≡ [] → read_texts c ≡ read_untimed c
  pub outcome : c.arrivals ≡ [] → map_texts c ≡ map_design c.bytes (read_untimed c)
  pub zero : (d : Design) → read_untimed c ≡ holds d → (v : ℕ) → d.graph.input_arrival v ≡ 0

-- these lines list input k, "an input's index from 0"
abbrev pub Lists : List InputArrival → ℕ → Type 0
Lists es k = Memᴰ k (map (λ (e : InputArrival). e.index) es)

-- what a call reads of arrivals: each line's index is an input's place in the file, no index is listed twice, the input there arrives as its line says,
-- and "Inputs not listed arrive at 0."
pub record ListedFor (g : Graph) (es : List InputArrival) : Type 0 where
  pub inside : (k : ℕ) → Lists es k → k < length g.inputs
  pub once : Distinct (map (λ (e : InputArrival). e.index) es)
  pub listed : (e : InputArrival) → Memᴰ e es → g.input_arrival (get_or g.inputs e.index 0) ≡ e.arrival
  pub others : (k : ℕ) → k < length g.inputs → (¬ Lists es k) → g.input_arrival (get_or g.inputs k 0) ≡ 0

abbrev pub Listed : Call → Type 0
Listed c = (d : Design) → read_texts c ≡ holds d → (es : List InputArrival) × (read_arrivals (length d.graph.inputs) c.arrivals ≡ holds es) × ListedFor d.graph es

-- ---- the shorter names line and no pairs: what was printed and refused before there were ranges and pairs is so still

-- what the texts hold where the library's is read as it was before there were ranges and pairs
abbrev pub read_former : Call → Read Design
read_former c =
    unless (short c) 1 0
    (next (former_library c.library) (λ cells.
    next (read_header c.graph) (λ h.
    unless (leb (need h.size h.outputs) c.words) 10 0
    (next (read_graph c.graph h) (λ g.
    next (read_arrivals h.inputs c.arrivals) (λ es. holds (record { listed = cells; cells = cells; ranged = false; graph = timed_by g es })))))))

-- and what came of it
unfoldable pub former_outcome : ℕ → Read Design → Outcome
unfolding within map_graph
former_outcome bytes (holds d) = within bytes (map_graph d.listed d.cells d.graph)
former_outcome bytes (fault n k) = refused n k

-- "mapping uses the `d` figures as before": without the longer names line, and where pairs are not wanted, the call reads and answers as before
pub record Former (c : Call) : Type 0 where
  pub reads : c.paired ≡ false → is_ranged c.library ≡ false → read_texts c ≡ read_former c
  pub outcome : c.paired ≡ false → is_ranged c.library ≡ false → map_texts c ≡ former_outcome c.bytes (read_former c)
