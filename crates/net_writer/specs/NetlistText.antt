-- The gates, the nets of the names lines, the figures and the text, as the lent words have them.
use Rattle.std.specs.Prelude.{◌∷◌, ◌++◌, ◌+◌, ◌*◌, ◌/◌, ◌≤◌, ◌<◌}
use Rattle.base.specs.{Bool, false, cond, List, [], map, ℕ, zero, suc, ltb, length, take, get_or}
use Rattle.model.specs.{from, each, cut_limit, orders, text, decimal, var_of, literal, opposite, fed_nets, Gate, one_gate, net_name, label}
use Rattle.model.specs.{out_name, pin_words, gate_line, wire_line, sum, largest}
use Rattle.model.specs.declared.Cell.{Cell}
use Rattle.model.specs.declared.Header.{Header}
use Rattle.model.specs.declared.Match.{Match}
use Rattle.model.specs.declared.Figures.{Figures}
use Rattle.model.specs.declared.Source.{Source}
use Rattle.model.specs.declared.Source.TheVariants.{Input, Cell as Matched, Inverter as Inverted, Nothing}
use Rattle.base_words.specs.{HasCapacity, HasCapacityFor, slot_at, output_at, cut_of, phase_at, makes_gate, is_needed}
use Rattle.cells_pairs.specs.{line_cell}
use Rattle.net_gates.specs.{net_of, pins_by, gates_under, LineReady, NumberReady}
use Rattle.net_writer.specs.declared.Tally.{Tally}
use Rattle.model.specs.declared.Mapped.{Mapped as Measured}

-- ---- gates

-- what makes a match's gate: its cell's number is in the list of cell records, and its cut and its order are there
pub record MatchReady (records : List ℕ) (x : Match) : Type 0 where
  pub cut : x.cut < cut_limit
  pub order : x.order < 24
  pub number : NumberReady records x.cell

abbrev pub SourceReady : List ℕ → Source → Type 0
SourceReady records Input = Unit {0}
SourceReady records Nothing = Unit {0}
SourceReady records (Matched x) = MatchReady records x
SourceReady records (Inverted c) = LineReady records c

-- the gates of the words can be made
pub record GatesWritable (w records : List ℕ) (m : ℕ) : Type 0 where
  pub capacity : HasCapacity w m
  pub sources : (l : ℕ) → l / 2 ≤ m → SourceReady records (phase_at w m l).source

-- the words of pins with nets of given numbers, from pin letter b on
abbrev pub net_words : ℕ → List ℕ → List ℕ
net_words b nets = pin_words b (map net_of nets)

-- the word of one pin, of letter b
abbrev pub pin_word : ℕ → ℕ → List ℕ
pin_word b net = 32 ∷ b ∷ 61 ∷ label (net_of net)

-- that of pin j among an array's first, none for an absent pin
unfoldable pub pin_part : List ℕ → ℕ → ℕ → List ℕ
pin_part nets count j = cond (ltb j count) (pin_word (65 + j) (get_or nets j 0)) []

-- the line of a gate with nets of given numbers
abbrev pub line_of : Cell → List ℕ → ℕ → List ℕ
line_of c nets net = gate_line (record { cell = c; pins = map net_of nets; net = net_of net })

-- its bytes, counted by its parts
abbrev pub line_length : Cell → List ℕ → ℕ → ℕ
line_length c nets net = length (take c.len c.name) + length (net_words 65 nets) + length (label (net_of net)) + 10

-- the gates of phase l by a match, and by an inverter
unfoldable pub matched_gates : List ℕ → List ℕ → ℕ → ℕ → Match → List Gate
unfolding var_of fed_nets orders gates_under pins_by
matched_gates w records m l x = gates_under records x.cell (fed_nets (pins_by records x.cell) (get_or orders x.order []) x.mask (cut_of w m (var_of l) x.cut).leaves) l

unfoldable pub inverted_gates : List ℕ → ℕ → ℕ → List Gate
unfolding opposite one_gate
inverted_gates records l c = one_gate (line_cell records c) (opposite l ∷ []) l

-- the gates that a source of phase l makes
unfoldable pub gate_by : List ℕ → List ℕ → ℕ → ℕ → Source → List Gate
gate_by w records m l Input = []
gate_by w records m l Nothing = []
gate_by w records m l (Matched x) = matched_gates w records m l x
gate_by w records m l (Inverted c) = inverted_gates records l c

-- the gates of phase l, if it is needed and no input's own net
unfoldable pub gate_at : List ℕ → List ℕ → ℕ → ℕ → List Gate
unfolding gate_by
gate_at w records m l = cond (is_needed w m l) (gate_by w records m l (phase_at w m l).source) []

-- whether phase l becomes a gate
unfoldable pub is_gate_at : List ℕ → ℕ → ℕ → Bool
unfolding makes_gate
is_gate_at w m l = cond (is_needed w m l) (makes_gate (phase_at w m l).source) false

-- the first of n phases from l on that becomes a gate, and the end of them where none does
unfoldable pub gate_from : List ℕ → ℕ → ℕ → ℕ → ℕ
unfolding is_gate_at
gate_from w m l zero = l
gate_from w m l (suc n) = cond (is_gate_at w m l) l (gate_from w m (suc l) n)

-- the gates of n phases from l on
unfoldable pub gates_from : List ℕ → List ℕ → ℕ → ℕ → ℕ → List Gate
unfolding each from gate_at
gates_from w records m l n = each (gate_at w records m) (from l n)

-- ---- figures

-- so many bytes, gates and so much area more
unfoldable pub tallied : Tally → List Gate → Tally
unfolding each sum
tallied t ts = record {
  length = t.length + length (each gate_line ts);
  gates = t.gates + length ts;
  area = t.area + sum (map (λ (u : Gate). u.cell.area) ts);
}

abbrev pub no_tally : Tally
no_tally = record { length = 0; gates = 0; area = 0 }

-- a tally of the gates of at most n phases, two a phase
pub record Bounded (t : Tally) (n : ℕ) : Type 0 where
  pub length : t.length ≤ 180 * n
  pub gates : t.gates ≤ 2 * n
  pub area : t.area ≤ 131070 * n

-- one gate more can be counted, and has been
pub record OneMoreFits (t : Tally) : Type 0 where
  pub length : t.length ≤ 2147483647
  pub gates : t.gates ≤ 2147483647
  pub area : t.area ≤ 2147483647

pub record Grown (t r : Tally) : Type 0 where
  pub length : r.length ≤ t.length + 90
  pub gates : r.gates ≤ t.gates + 1
  pub area : r.area ≤ t.area + 65535

-- ---- the names lines, and the outputs' wires

-- the names of the words can be made
pub record Named (w : List ℕ) (m inputs outputs : ℕ) : Type 0 where
  pub capacity : HasCapacityFor w m outputs
  pub few_inputs : inputs ≤ m
  pub few_outputs : outputs ≤ 4096
  pub within : (i : ℕ) → i < outputs → output_at w m i / 2 ≤ m

-- the net of input i
unfoldable pub input_net : List ℕ → ℕ → ℕ → ℕ
unfolding literal
input_net w m i = literal false (slot_at w m (i + 1))

-- the names of n inputs, and of n outputs, from i on
unfoldable pub input_names_from : List ℕ → ℕ → ℕ → ℕ → List (List ℕ)
unfolding from net_name input_net
input_names_from w m i n = map (λ (k : ℕ). net_name (input_net w m k)) (from i n)

unfoldable pub output_names_from : ℕ → ℕ → List (List ℕ)
unfolding from out_name
output_names_from i n = map out_name (from i n)

-- each name with the space before it, as `names_line` has them
unfoldable pub spaced : List (List ℕ) → List ℕ
unfolding each
spaced names = each (λ (name : List ℕ). 32 ∷ name) names

-- the lines of n outputs' wires from output i on
unfoldable pub wire_lines_from : List ℕ → ℕ → ℕ → ℕ → List ℕ
unfolding each from wire_line
wire_lines_from w m i n = each (λ (k : ℕ). wire_line k (output_at w m k)) (from i n)

-- the bytes of one output's lines, counted by their parts
abbrev pub wire_length : ℕ → ℕ → ℕ
wire_length k l = length (net_name l) + length (out_name k) + 13

-- the latest of n outputs from i on
unfoldable pub latest_from : List ℕ → ℕ → ℕ → ℕ → ℕ
unfolding from largest
latest_from w m i n = largest (map (λ (k : ℕ). (phase_at w m (output_at w m k)).arrival) (from i n))

-- ---- the netlist

-- the lines before the gates, and those behind the wires
unfoldable pub preamble_text : List ℕ → ℕ → ℕ → ℕ → List ℕ
unfolding text
preamble_text w m inputs outputs =
    text ".model top\n.inputs" ++ (spaced (input_names_from w m 0 inputs) ++ (text "\n.outputs" ++ (spaced (output_names_from 0 outputs) ++ text "\n")))

unfoldable pub figures_text : Figures → List ℕ
unfolding text decimal
figures_text f = text ".end\n# gates " ++ (decimal f.gates ++ (text " area " ++ (decimal f.area ++ (text " arrival " ++ (decimal f.arrival ++ text "\n")))))

-- their bytes, counted by their parts
abbrev pub preamble_length : List ℕ → ℕ → ℕ → ℕ → ℕ
preamble_length w m inputs outputs = length (spaced (input_names_from w m 0 inputs)) + length (spaced (output_names_from 0 outputs)) + 28

abbrev pub figures_length : Figures → ℕ
figures_length f = length (decimal f.gates) + length (decimal f.area) + length (decimal f.arrival) + 29

unfoldable pub all_gates : List ℕ → List ℕ → Header → List Gate
unfolding gates_from
all_gates w records h = gates_from w records h.size 0 (2 * (h.size + 1))

unfoldable pub figures_in : List ℕ → List ℕ → Header → Figures
unfolding all_gates sum latest_from
figures_in w records h = record {
  gates = length (all_gates w records h);
  area = sum (map (λ (u : Gate). u.cell.area) (all_gates w records h));
  arrival = latest_from w h.size 0 h.outputs;
}

unfoldable pub text_in : List ℕ → List ℕ → Header → Figures → List ℕ
unfolding each all_gates
text_in w records h f =
    preamble_text w h.size h.inputs h.outputs
    ++ (each gate_line (all_gates w records h) ++ (wire_lines_from w h.size 0 h.outputs ++ figures_text f))

abbrev pub text_length : List ℕ → List ℕ → Header → Figures → ℕ
text_length w records h f =
    length (preamble_text w h.size h.inputs h.outputs)
    + (length (each gate_line (gates_from w records h.size 0 (2 * (h.size + 1)))) + (length (wire_lines_from w h.size 0
    h.outputs) + length (figures_text f)))

unfoldable pub measured_in : List ℕ → List ℕ → Header → Measured
unfolding text_in figures_in
measured_in w records h = record { length = length (text_in w records h (figures_in w records h)); figures = figures_in w records h }

-- bounds of what is measured
pub record Small (r : Measured) : Type 0 where
  pub length : r.length < 2097152
  pub gates : r.figures.gates ≤ 16384
  pub area : r.figures.area < 1073741824
