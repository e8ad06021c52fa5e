-- The gates, the netlist's text and its figures, and what is printed for a graph that is read.
use Rattle.std.specs.Prelude.{◌+◌, ◌*◌, ◌∷◌, ◌++◌}
use Rattle.base.specs.{ℕ, suc, max, Bool, true, false, cond, not, Option, None, Some, List, [], map, reverse, ltb}
use Rattle.base.specs.{length, take, drop}
use Rattle.model.specs.Base.{keep, each, find, elem, below, lowest}
use Rattle.model.specs.Text.{text, decimal}
use Rattle.model.specs.ReadResult.{Verdict, refused_at, first_of}
use Rattle.model.specs.Cells.{name_of, cell_at}
use Rattle.model.specs.Pairs.{splice, pair_at}
use Rattle.model.specs.Graph.{Graph, topological_order, unordered, var_of, negated, literal}
use Rattle.model.specs.Cuts.{cuts_of, over_limit}
use Rattle.model.specs.Choice.{Phases, no_phases, phase_of, feeds, absent, choices, chosen}
use Rattle.model.specs.declared.Cell.{Cell}
use Rattle.model.specs.declared.Source.{Source}
use Rattle.model.specs.declared.Source.TheVariants.{Input, Cell as Matched, Inverter as Inverted, Nothing}
use Rattle.model.specs.declared.Phase.{Phase}
use Rattle.model.specs.declared.Figures.{Figures}

-- ---- the needed phases

-- an inverter
unfoldable pub is_inverted : Source → Bool
is_inverted Input = false
is_inverted Nothing = false
is_inverted (Matched m) = false
is_inverted (Inverted c) = true

-- a variable's phases, one that an inverter drives before the one that feeds it
unfoldable pub backwards : (ℕ → Phase) → ℕ → List ℕ
unfolding is_inverted literal
backwards phase v = cond (is_inverted (phase (literal false v)).source)
    (literal false v ∷ literal true v ∷ []) (literal true v ∷ literal false v ∷ [])

-- "A phase is needed if an output is that phase or the source of a needed phase is fed by it": each phase after all that it can feed
unfoldable pub spread : List Cell → (ℕ → List (List ℕ)) → (ℕ → Phase) → List ℕ → List ℕ → List ℕ
unfolding elem feeds
spread cells cuts phase [] needed = needed
spread cells cuts phase (l ∷ ls) needed =
    spread cells cuts phase ls (cond (elem l needed) (feeds cells cuts l (phase l).source ++ needed) needed)

-- the needed phases
unfoldable pub needed : List Cell → Graph → (ℕ → Phase) → List ℕ
unfolding spread backwards topological_order each cuts_of
needed cells g phase = spread cells (cuts_of g) phase (each (backwards phase) (reverse (topological_order g))) g.outputs

-- ---- gates

-- a net that a gate drives: phase l's, or, where a pair drives phase l, the one inside the pair
pub data Net : Type 0 where
  of_phase : ℕ → Net
  of_pair : ℕ → Net

-- a gate of the netlist: its cell, which is listed, the nets of its pins in order, and its own net
pub record Gate : Type 0 where
  pub cell : Cell
  pub pins : List Net
  pub net : Net

-- a listed cell that drives phase l, fed by phases
unfoldable pub one_gate : Cell → List ℕ → ℕ → List Gate
one_gate c fed l = record { cell = c; pins = map of_phase fed; net = of_phase l } ∷ []

-- "A pair prints as two gates, the inner first": the inner's pins are the phases from the fed pin's place on, and the net inside feeds that pin
unfoldable pub two_gates : Cell → ℕ → Cell → List ℕ → ℕ → List Gate
unfolding splice
two_gates root pin inner fed l =
    record { cell = inner; pins = take inner.pins (drop pin (map of_phase fed)); net = of_pair l }
    ∷ record { cell = root; pins = splice pin inner.pins (λ (_ : List Net). of_pair l) (map of_phase fed); net = of_phase l }
    ∷ []

-- the gates of phase l by the cell of a number, `listed` being the listed cells
unfoldable pub gates_by : List Cell → ℕ → List ℕ → ℕ → List Gate
unfolding one_gate two_gates cell_at pair_at
gates_by listed k fed l =
    let p = pair_at listed k in
    cond (ltb k (length listed)) (one_gate (cell_at listed k) fed l) (two_gates (cell_at listed p.root) p.pin (cell_at listed p.inner) fed l)

-- "inputs' own positive nets"
unfoldable pub is_input_source : Source → Bool
is_input_source Input = true
is_input_source Nothing = false
is_input_source (Matched m) = false
is_input_source (Inverted c) = false

-- the number of a source's cell
unfoldable pub number_of : Source → ℕ
number_of Input = 0
number_of Nothing = 0
number_of (Matched m) = m.cell
number_of (Inverted c) = c

-- "Needed phases, inputs' own positive nets apart, become gates by ascending variable, `p` first."
unfoldable pub gates : List Cell → List Cell → Graph → (ℕ → Phase) → List Gate
unfolding keep needed elem below feeds gates_by number_of is_input_source cuts_of each
gates listed cells g phase =
    let nets = needed cells g phase in
    each (λ (l : ℕ). gates_by listed (number_of (phase l).source) (feeds cells (cuts_of g) l (phase l).source) l)
    (keep (λ (l : ℕ). cond (elem l nets) (not (is_input_source (phase l).source)) false) (below (2 * suc g.size)))

-- ---- the text

-- "Nets are `p` or `m` (negative) and the variable"
unfoldable pub net_name : ℕ → List ℕ
unfolding decimal negated var_of
net_name l = cond (negated l) 109 112 ∷ decimal (var_of l)

-- the name of a gate's net: "on a net `s` followed by the root's net name"
unfoldable pub label : Net → List ℕ
unfolding net_name
label (of_phase l) = net_name l
label (of_pair l) = 115 ∷ net_name l

-- " A=net" and so on from pin letter b
unfoldable pub pin_words : ℕ → List Net → List ℕ
unfolding label
pin_words b [] = []
pin_words b (n ∷ ns) = 32 ∷ b ∷ 61 ∷ label n ++ pin_words (suc b) ns

-- "a gate line is `.gate`, the cell's name, each pin in order with `=` and its net, then the output likewise": "pins A to D, output O"
unfoldable pub gate_line : Gate → List ℕ
unfolding text pin_words name_of
gate_line t = text ".gate " ++ (name_of t.cell ++ (pin_words 65 t.pins ++ (pin_words 79 (t.net ∷ []) ++ text "\n")))

-- "With no names the second or third line is the keyword alone."
unfoldable pub names_line : List ℕ → List (List ℕ) → List ℕ
unfolding text each
names_line keyword names = keyword ++ (each (λ (name : List ℕ). 32 ∷ name) names ++ text "\n")

-- an output's own name: "`o0`, `o1` and so on, in file order"
unfoldable pub out_name : ℕ → List ℕ
unfolding decimal
out_name k = 111 ∷ decimal k

-- "each gets `.names` with its net and its own name, then `1 1`": the lines of output k, which is phase l
unfoldable pub wire_line : ℕ → ℕ → List ℕ
unfolding text net_name out_name
wire_line k l = text ".names " ++ (net_name l ++ (32 ∷ out_name k ++ text "\n1 1\n"))

-- those of all outputs from output k on
unfoldable pub wire_lines : ℕ → List ℕ → List ℕ
unfolding wire_line
wire_lines k [] = []
wire_lines k (l ∷ ls) = wire_line k l ++ wire_lines (suc k) ls

-- the sum of a list
unfoldable pub sum : List ℕ → ℕ
sum [] = 0
sum (n ∷ ns) = n + sum ns

-- the largest of a list, 0 where it is empty
unfoldable pub largest : List ℕ → ℕ
largest [] = 0
largest (n ∷ ns) = max n (largest ns)

-- "The `# gates` line has the gates written, sum of their areas, arrival of the latest output (0 without outputs)."
unfoldable pub figures_of : Graph → (ℕ → Phase) → List Gate → Figures
unfolding sum largest
figures_of g phase ts = record {
  gates = length ts;
  area = sum (map (λ (t : Gate). t.cell.area) ts);
  arrival = largest (map (λ (l : ℕ). (phase l).arrival) g.outputs);
}

-- `.model top`, the names lines, the gates, "Before `.end`" the outputs' lines, and the `# gates` line: "Inputs and outputs keep the file's order."
unfoldable pub netlist_text : Graph → List Gate → Figures → List ℕ
unfolding text names_line gate_line decimal literal each net_name out_name below wire_lines
netlist_text g ts f =
    text ".model top\n"
    ++ (names_line (text ".inputs") (map (λ (v : ℕ). net_name (literal false v)) g.inputs)
    ++ (names_line (text ".outputs") (map out_name (below (length g.outputs)))
    ++ (each gate_line ts
    ++ (wire_lines 0 g.outputs
    ++ (text ".end\n# gates " ++ (decimal f.gates ++ (text " area " ++ (decimal f.area ++ (text " arrival " ++ (decimal f.arrival ++ text "\n"))))))))))

-- ---- what is printed for a graph that is read

-- "An output has no cover; place, the lowest such index, from 0."
unfoldable pub uncovered : (ℕ → Phase) → ℕ → List ℕ → List ℕ
unfolding absent
uncovered phase k [] = []
uncovered phase k (l ∷ ls) = let rest = uncovered phase (suc k) ls in cond (absent (phase l).source) (k ∷ rest) rest

-- ---- the verdicts of the layers

-- "Some AND can't be placed; place, the lowest such variable."
unfoldable pub order_verdict : Graph → Verdict
unfolding refused_at lowest unordered
order_verdict g = refused_at 15 (lowest (unordered g))

-- "place, the first such variable in placing order"
unfoldable pub cuts_verdict : Graph → Verdict
unfolding refused_at first_of over_limit
cuts_verdict g = refused_at 16 (first_of (over_limit g))

-- "place, the lowest such index, from 0"
unfoldable pub cover_verdict : List Cell → Graph → Verdict
unfolding refused_at first_of uncovered chosen
cover_verdict cells g = refused_at 17 (first_of (uncovered (chosen cells g) 0 g.outputs))

-- ---- the netlist, or a refusal of 15 to 17

-- a refusal's number and place, or the text with its figures
pub data Outcome : Type 0 where
  refused : ℕ → ℕ → Outcome
  mapped : List ℕ → Figures → Outcome

-- the netlist, unless some output is uncovered
unfoldable pub printed : List Cell → List Cell → Graph → (ℕ → Phase) → List ℕ → Outcome
unfolding gates figures_of netlist_text
printed listed cells g phase (k ∷ ks) = refused 17 k
printed listed cells g phase [] = let ts = gates listed cells g phase in let f = figures_of g phase ts in mapped (netlist_text g ts f) f

-- what is printed for the choice
unfoldable pub map_chosen : List Cell → List Cell → Graph → List (ℕ × Phases) → Outcome
unfolding printed uncovered phase_of find no_phases
map_chosen listed cells g found = let phase = phase_of (λ u. find no_phases u found) in printed listed cells g phase (uncovered phase 0 g.outputs)

-- the choice, unless some AND has too many cuts
unfoldable pub map_cut : List Cell → List Cell → Graph → List ℕ → Outcome
unfolding map_chosen choices
map_cut listed cells g (v ∷ vs) = refused 16 v
map_cut listed cells g [] = map_chosen listed cells g (choices cells g)

-- the cuts, unless some AND can't be ordered: "place, the lowest such variable"
unfoldable pub map_ordered : List Cell → List Cell → Graph → Option ℕ → Outcome
unfolding map_cut over_limit
map_ordered listed cells g (Some v) = refused 15 v
map_ordered listed cells g None = map_cut listed cells g (over_limit g)

-- what is printed for a library and a graph, 15 to 17 tried in this order: `cells` are the listed cells, and pairs where they are wanted
unfoldable pub map_graph : List Cell → List Cell → Graph → Outcome
unfolding map_ordered lowest unordered
map_graph listed cells g = map_ordered listed cells g (lowest (unordered g))
