-- BLIF, as far as the netlist uses it: a text read, and the values and arrivals of its nets. Apart from the writer.
use Rattle.std.specs.Prelude.{◌+◌, ◌-◌, ◌*◌, ◌≤◌, ◌≡◌, ◌&&◌, ◌∷◌}
use Rattle.base.specs.{ℕ, Bool, cond, Option, None, Some, List, [], map, Memᴰ, eqb, length, get_or}
use Rattle.model.specs.Base.{same, and_then, only, below}
use Rattle.model.specs.Text.{text, parts, fields, between}
use Rattle.model.specs.Table.{value, row_of}
use Rattle.model.specs.Cells.{name_of, no_cell}
use Rattle.model.specs.Choice.{latest}
use Rattle.model.specs.declared.Cell.{Cell}
use Rattle.model.specs.declared.Figures.{Figures}

-- ---- the text

-- `pin=net`
pub record Binding : Type 0 where
  pub pin : List ℕ
  pub net : List ℕ

-- a gate line: the name of its cell, and what its pins are bound to
pub record GateLine : Type 0 where
  pub cell : List ℕ
  pub bindings : List Binding

-- `.names source target` with the one row `1 1`: the target is 1 where the source is, and nowhere else
pub record Wire : Type 0 where
  pub source : List ℕ
  pub target : List ℕ

-- a model: its inputs, outputs, gates and wires
pub record Blif : Type 0 where
  pub inputs : List (List ℕ)
  pub outputs : List (List ℕ)
  pub gates : List GateLine
  pub wires : List Wire

-- a binding whose pin's name has one byte more in front
unfoldable pub longer : ℕ → Binding → Binding
longer b p = record { pin = b ∷ p.pin; net = p.net }

-- a word `pin=net`, parted at the first `=`
unfoldable pub binding : List ℕ → Option Binding
unfolding and_then longer
binding [] = None
binding (b ∷ bs) = let rest = binding bs in cond (eqb b 61) (Some (record { pin = []; net = bs })) (and_then rest (λ p. Some (longer b p)))

-- the bindings of a gate line
unfoldable pub bindings_of : List (List ℕ) → Option (List Binding)
unfolding and_then binding
bindings_of [] = Some []
bindings_of (w ∷ ws) = and_then (binding w) (λ p. and_then (bindings_of ws) (λ ps. Some (p ∷ ps)))

-- the words after a first word that is the keyword
unfoldable pub after_word : List ℕ → List (List ℕ) → Option (List (List ℕ))
unfolding same only
after_word keyword [] = None
after_word keyword (w ∷ ws) = only (same w keyword) ws

-- the words of a line after its keyword, one space between
unfoldable pub words_after : List ℕ → List ℕ → Option (List (List ℕ))
unfolding after_word parts
words_after keyword l = after_word keyword (parts 32 l)

-- the cell's name, and the bindings
unfoldable pub gate_of : List (List ℕ) → Option GateLine
unfolding bindings_of and_then
gate_of [] = None
gate_of (c ∷ ws) = and_then (bindings_of ws) (λ ps. Some (record { cell = c; bindings = ps }))

-- a line `.gate`
unfoldable pub read_gate : List ℕ → Option GateLine
unfolding and_then words_after text gate_of
read_gate l = and_then (words_after (text ".gate") l) gate_of

-- two words
unfoldable pub wire_of : List (List ℕ) → Option Wire
wire_of [] = None
wire_of (a ∷ []) = None
wire_of (a ∷ b ∷ []) = Some (record { source = a; target = b })
wire_of (a ∷ b ∷ c ∷ ws) = None

-- a line `.names` of two nets, and behind it the row `1 1`: with any other row it is no wire
unfoldable pub read_wire : List ℕ → List ℕ → Option Wire
unfolding same text and_then only words_after wire_of
read_wire l row = and_then (only (same row (text "1 1")) l) (λ k. and_then (words_after (text ".names") k) wire_of)

-- wires up to `.end`
unfoldable pub read_wires : List (List ℕ) → Option (List Wire)
unfolding same text and_then read_wire
read_wires [] = None
read_wires (l ∷ []) = cond (same l (text ".end")) (Some []) None
read_wires (l ∷ row ∷ ls) =
    let rest = read_wires ls in
    cond (same l (text ".end")) (Some []) (and_then (read_wire l row) (λ x. and_then rest (λ xs. Some (x ∷ xs))))

-- gates, and the wires behind them
pub record Body : Type 0 where
  pub gates : List GateLine
  pub wires : List Wire

-- a gate before what follows it, or else wires alone
unfoldable pub body_from : Option GateLine → Option Body → Option (List Wire) → Option Body
unfolding and_then
body_from (Some t) rest wires = and_then rest (λ b. Some (record { gates = t ∷ b.gates; wires = b.wires }))
body_from None rest wires = and_then wires (λ xs. Some (record { gates = []; wires = xs }))

-- the lines of gates and wires, up to `.end`
unfoldable pub read_body : List (List ℕ) → Option Body
unfolding read_gate read_wires body_from
read_body [] = None
read_body (l ∷ ls) =
    let rest = read_body ls in
    let wires = read_wires (l ∷ ls) in
    body_from (read_gate l) rest wires

-- `.model top`, `.inputs`, `.outputs`, the gates, the wires
unfoldable pub read_lines : List (List ℕ) → Option Blif
unfolding same text words_after read_body and_then
read_lines [] = None
read_lines (m ∷ []) = None
read_lines (m ∷ i ∷ []) = None
read_lines (m ∷ i ∷ o ∷ ls) = cond (same m (text ".model top"))
    (and_then (words_after (text ".inputs") i) (λ is.
    and_then (words_after (text ".outputs") o) (λ os.
    and_then (read_body ls) (λ b. Some (record { inputs = is; outputs = os; gates = b.gates; wires = b.wires })))))
    None

-- a model with its inputs, outputs, gates and wires
unfoldable pub read_blif : List ℕ → Option Blif
unfolding read_lines parts
read_blif bytes = read_lines (parts 10 bytes)

-- ---- the `# gates` line

-- the number of decimal digits, behind one that was read so far
unfoldable pub digits_from : ℕ → List ℕ → Option ℕ
unfolding and_then only between
digits_from n [] = Some n
digits_from n (b ∷ bs) = and_then (only (between 48 57 b) (b - 48)) (λ d. digits_from (n * 10 + d) bs)

-- a number of any size in decimal without leading zeros: 0 alone, or a first digit that is not 0
unfoldable pub figure : List ℕ → Option ℕ
unfolding digits_from
figure [] = None
figure (b ∷ []) = digits_from 0 (b ∷ [])
figure (b ∷ c ∷ bs) = cond (eqb b 48) None (digits_from 0 (b ∷ c ∷ bs))

-- the line behind `.end`
unfoldable pub behind_end : List (List ℕ) → Option (List ℕ)
unfolding same text
behind_end [] = None
behind_end (l ∷ []) = None
behind_end (l ∷ k ∷ ls) = let later = behind_end (k ∷ ls) in cond (same l (text ".end")) (Some k) later

-- the words `# gates N area N arrival N`, one space between
unfoldable pub read_figure_words : List (List ℕ) → Option Figures
unfolding and_then only same text figure
read_figure_words ws =
    and_then (only (eqb (length ws) 7 && (same (get_or ws 0 []) (text "#") && (same (get_or ws 1 []) (text "gates")
    && (same (get_or ws 3 []) (text "area") && same (get_or ws 5 []) (text "arrival"))))) ws) (λ _.
    and_then (figure (get_or ws 2 [])) (λ count.
    and_then (figure (get_or ws 4 [])) (λ area.
    and_then (figure (get_or ws 6 [])) (λ arrival.
    Some (record { gates = count; area = area; arrival = arrival })))))

-- "the three figures of its `# gates` line": the line behind `.end`; what follows it is not read
unfoldable pub read_figures : List ℕ → Option Figures
unfolding and_then parts behind_end fields read_figure_words
read_figures bytes = and_then (behind_end (parts 10 bytes)) (λ l. read_figure_words (fields l))

-- ---- the `# timing` lines

-- "as `# timing o0 30 35`: a low and a high arrival"
pub record TimingLine : Type 0 where
  pub output : List ℕ
  pub low : ℕ
  pub high : ℕ

-- the words `# timing NAME N N`
unfoldable pub read_timing_words : List (List ℕ) → Option TimingLine
unfolding and_then only same text figure
read_timing_words ws =
    and_then (only (eqb (length ws) 5 && (same (get_or ws 0 []) (text "#") && same (get_or ws 1 []) (text "timing"))) ws) (λ _.
    and_then (figure (get_or ws 3 [])) (λ low.
    and_then (figure (get_or ws 4 [])) (λ high.
    Some (record { output = get_or ws 2 []; low = low; high = high }))))

-- lines that are all of this form
unfoldable pub read_timing_lines : List (List ℕ) → Option (List TimingLine)
unfolding and_then fields read_timing_words
read_timing_lines [] = Some []
read_timing_lines (l ∷ ls) = let rest = read_timing_lines ls in and_then (read_timing_words (fields l)) (λ x. and_then rest (λ xs. Some (x ∷ xs)))

-- the lines behind the `# gates` line
unfoldable pub behind_figures : List (List ℕ) → List (List ℕ)
unfolding same text
behind_figures [] = []
behind_figures (l ∷ []) = []
behind_figures (l ∷ k ∷ ls) = let later = behind_figures (k ∷ ls) in cond (same l (text ".end")) ls later

-- "The netlist is then followed by a line per output": all that follows the `# gates` line
unfoldable pub read_timings : List ℕ → Option (List TimingLine)
unfolding parts behind_figures read_timing_lines
read_timings bytes = read_timing_lines (behind_figures (parts 10 bytes))

-- ---- its meaning, with the library's cells

-- the cell of a name
unfoldable pub named : List Cell → List ℕ → Cell
unfolding same name_of
named [] name = no_cell
named (c ∷ cs) name = let r = named cs name in cond (same (name_of c) name) c r

-- the net that a pin is bound to
unfoldable pub net_at : List Binding → List ℕ → List ℕ
unfolding same
net_at [] pin = []
net_at (p ∷ ps) pin = let r = net_at ps pin in cond (same p.pin pin) p.net r

-- "pins A to D, output O"
unfoldable pub pin_names : ℕ → List (List ℕ)
unfolding below
pin_names n = map (λ (j : ℕ). (65 + j) ∷ []) (below n)

-- "output O"
abbrev pub output_name : List ℕ
output_name = 79 ∷ []

-- the net that a gate drives
unfoldable pub drives : GateLine → List ℕ
unfolding net_at
drives t = net_at t.bindings output_name

-- the nets that feed a gate's pins, in order
unfoldable pub fed_by : List Cell → GateLine → List (List ℕ)
unfolding net_at named pin_names
fed_by cells t = map (net_at t.bindings) (pin_names (named cells t.cell).pins)

-- the nets' values w hold: an input net has its input's value, a gate's net its cell's value at its pins, and an output "is read at its `o` name",
-- which has its net's value
pub record NetValues (cells : List Cell) (n : Blif) (assignment : List Bool) (w : List ℕ → Bool) : Type 0 where
  pub at_inputs : map w n.inputs ≡ assignment
  pub at_gates : (t : GateLine) → Memᴰ t n.gates → w (drives t) ≡ value (named cells t.cell).table (row_of (map w (fed_by cells t)))
  pub at_wires : (x : Wire) → Memᴰ x n.wires → w x.target ≡ w x.source

-- a choice of pin delays, "fixed separately per gate": those of each gate line, its first pin's first. No two gate lines are equal, for no net is driven
-- twice
abbrev pub Delays : Type 0
Delays = GateLine → List ℕ

-- the delays of a gate line's pins under a choice
abbrev pub delays_at : Delays → GateLine → List ℕ
delays_at delays t = delays t

-- the arrivals of the nets under a choice of pin delays: an input net has its input's time, of those given in the inputs' order, a gate's net what the rule
-- gives, and the `.names` lines "aren't gates and add no delay": an output's own name arrives as its net
pub record NetTimes (cells : List Cell) (delays : Delays) (n : Blif) (times : List ℕ) (at : List ℕ → ℕ) : Type 0 where
  pub at_inputs : map at n.inputs ≡ times
  pub at_gates : (t : GateLine) → Memᴰ t n.gates → at (drives t) ≡ latest (map at (fed_by cells t)) (delays_at delays t)
  pub at_wires : (x : Wire) → Memᴰ x n.wires → at x.target ≡ at x.source

-- "A printed net's arrival follows the same rule over the gate lines, in whatever order they stand, with the library text's `d` delays."
abbrev pub NetArrivals : List Cell → Blif → List ℕ → (List ℕ → ℕ) → Type 0
NetArrivals cells n times at = NetTimes cells (λ t. (named cells t.cell).delays) n times at

-- a choice of pin delays, "each within its range": from the lowest of its cell's pin to the `d` delay
abbrev pub InRange : List Cell → Delays → Blif → Type 0
InRange cells delays n =
    (t : GateLine) → Memᴰ t n.gates → (j : ℕ)
    → (get_or (named cells t.cell).mins j 0 ≤ get_or (delays_at delays t) j 0) × (get_or (delays_at delays t) j 0 ≤ get_or (named cells t.cell).delays j 0)
