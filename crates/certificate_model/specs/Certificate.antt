-- A certificate of moves. A block has four variables of the graph as leaves, and some variables and nets with tables of 16 rows over them, each in a slot.
--     block a b c d      four variables become the leaves of a new block, in slots 1 to 4; slot 0 has the constant. What is known of nets and variables stays
--     and i j k          AND number i of the graph has the AND of its operands' tables, whose variables are in slots j and k
--     alias i j          by equality number i a variable is a literal: it has this literal's table, whose variable is in slot j
--     pin i j            by fact number i a net is a literal: it has this literal's table, whose variable is in slot j
--     add line n slots   a gate of the listed cell drives net n, which nothing drives yet. The nets of its pins are in these slots
--     again k slots      gate number k once more, over these leaves: its pins' nets are in these slots
--     done i j l         the net in slot i has the table of literal l, whose variable is in slot j: from now on a fact
--     fold i j l         the variable in slot i has the table of literal l, whose variable is in slot j: from now on an equality
-- A net is a number, named as phases are: numbers up to 2M+1 are the graph's literals, and any above may be taken too. The certificate comes from outside, and
-- nothing of it is believed. Every look-up is by a number that it gives, so no move searches. Nothing here depends on the size of the graph.
use Rattle.std.specs.Prelude.{◌&&◌, ◌∷◌, ◌++◌}
use Rattle.base.specs.{ℕ, suc, Bool, true, false, cond, Option, None, Some, List, [], map, eqb, ltb, leb}
use Rattle.base.specs.{length, get_or, set, take, replicate}
use Rattle.model.specs.{bit, flip, and_then, only, text, decimal, value, row_of, tabulate, cell_at, And, var_of, negated, literal, latest, Gate, of_phase, out_name, netlist_text, sum}
use Rattle.model.specs.{largest}
use Rattle.model.specs.Graph.{Graph}
use Rattle.model.specs.declared.Cell.{Cell}
use Rattle.model.specs.declared.Figures.{Figures}
use Rattle.certificate_model.specs.declared.Row.{Row}
use Rattle.certificate_model.specs.declared.Feed.{Feed}

pub data Move : Type 0 where
  block : Row → Move
  and : ℕ → ℕ → ℕ → Move
  alias : ℕ → ℕ → Move
  pin : ℕ → ℕ → Move
  add : ℕ → ℕ → Row → Move
  again : ℕ → Row → Move
  done : ℕ → ℕ → ℕ → Move
  fold : ℕ → ℕ → ℕ → Move

-- a gate that was added: its net and its cell's line, and the nets of its pins
pub record Made : Type 0 where
  pub gate : Row
  pub fed : Row

-- the state of the check: the block's variables and nets by slot, the facts and equalities and the gates in the order in which they came, and for each net
-- 1 where it is driven and else 0
pub record State : Type 0 where
  pub vars : List Row
  pub nets : List Row
  pub facts : List Row
  pub equals : List Row
  pub gates : List Made
  pub driven : List ℕ

-- how many facts, equalities and gates there is room for
pub record HasCapacity : Type 0 where
  pub facts : ℕ
  pub equals : ℕ
  pub gates : ℕ

-- ---- rows

unfoldable pub row : ℕ → ℕ → ℕ → ℕ → Row
row a b c d = record { a = a; b = b; c = c; d = d }

abbrev pub no_row : Row
no_row = record { a = 0; b = 0; c = 0; d = 0 }

unfoldable pub no_made : Made
no_made = record { gate = no_row; fed = no_row }

-- the row of a number, where there is one
unfoldable pub at : List Row → ℕ → Option Row
unfolding only
at rows i = only (ltb i (length rows)) (get_or rows i no_row)

-- a row more at the end, where there is room
unfoldable pub push : ℕ → List Row → Row → Option (List Row)
unfolding only
push capacity rows e = only (ltb (length rows) capacity) (rows ++ (e ∷ []))

unfoldable pub same_row : Row → Row → Bool
same_row x y = eqb x.a y.a && (eqb x.b y.b && (eqb x.c y.c && eqb x.d y.d))

-- ---- tables of 16 rows

-- leaf i's table: its value in row r is bit i of r
unfoldable pub leaf_table : ℕ → ℕ
unfolding tabulate bit
leaf_table i = tabulate (λ r. bit r i) 16

-- a table in a phase
unfoldable pub phased : Bool → ℕ → ℕ
unfolding tabulate flip bit
phased neg t = tabulate (λ r. flip neg (bit t r)) 16

unfoldable pub conj : ℕ → ℕ → ℕ
unfolding tabulate bit
conj s t = tabulate (λ r. bit s r && bit t r) 16

-- the table of a cell with a table of its own, over its pins' tables
unfoldable pub gate_table : ℕ → List ℕ → ℕ
unfolding tabulate value row_of bit
gate_table table ts = tabulate (λ r. value table (row_of (map (λ (t : ℕ). bit t r) ts))) 16

-- "variable 0 is constant false", and the leaves
unfoldable pub block_vars : Row → List Row
unfolding row leaf_table
block_vars x =
    row 0 0 0 0 ∷ row x.a (leaf_table 0) 0 0 ∷ row x.b (leaf_table 1) 0 0 ∷ row x.c (leaf_table 2) 0 0 ∷ row x.d (leaf_table 3) 0 0 ∷ []

-- the table of literal l, whose variable is in slot i
unfoldable pub lit_table : List Row → ℕ → ℕ → Option ℕ
unfolding and_then only at phased var_of negated
lit_table vars i l = and_then (at vars i) (λ e. only (eqb e.a (var_of l)) (phased (negated l) e.b))

-- ---- a gate's pins

-- the row of the net of pin j, which is in slot i; no row where the cell has no such pin
unfoldable pub fed_at : List Row → ℕ → ℕ → ℕ → Option Row
unfolding at
fed_at nets pins j i = cond (ltb j pins) (at nets i) (Some no_row)

-- of all four pins
unfoldable pub feed_rows : List Row → ℕ → Row → Option Feed
unfolding and_then fed_at
feed_rows nets pins slots =
    and_then (fed_at nets pins 0 slots.a) (λ p.
    and_then (fed_at nets pins 1 slots.b) (λ q.
    and_then (fed_at nets pins 2 slots.c) (λ r.
    and_then (fed_at nets pins 3 slots.d) (λ t.
    Some (record { first = p; second = q; third = r; fourth = t })))))

-- what a field of the pins' rows says, of as many as the cell has pins
unfoldable pub pin_nets : ℕ → Row → List ℕ
pin_nets pins x = take pins (x.a ∷ x.b ∷ x.c ∷ x.d ∷ [])

unfoldable pub feed_pins : Feed → Row
unfolding row
feed_pins f = row f.first.a f.second.a f.third.a f.fourth.a

unfoldable pub feed_tables : Feed → Row
unfolding row
feed_tables f = row f.first.b f.second.b f.third.b f.fourth.b

-- the latest arrivals, or the earliest
unfoldable pub feed_arrivals : Bool → Feed → Row
unfolding row
feed_arrivals true f = row f.first.c f.second.c f.third.c f.fourth.c
feed_arrivals false f = row f.first.d f.second.d f.third.d f.fourth.d

-- the row of the net that a gate drives: its table, and its arrivals by the highest delays and by the lowest, where they are below 2^32
unfoldable pub gate_row : Cell → ℕ → Feed → Option Row
unfolding only row gate_table latest pin_nets feed_tables feed_arrivals
gate_row c n f =
    let high = latest (pin_nets c.pins (feed_arrivals true f)) c.delays in
    let low = latest (pin_nets c.pins (feed_arrivals false f)) c.mins in
    only (leb high 4294967295 && leb low 4294967295) (row n (gate_table c.table (pin_nets c.pins (feed_tables f))) high low)

-- ---- moves

-- a variable has a table
unfoldable pub push_var : State → ℕ → ℕ → Option State
unfolding and_then push row
push_var s u t = and_then (push 64 s.vars (row u t 0 0)) (λ vs.
    Some (record { vars = vs; nets = s.nets; facts = s.facts; equals = s.equals; gates = s.gates; driven = s.driven }))

-- a net has a table and arrivals
unfoldable pub push_net : State → Row → Option State
unfolding and_then push
push_net s e = and_then (push 64 s.nets e) (λ ns.
    Some (record { vars = s.vars; nets = ns; facts = s.facts; equals = s.equals; gates = s.gates; driven = s.driven }))

-- a net is known to be a literal
unfoldable pub push_fact : HasCapacity → State → Row → Option State
unfolding and_then push
push_fact capacity s e = and_then (push capacity.facts s.facts e) (λ fs.
    Some (record { vars = s.vars; nets = s.nets; facts = fs; equals = s.equals; gates = s.gates; driven = s.driven }))

-- a variable is known to be a literal
unfoldable pub push_equal : HasCapacity → State → Row → Option State
unfolding and_then push
push_equal capacity s e = and_then (push capacity.equals s.equals e) (λ es.
    Some (record { vars = s.vars; nets = s.nets; facts = s.facts; equals = es; gates = s.gates; driven = s.driven }))

-- a gate as it is kept
unfoldable pub made_of : ℕ → ℕ → Feed → Made
unfolding row feed_pins
made_of n line f = record { gate = row n line 0 0; fed = feed_pins f }

-- a gate more, whose net is driven from now on
unfoldable pub with_gate : State → Made → State
with_gate s x = record { vars = s.vars; nets = s.nets; facts = s.facts; equals = s.equals; gates = s.gates ++ (x ∷ []); driven = set s.driven x.gate.a 1 }

-- the gate of a number
unfoldable pub gate_at : List Made → ℕ → Option Made
unfolding only no_made
gate_at xs k = only (ltb k (length xs)) (get_or xs k no_made)

-- the AND of a number
unfoldable pub and_at : List And → ℕ → Option And
unfolding only
and_at xs i = only (ltb i (length xs)) (get_or xs i (record { var = 0; left = 0; right = 0 }))

unfoldable pub move : HasCapacity → List Cell → Graph → State → Move → Option State
unfolding and_then only row at lit_table and_at gate_at feed_rows feed_pins gate_row block_vars conj push_var push_net push_fact push_equal with_gate made_of same_row cell_at
move capacity cells g s (block x) =
    Some (record { vars = block_vars x; nets = []; facts = s.facts; equals = s.equals; gates = s.gates; driven = s.driven })
move capacity cells g s (and i j k) =
    and_then (and_at g.ands i) (λ x.
    and_then (lit_table s.vars j x.left) (λ t.
    and_then (lit_table s.vars k x.right) (λ u.
    push_var s x.var (conj t u))))
move capacity cells g s (alias i j) = and_then (at s.equals i) (λ e. and_then (lit_table s.vars j e.b) (λ t. push_var s e.a t))
move capacity cells g s (pin i j) = and_then (at s.facts i) (λ e. and_then (lit_table s.vars j e.b) (λ t. push_net s (row e.a t e.c e.d)))
move capacity cells g s (add line n slots) =
    and_then (only (ltb line (length cells) && (eqb (get_or s.driven n 1) 0 && ltb (length s.gates) capacity.gates)) (cell_at cells line)) (λ c.
    and_then (feed_rows s.nets c.pins slots) (λ f.
    and_then (gate_row c n f) (λ e. push_net (with_gate s (made_of n line f)) e)))
move capacity cells g s (again k slots) =
    and_then (gate_at s.gates k) (λ x.
    and_then (feed_rows s.nets (cell_at cells x.gate.b).pins slots) (λ f.
    and_then (only (same_row (feed_pins f) x.fed) f) (λ h.
    and_then (gate_row (cell_at cells x.gate.b) x.gate.a h) (push_net s))))
move capacity cells g s (done i j l) =
    and_then (at s.nets i) (λ e.
    and_then (lit_table s.vars j l) (λ t.
    and_then (only (eqb e.b t) (row e.a l e.c e.d)) (push_fact capacity s)))
move capacity cells g s (fold i j l) =
    and_then (at s.vars i) (λ e.
    and_then (lit_table s.vars j l) (λ t.
    and_then (only (eqb e.b t) (row e.a l 0 0)) (push_equal capacity s)))

-- all moves; nothing where one cannot be made
unfoldable pub run : HasCapacity → List Cell → Graph → State → List Move → Option State
unfolding and_then move
run capacity cells g s [] = Some s
run capacity cells g s (m ∷ ms) = and_then (move capacity cells g s m) (λ t. run capacity cells g t ms)

-- ---- the start: the inputs' own nets are driven, and known

-- one input: its own net is the literal, and arrives as the input does. No input stands twice
unfoldable pub with_input : HasCapacity → (ℕ → ℕ) → State → ℕ → Option State
unfolding and_then only row push_fact literal
with_input capacity input_arrival s u =
    let n = literal false u in
    and_then (only (eqb (get_or s.driven n 1) 0 && leb (input_arrival u) 4294967295) (row n n (input_arrival u) (input_arrival u))) (λ e.
    push_fact capacity (record { vars = s.vars; nets = s.nets; facts = s.facts; equals = s.equals; gates = s.gates; driven = set s.driven n 1 }) e)

-- the inputs of a list, one after the other
unfoldable pub started : HasCapacity → (ℕ → ℕ) → State → List ℕ → Option State
unfolding and_then with_input
started capacity input_arrival s [] = Some s
started capacity input_arrival s (u ∷ us) = and_then (with_input capacity input_arrival s u) (λ t. started capacity input_arrival t us)

-- nothing is known, and none of so many nets is driven
unfoldable pub start : ℕ → State
start nets = record { vars = []; nets = []; facts = []; equals = []; gates = []; driven = replicate nets 0 }

-- ---- the end: each output's net

-- fact number i, of the output that is literal l
unfoldable pub out_row : List Row → ℕ → ℕ → Option Row
unfolding and_then only at
out_row facts i l = and_then (at facts i) (λ e. only (eqb e.b l) e)

-- of all outputs, in order
unfoldable pub out_rows : List Row → List ℕ → List ℕ → Option (List Row)
unfolding and_then out_row
out_rows facts [] [] = Some []
out_rows facts [] (l ∷ ls) = None
out_rows facts (i ∷ is) [] = None
out_rows facts (i ∷ is) (l ∷ ls) = and_then (out_row facts i l) (λ e. and_then (out_rows facts is ls) (λ es. Some (e ∷ es)))

-- the gates in order, and the rows of the outputs' nets
pub record Outcome : Type 0 where
  pub gates : List Made
  pub outs : List Row

-- a certificate whole: room for so many nets, facts, equalities and gates, its moves, and the fact of each output
unfoldable pub certify : ℕ → HasCapacity → List Cell → Graph → List Move → List ℕ → Option Outcome
unfolding and_then start started run out_rows
certify nets capacity cells g ms is =
    and_then (started capacity g.input_arrival (start nets) g.inputs) (λ s.
    and_then (run capacity cells g s ms) (λ t.
    and_then (out_rows t.facts is g.outputs) (λ es. Some (record { gates = t.gates; outs = es }))))

-- ---- what is printed of it

-- the gate as it is printed
unfoldable pub gate_of : List Cell → Made → Gate
unfolding cell_at pin_nets
gate_of cells x = let c = cell_at cells x.gate.b in record { cell = c; pins = map of_phase (pin_nets c.pins x.fed); net = of_phase x.gate.a }

-- the graph whose outputs are read at these nets: what is printed of it has their names in its wires
abbrev pub wired : Graph → List ℕ → Graph
wired g outs = record { size = g.size; inputs = g.inputs; outputs = outs; ands = g.ands; input_arrival = g.input_arrival }

-- "the gates written, sum of their areas, arrival of the latest output"
unfoldable pub figures_by : List Cell → Outcome → Figures
unfolding sum largest cell_at
figures_by cells o = record {
  gates = length o.gates;
  area = sum (map (λ (x : Made). (cell_at cells x.gate.b).area) o.gates);
  arrival = largest (map (λ (e : Row). e.c) o.outs);
}

-- "a line per output, as `# timing o0 30 35`: a low and a high arrival", from output k on
unfoldable pub timed_lines : ℕ → List Row → List ℕ
unfolding text decimal out_name
timed_lines k [] = []
timed_lines k (e ∷ es) = text "# timing " ++ (out_name k ++ (32 ∷ decimal e.d ++ (32 ∷ decimal e.c ++ (text "\n" ++ timed_lines (suc k) es))))

-- the text that is printed of it
unfoldable pub printed_text : Bool → List Cell → Graph → Outcome → List ℕ
unfolding netlist_text gate_of figures_by timed_lines
printed_text ranged cells g o =
    netlist_text (wired g (map (λ (e : Row). e.a) o.outs)) (map (gate_of cells) o.gates) (figures_by cells o) ++ cond ranged (timed_lines 0 o.outs) []
