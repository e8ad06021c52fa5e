-- Request N14, "Netlists edited by the layout group": a netlist's text read, its nets validated, and its outputs compared with the graph's.
use Rattle.std.specs.Prelude.{◌+◌, ◌*◌, ◌^◌, ◌&&◌, ◌||◌, ◌∷◌, ◌++◌, Result, Ok, Err}
use Rattle.base.specs.{ℕ, zero, suc, Bool, false, not, cond, beq, Option, None, Some, List, []}
use Rattle.base.specs.{map, eqb, leb, length, take, get_or, replicate}
use Rattle.model.specs.Base.{bit, all, any, keep, each, same, below, and_then, only, lowest}
use Rattle.model.specs.Limits.{need}
use Rattle.model.specs.Text.{Line, ended_by_ten, text, lines_from, fields, between, is_letter}
use Rattle.model.specs.ReadResult.{Read, holds, fault, next, unless, from?, refused_with}
use Rattle.model.specs.Table.{value, row_of}
use Rattle.model.specs.Cells.{name_of}
use Rattle.model.specs.Graph.{Graph, literal, unordered, literal_value, value_of}
use Rattle.model.specs.LibraryText.{read_library}
use Rattle.model.specs.GraphText.{read_header, read_graph}
use Rattle.model.specs.Netlist.{net_name, out_name}
use Rattle.model.specs.Mapper.{tried_early}
use Rattle.model.specs.declared.Cell.{Cell}
use Rattle.model.specs.declared.Comparison.{Comparison}
use Rattle.model.specs.declared.Comparison.TheVariants.{Equal, Differs}
use Rattle.model.specs.declared.Refusal.{Refusal}

-- ---- the text, 32

-- a line that drives a net: where it begins, its cell's table, the nets that it uses and the net that it drives. A `.names` line drives an output's own
-- name by the table of a wire, 0002
pub record Driver : Type 0 where
  pub offset : ℕ
  pub table : ℕ
  pub uses : List (List ℕ)
  pub net : List ℕ

-- "1 to 8 letters or digits"
unfoldable pub is_net : List ℕ → Bool
unfolding all is_letter between
is_net w = leb 1 (length w) && (leb (length w) 8 && all (λ (b : ℕ). is_letter b || between 48 57 b) w)

-- a word `A=net` with the letter b
unfoldable pub pin_net : ℕ → List ℕ → Option (List ℕ)
unfolding only is_net
pin_net b [] = None
pin_net b (c ∷ []) = None
pin_net b (c ∷ e ∷ w) = only (eqb c b && (eqb e 61 && is_net w)) w

-- "each pin in order with `=` and its net, then the output likewise"
unfoldable pub bound_nets : List ℕ → List (List ℕ) → Option (List (List ℕ))
unfolding and_then pin_net
bound_nets [] [] = Some []
bound_nets [] (w ∷ ws) = None
bound_nets (b ∷ bs) [] = None
bound_nets (b ∷ bs) (w ∷ ws) = and_then (pin_net b w) (λ n. and_then (bound_nets bs ws) (λ ns. Some (n ∷ ns)))

-- the listed cell of a name
unfoldable pub cell_named : List Cell → List ℕ → Option Cell
unfolding same name_of
cell_named [] w = None
cell_named (c ∷ cs) w = let r = cell_named cs w in cond (same (name_of c) w) (Some c) r

-- a gate line's fields: `.gate`, a listed cell, its pins A to D and its output O
unfoldable pub gate_of_fields : List Cell → ℕ → List (List ℕ) → Option Driver
unfolding and_then cell_named bound_nets below
gate_of_fields cells at [] = None
gate_of_fields cells at (k ∷ []) = None
gate_of_fields cells at (k ∷ name ∷ ws) =
    and_then (cell_named cells name) (λ c.
    and_then (bound_nets (map (λ (j : ℕ). 65 + j) (below c.pins) ++ (79 ∷ [])) ws) (λ nets.
    Some (record { offset = at; table = c.table; uses = take c.pins nets; net = get_or nets c.pins [] })))

unfoldable pub gate_driver : List Cell → Line → Option Driver
unfolding and_then only gate_of_fields fields
gate_driver cells l = and_then (only (ended_by_ten l) (fields l.bytes)) (gate_of_fields cells l.offset)

-- a line `.gate`
unfoldable pub is_gate : Line → Bool
unfolding same text fields
is_gate l = same (get_or (fields l.bytes) 0 []) (text ".gate")

-- `.names` with a net and output k's own name
unfoldable pub name_driver : ℕ → Line → Option Driver
unfolding only same text fields is_net out_name
name_driver k l =
    let ws = fields l.bytes in
    only (ended_by_ten l && (eqb (length ws) 3 && (same (get_or ws 0 []) (text ".names") && (is_net (get_or ws 1 []) && same (get_or ws 2 []) (out_name k)))))
    (record { offset = l.offset; table = 2; uses = get_or ws 1 [] ∷ []; net = out_name k })

-- a line that must be these bytes
unfoldable pub is_line : List ℕ → Line → Bool
unfolding same
is_line w l = ended_by_ten l && same l.bytes w

-- the line `1 1`, and what is behind it; `end` is the text's length, a missing line's place
unfoldable pub past_row : ℕ → List Line → Read (List Line)
unfolding unless is_line text
past_row end [] = fault 32 end
past_row end (l ∷ ls) = unless (is_line (text "1 1") l) 32 l.offset (holds ls)

-- the `.names` of so many outputs from output k on, and `.end`: "what follows `.end` isn't read"
unfoldable pub read_names : ℕ → ℕ → ℕ → List Line → Read (List Driver)
unfolding next unless from? name_driver past_row is_line text
read_names end k zero [] = fault 32 end
read_names end k zero (l ∷ ls) = unless (is_line (text ".end") l) 32 l.offset (holds [])
read_names end k (suc left) [] = fault 32 end
read_names end k (suc left) (l ∷ ls) =
    next (from? (name_driver k l) 32 l.offset) (λ d.
    next (past_row end ls) (λ rest.
    next (read_names end (suc k) left rest) (λ ds. holds (d ∷ ds))))

-- "gates in any order", then the names
unfoldable pub read_drivers : List Cell → ℕ → ℕ → List Line → Read (List Driver)
unfolding next from? is_gate gate_driver read_names
read_drivers cells end outs [] = read_names end 0 outs []
read_drivers cells end outs (l ∷ ls) =
    let more = read_drivers cells end outs ls in
    let names = read_names end 0 outs (l ∷ ls) in
    cond (is_gate l) (next (from? (gate_driver cells l) 32 l.offset) (λ d. next more (λ ds. holds (d ∷ ds)))) names

-- lines that must be there first
unfoldable pub past_lines : ℕ → List (List ℕ) → List Line → Read (List Line)
unfolding unless is_line
past_lines end [] ls = holds ls
past_lines end (w ∷ ws) [] = fault 32 end
past_lines end (w ∷ ws) (l ∷ ls) = let r = past_lines end ws ls in unless (is_line w l) 32 l.offset r

-- the nets of the inputs
unfoldable pub input_nets : Graph → List (List ℕ)
unfolding net_name literal
input_nets g = map (λ (v : ℕ). net_name (literal false v)) g.inputs

-- the nets of the outputs
unfoldable pub output_nets : Graph → List (List ℕ)
unfolding out_name below
output_nets g = map out_name (below (length g.outputs))

-- `.model top`, `.inputs` and `.outputs` as they are printed for the graph
unfoldable pub preamble_of : Graph → List (List ℕ)
unfolding text each input_nets output_nets
preamble_of g =
    text ".model top"
    ∷ (text ".inputs" ++ each (λ (n : List ℕ). 32 ∷ n) (input_nets g))
    ∷ (text ".outputs" ++ each (λ (n : List ℕ). 32 ∷ n) (output_nets g))
    ∷ []

-- "32 when a line breaks its form, names no listed cell or has other inputs or outputs than the graph"
unfoldable pub read_netlist : List Cell → Graph → List ℕ → Read (List Driver)
unfolding next past_lines preamble_of read_drivers lines_from
read_netlist cells g bytes =
    next (past_lines (length bytes) (preamble_of g) (lines_from 0 [] bytes)) (read_drivers cells (length bytes) (length g.outputs))

-- ---- the nets, 33

-- a name stands in a list of names
unfoldable pub among : List ℕ → List (List ℕ) → Bool
unfolding any same
among n ns = any (same n) ns

-- the first line that passes a test
unfoldable pub first_line : (Driver → Bool) → List Driver → Option ℕ
first_line p [] = None
first_line p (d ∷ ds) = let r = first_line p ds in cond (p d) (Some d.offset) r

-- "when a line drives a net already driven": `known` are the nets driven before
unfoldable pub driven_twice : List (List ℕ) → List Driver → Option ℕ
unfolding among
driven_twice known [] = None
driven_twice known (d ∷ ds) = let r = driven_twice (d.net ∷ known) ds in cond (among d.net known) (Some d.offset) r

-- "when one uses a net that no line drives"; "`.inputs` drives its nets"
unfoldable pub undriven : List (List ℕ) → List Driver → Option ℕ
unfolding first_line any among
undriven inputs ds =
    let nets = inputs ++ map (λ (d : Driver). d.net) ds in
    first_line (λ (d : Driver). any (λ (n : List ℕ). not (among n nets)) d.uses) ds

-- names put to a list, each once
unfoldable pub added : List (List ℕ) → List (List ℕ) → List (List ℕ)
unfolding among
added [] seen = seen
added (n ∷ ns) seen = added ns (cond (among n seen) seen (n ∷ seen))

-- the nets that feed these, "directly or through others": so many steps back
unfoldable pub feeding : ℕ → List Driver → List (List ℕ) → List (List ℕ)
unfolding added each keep among
feeding zero ds seen = seen
feeding (suc fuel) ds seen = feeding fuel ds (added (each (λ (d : Driver). d.uses) (keep (λ (d : Driver). among d.net seen) ds)) seen)

-- "when one drives a net on a circle": a net that feeds itself
unfoldable pub on_cycle : List Driver → Driver → Bool
unfolding among feeding added
on_cycle ds d = among d.net (feeding (suc (length ds)) ds (added d.uses []))

-- a fault at a line, if there is one
unfoldable pub unless_at : {A : Type 0} → Option ℕ → ℕ → Read A → Read A
unless_at None n r = r
unless_at (Some k) n r = fault n k

-- "33 when a line drives a net already driven, then when one uses a net that no line drives, then when one drives a net on a circle": each part over
-- all lines, "at the first such line"
unfoldable pub validate_nets : List (List ℕ) → List Driver → Read (List Driver)
unfolding unless_at driven_twice undriven first_line on_cycle
validate_nets inputs ds =
    unless_at (driven_twice inputs ds) 33
    (unless_at (undriven inputs ds) 33
    (unless_at (first_line (on_cycle ds) ds) 33 (holds ds)))

-- ---- values

-- the value of a net, given those known, the last first
unfoldable pub net_value : List (List ℕ × Bool) → List ℕ → Bool
unfolding same
net_value [] n = false
net_value (e ∷ es) n = let r = net_value es n in cond (same e.0 n) e.1 r

-- a driver whose nets are all known, the first; and those that are left
unfoldable pub take_ready : List (List ℕ) → List Driver → Option (Driver × List Driver)
unfolding all among and_then
take_ready known [] = None
take_ready known (d ∷ ds) =
    let later = and_then {B = Driver × List Driver} (take_ready known ds) (λ r. Some (r.0, d ∷ r.1)) in
    cond (all (λ (n : List ℕ). among n known) d.uses) (Some (d, ds)) later

-- the drivers, each behind those that feed it
unfoldable pub settled : ℕ → List (List ℕ) → List Driver → List Driver
unfolding take_ready
settled zero known ds = []
settled (suc fuel) known ds = elim (take_ready known ds) [
  | None ↦ []
  | Some r ↦ r.0 ∷ settled fuel (r.0.net ∷ known) r.1
]

-- the nets' values, one driver after the other
unfoldable pub run_nets : List Driver → List (List ℕ × Bool) → List (List ℕ × Bool)
unfolding value row_of net_value
run_nets [] known = known
run_nets (d ∷ ds) known = run_nets ds ((d.net, value d.table (row_of (map (net_value known) d.uses))) ∷ known)

-- "input k as bit k": the values of the inputs from input k on
unfoldable pub input_values : ℕ → ℕ → List (List ℕ) → List (List ℕ × Bool)
unfolding bit
input_values s k [] = []
input_values s k (n ∷ ns) = (n, bit s k) ∷ input_values s (suc k) ns

-- the assignment by variable
-- document 02: "setting"
unfoldable pub assignment_of : ℕ → ℕ → List ℕ → ℕ → Bool
unfolding bit
assignment_of s k [] v = false
assignment_of s k (u ∷ us) v = let r = assignment_of s (suc k) us v in cond (eqb u v) (bit s k) r

-- the first place at which two lists of values differ, from k on
unfoldable pub first_wrong : ℕ → List Bool → List Bool → Option ℕ
first_wrong k [] ys = None
first_wrong k (x ∷ xs) [] = None
first_wrong k (x ∷ xs) (y ∷ ys) = let r = first_wrong (suc k) xs ys in cond (beq x y) r (Some k)

-- "that setting's first wrong output": `order` are the drivers, each behind those that feed it
unfoldable pub wrong_at : Graph → List Driver → ℕ → Option ℕ
unfolding first_wrong value_of literal_value run_nets net_value input_values assignment_of input_nets output_nets
wrong_at g order s =
    let known = run_nets order (input_values s 0 (input_nets g)) in
    first_wrong 0 (map (literal_value (value_of g (assignment_of s 0 g.inputs))) g.outputs) (map (net_value known) (output_nets g))

-- ---- the answer

-- "the lowest setting that differs", of the n assignments from s on
unfoldable pub compare_from : ℕ → ℕ → (ℕ → Option ℕ) → Comparison
compare_from zero s wrong = Equal
compare_from (suc n) s wrong = elim (wrong s) [
  | None ↦ compare_from n (suc s) wrong
  | Some k ↦ Differs s k
]

-- the bytes 10 of a text
unfoldable pub line_ends : List ℕ → ℕ
line_ends [] = 0
line_ends (b ∷ bs) = let r = line_ends bs in cond (eqb b 10) (suc r) r

-- what is compared
pub record Edited : Type 0 where
  pub graph : Graph
  pub drivers : List Driver

-- "1 covers the netlist, and 10 wants 8 more words for each byte 10 in it"; 31 to 33 "are tried after 15 in place of 16 to 18, in this order"
unfoldable pub read_edited : List ℕ → List ℕ → List ℕ → ℕ → Read Edited
unfolding next unless unless_at read_library read_header read_graph need line_ends lowest unordered read_netlist validate_nets input_nets
read_edited library graph netlist words =
    unless (leb (length library) 65536 && (leb (length graph) 65536 && leb (length netlist) 65536)) 1 0
    (next (read_library library) (λ cells.
    next (read_header graph) (λ h.
    unless (leb (need h.size h.outputs + 8 * line_ends netlist) words) 10 0
    (next (read_graph graph h) (λ g.
    unless_at (lowest (unordered g)) 15
    (unless (leb (length g.inputs) 12) 31 0
    (next (read_netlist cells g netlist) (λ ds.
    next (validate_nets (input_nets g) ds) (λ es. holds (record { graph = g; drivers = es }))))))))))

-- what a check answers
abbrev pub Checked : Type 0
Checked = Result Comparison Refusal

-- the answer for what was read: "the 2^I input settings"
unfoldable pub check_read : Read Edited → Checked
unfolding compare_from wrong_at settled input_nets
check_read (fault n k) = refused_with n k
check_read (holds e) =
    let g = e.graph in
    let ds = e.drivers in
    Ok (compare_from (2 ^ length g.inputs) 0 (wrong_at g (settled (length ds) (input_nets g) ds)))

-- the answer of a check: the library's text, the graph's, the netlist's, and how many words are lent
unfoldable pub check_texts : List ℕ → List ℕ → List ℕ → ℕ → Checked
unfolding check_read read_edited
check_texts library graph netlist words = check_read (read_edited library graph netlist words)

-- ---- what is returned, and the lent words

-- what the interface returns of a check: 0 where the netlist is accepted, 1 with the assignment and the output that differ, 2 with a refusal's number and place
pub record CheckResult : Type 0 where
  pub verdict : ℕ
  pub first : ℕ
  pub second : ℕ

unfoldable pub result_of : Checked → CheckResult
result_of (Ok Equal) = record { verdict = 0; first = 0; second = 0 }
result_of (Ok (Differs s k)) = record { verdict = 1; first = s; second = k }
result_of (Err r) = record { verdict = 2; first = r.number; second = r.place }

-- the same of what was read: what the interface returns, whatever the answer is made of
unfoldable pub result_from : ℕ → ℕ → (ℕ → Option ℕ) → CheckResult
result_from zero s wrong = record { verdict = 0; first = 0; second = 0 }
result_from (suc n) s wrong = elim (wrong s) [
  | None ↦ result_from n (suc s) wrong
  | Some k ↦ record { verdict = 1; first = s; second = k }
]

unfoldable pub result_by : Read Edited → CheckResult
unfolding result_from wrong_at settled input_nets
result_by (fault n k) = record { verdict = 2; first = n; second = k }
result_by (holds e) =
    let g = e.graph in
    let ds = e.drivers in
    result_from (2 ^ length g.inputs) 0 (wrong_at g (settled (length ds) (input_nets g) ds))

-- "Work memory is unchanged by every refusal tried up to 10, and all zero after a later one and after success."
unfoldable pub checked_work : Checked → List ℕ → List ℕ
checked_work (Err r) memory = cond (tried_early r.number) memory (replicate (length memory) 0)
checked_work (Ok c) memory = replicate (length memory) 0
