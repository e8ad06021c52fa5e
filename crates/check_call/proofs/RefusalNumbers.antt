-- Which refusals come up to 10, and which later: so what is left of work memory.
use Rattle.base.specs.{ℕ, zero, suc, ◌≡◌, refl, sym, ap, Bool, true, false, cond, Option, None, Some, List, [], ◌∷◌, leb, length}
use Rattle.base.specs.{replicate}
use Rattle.model.specs.{lowest, Line, text, lines_from, Read, holds, fault, next, from?, cells_of, unordered, read_library, read_header, refused_with}
use Rattle.model.specs.{read_graph, tried_early, Driver, Edited, is_line, is_gate, gate_driver, name_driver, past_row, past_lines, preamble_of}
use Rattle.model.specs.{read_names, read_drivers, read_netlist, input_nets, driven_twice, undriven, first_line, on_cycle, unless_at, validate_nets}
use Rattle.model.specs.{check_read, checked_work}
use Rattle.model.specs.Graph.{Graph}
use Rattle.model.specs.declared.Cell.{Cell}
use Rattle.model.specs.declared.Library.{Library}
use Rattle.model.specs.declared.Header.{Header}
use Rattle.theory_text.proofs.ReadFaults.{Faults}
use Rattle.theory_text.proofs.{in_holds, in_fault, in_unless, in_from, in_next, library_faults, header_faults, graph_faults}
use Rattle.check_call.specs.{validated_read, netlist_read, ordered_read, graph_read}

-- "every refusal tried up to 10", and "a later one", wherever its place is
abbrev pub Early : ℕ → ℕ → Type 0
Early n k = tried_early n ≡ true

abbrev pub InputArrival : ℕ → ℕ → Type 0
InputArrival n k = tried_early n ≡ false

-- ---- 2 to 9, 19 and 27

pub library-early : (s : List ℕ) → Faults Early (read_library s)
library-early = library_faults Early refl (λ _. refl) (λ _. refl) (λ _. refl) (λ _. refl) (λ _. refl)

pub header-early : (s : List ℕ) → Faults Early (read_header s)
header-early = header_faults Early refl refl refl refl

-- ---- 11 to 15, 20, 21 and 31 to 33

in_unless_at : {A : Type 0} (o : Option ℕ) (n : ℕ) (r : Read A) → ((k : ℕ) → InputArrival n k) → Faults InputArrival r → Faults InputArrival (unless_at o n r)
unfolding unless_at
in_unless_at None n r p f = f
in_unless_at (Some k) n r p f = in_fault InputArrival n k (p k)

lines-input-arrival : (end : ℕ) (ws : List (List ℕ)) (ls : List Line) → Faults InputArrival (past_lines end ws ls)
unfolding past_lines
lines-input-arrival end [] ls = in_holds InputArrival ls
lines-input-arrival end (w ∷ ws) [] = in_fault InputArrival 32 end refl
lines-input-arrival end (w ∷ ws) (l ∷ ls) = in_unless InputArrival (is_line w l) 32 l.offset (past_lines end ws ls) (λ _. refl) (lines-input-arrival end ws ls)

row-input-arrival : (end : ℕ) (ls : List Line) → Faults InputArrival (past_row end ls)
unfolding past_row
row-input-arrival end [] = in_fault InputArrival 32 end refl
row-input-arrival end (l ∷ ls) = in_unless InputArrival (is_line (text "1 1") l) 32 l.offset (holds ls) (λ _. refl) (in_holds InputArrival ls)

names-input-arrival : (end k left : ℕ) (ls : List Line) → Faults InputArrival (read_names end k left ls)
unfolding read_names
names-input-arrival end k zero [] = in_fault InputArrival 32 end refl
names-input-arrival end k zero (l ∷ ls) = in_unless InputArrival (is_line (text ".end") l) 32 l.offset (holds []) (λ _. refl) (in_holds InputArrival [])
names-input-arrival end k (suc left) [] = in_fault InputArrival 32 end refl
names-input-arrival end k (suc left) (l ∷ ls) =
    in_next InputArrival (from? (name_driver k l) 32 l.offset) _ (in_from InputArrival (name_driver k l) 32 l.offset refl) (λ d _.
    in_next InputArrival (past_row end ls) (λ rest. next (read_names end (suc k) left rest) (λ ds. holds (d ∷ ds))) (row-input-arrival end ls) (λ rest _.
    in_next InputArrival (read_names end (suc k) left rest) (λ ds. holds (d ∷ ds)) (names-input-arrival end (suc k) left rest) (λ ds _. in_holds InputArrival (d ∷ ds))))

drivers-input-arrival : (cells : List Cell) (end outs : ℕ) (ls : List Line) → Faults InputArrival (read_drivers cells end outs ls)
unfolding read_drivers
drivers-input-arrival cells end outs [] = names-input-arrival end 0 outs []
drivers-input-arrival cells end outs (l ∷ ls) = go (is_gate l) (drivers-input-arrival cells end outs ls)
  where
    go : (b : Bool) → Faults InputArrival (read_drivers cells end outs ls)
        → Faults InputArrival (cond b (next (from? (gate_driver cells l) 32 l.offset) (λ d. next (read_drivers cells end outs ls) (λ ds. holds (d ∷ ds)))) (read_names end 0 outs (l ∷ ls)))
    go true more =
        in_next InputArrival (from? (gate_driver cells l) 32 l.offset) _ (in_from InputArrival (gate_driver cells l) 32 l.offset refl) (λ d _.
        in_next InputArrival (read_drivers cells end outs ls) (λ ds. holds (d ∷ ds)) more (λ ds _. in_holds InputArrival (d ∷ ds)))
    go false more = names-input-arrival end 0 outs (l ∷ ls)

netlist-input-arrival : (cells : List Cell) (g : Graph) (s : List ℕ) → Faults InputArrival (read_netlist cells g s)
unfolding read_netlist
netlist-input-arrival cells g s =
    in_next InputArrival (past_lines (length s) (preamble_of g) (lines_from 0 [] s)) _ (lines-input-arrival (length s) (preamble_of g) (lines_from 0 [] s)) (λ ls _. drivers-input-arrival cells (length s) (length g.outputs) ls)

validated-input-arrival : (g : Graph) (ds : List Driver) → Faults InputArrival (validated_read g ds)
unfolding validated_read validate_nets
validated-input-arrival g ds =
    in_next InputArrival _ (λ es. holds (record { graph = g; drivers = es }))
    (in_unless_at (driven_twice (input_nets g) ds) 33 _ (λ _. refl) (in_unless_at (undriven (input_nets g) ds) 33 _ (λ _. refl) (in_unless_at (first_line (on_cycle ds) ds) 33 (holds ds) (λ _. refl) (in_holds InputArrival ds))))
    (λ es _. in_holds InputArrival (record { graph = g; drivers = es }))

pub graph-input-arrival : (lib : Library) (graph : List ℕ) (h : Header) (s : List ℕ) → Faults InputArrival (graph_read lib graph h s)
unfolding graph_read ordered_read netlist_read
graph-input-arrival lib graph h s =
    in_next InputArrival (read_graph graph h) _ (graph_faults InputArrival (λ _. refl) (λ _. refl) (λ _. refl) (λ _. refl) (λ _. refl) (λ _. refl) graph h) (λ g _.
    in_unless_at (lowest (unordered g)) 15 _ (λ _. refl)
    (in_unless InputArrival (leb (length g.inputs) 12) 31 0 _ (λ _. refl) (in_next InputArrival (read_netlist (cells_of lib) g s) (validated_read g) (netlist-input-arrival (cells_of lib) g s) (λ ds _. validated-input-arrival g ds))))

-- ---- what is left of work memory

pub work_early : (n k : ℕ) (work : List ℕ) → Early n k → work ≡ checked_work (refused_with n k) work
unfolding checked_work
work_early n k work e = sym (ap (λ (b : Bool). cond b work (replicate (length work) 0)) e)

pub work_input-arrival : (r : Read Edited) (work : List ℕ) → Faults InputArrival r → replicate (length work) 0 ≡ checked_work (check_read r) work
unfolding check_read
work_input-arrival (fault n k) work f = unfold checked_work in sym (ap (λ (b : Bool). cond b work (replicate (length work) 0)) (f.has n k refl))
work_input-arrival (holds e) work f = unfold checked_work in refl
