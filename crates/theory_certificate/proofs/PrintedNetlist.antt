-- Demand 2 of a certificate, over the bytes: the text that is printed of it, read by BLIF's rules with the listed cells' tables, has values, and any such values
-- give every output the value that the graph gives it, for every assignment of the inputs. Nothing is asked of the graph's size, of the number of gates or of
-- who made the certificate.
use Rattle.base.specs.{ℕ, arith, ◌≡◌, sym, ◌∙◌, ap, ap₂, subst, Bool, false, Some, List, [], ◌∷◌, ◌++◌, map, Memᴰ, Memᴰ-head, Memᴰ-tail}
use Rattle.base.specs.{head-eq_of_cons-eq, tail-eq_of_cons-eq, T, length-take}
use Rattle.model.specs.{flip, value, row_of, is_name, name_of, no_cell, cell_at, latest, literal, literal_value, GraphValues, Gate, of_phase, label, net_name}
use Rattle.model.specs.{netlist_text, Wire, GateLine, read_blif, drives, fed_by, named, NetValues, Delays, NetTimes}
use Rattle.model.specs.Graph.{Graph}
use Rattle.model.specs.Blif.{Blif}
use Rattle.model.specs.declared.Cell.{Cell}
use Rattle.model.specs.declared.Figures.{Figures}
use Rattle.theory_graph.proofs.{get_or_in, length-map, lit_neg, lit_var, map_in, map-map, map_out, map_same}
use Rattle.theory_graph.specs.{library_fits}
use Rattle.theory_text.proofs.{Bound, blif_of, cell_form, gate-bound, library-cell, line_of, read_back, wires_from}
use Rattle.theory_demands.proofs.Wires.{at-outputs}
use Rattle.certificate_model.specs.declared.Row.{Row}
use Rattle.certificate_model.specs.{Made, Move, Outcome, HasCapacity, gate_of, pin_nets, wired}
use Rattle.theory_certificate.proofs.Sound.{Obeys, Timed, cell_of, net_of, pins_of}
use Rattle.theory_certificate.proofs.Runs.{Certified, Given, all_listed, out_times, out_values}
use Rattle.theory_certificate.proofs.Order.{Driven, certified_order, own_nets}
use Rattle.theory_certificate.proofs.Has.{the, the_gate, the_input, the_wire}

-- the outputs' nets
abbrev pub out_nets : Outcome → List ℕ
out_nets o = map (λ (e : Row). e.a) o.outs

abbrev pub gates_of : List Cell → Outcome → List Gate
gates_of cells o = map (gate_of cells) o.gates

abbrev pub netlist_of : List Cell → Graph → Outcome → Blif
netlist_of cells g o = blif_of (wired g (out_nets o)) (gates_of cells o)

-- an input's net of those in order
pub input-at : {X : Type 0} (f : List ℕ → X) (given : ℕ → X) (vs : List ℕ) → map f (map (λ (u : ℕ). net_name (literal false u)) vs) ≡ map given vs
    → (u : ℕ) → Memᴰ u vs → f (net_name (literal false u)) ≡ given u
input-at f given (x ∷ vs) e u (Memᴰ-head q) = subst (λ (y : ℕ). f (net_name (literal false y)) ≡ given y) (sym q) (head-eq_of_cons-eq e)
input-at f given (x ∷ vs) e u (Memᴰ-tail m) = input-at f given vs (tail-eq_of_cons-eq e) u m
input-at {X = X} f given [] e u x'' = elim x'' [ ]

module _ {nets : ℕ} {capacity : HasCapacity} {cells : List Cell} {g : Graph} {ms : List Move} {is : List ℕ} {o : Outcome} (k : Certified nets capacity cells g ms is o) (fit : T (library_fits cells)) where
  -- a gate's line binds its cell, its pins and its net
  pub bound : (x : Made) → Memᴰ x o.gates → Bound cells (gate_of cells x)
  unfolding gate_of cell_at pin_nets
  bound x m =
      let c : Cell = cell_of cells x in
      let is_in = get_or_in cells x.gate.b no_cell (all_listed k x m) in
      let few = (cell_form c (library-cell cells fit c is_in)).few_pins in
      let long = length-take c.pins (x.fed.a ∷ x.fed.b ∷ x.fed.c ∷ x.fed.d ∷ []) in
      gate-bound cells fit (gate_of cells x) is_in (length-map of_phase (pins_of cells x) ∙ omega (arith, long, few))

  pub named-gates : (x : Gate) → Memᴰ x (gates_of cells o) → T (is_name (name_of x.cell))
  named-gates x m = let q = map_out (gate_of cells) o.gates m in subst (λ (y : Gate). T (is_name (name_of y.cell))) (sym q.2) (bound q.0 q.1).is_named

  pub reads : (f : Figures) (behind : List ℕ) → read_blif (netlist_text (wired g (out_nets o)) (gates_of cells o) f ++ behind) ≡ Some (netlist_of cells g o)
  reads f behind = read_back (wired g (out_nets o)) (gates_of cells o) f behind named-gates

  -- what holds of a gate's line by a rule of lines holds of the gate
  pub of_line : {X : Type 0} (f : List ℕ → X) (line : GateLine → List X → X) → ((y : GateLine) → Memᴰ y (netlist_of cells g o).gates → f (drives y) ≡ line y (map f (fed_by cells y)))
      → (x : Made) → Memᴰ x o.gates → f (net_name (net_of x)) ≡ line (line_of (gate_of cells x)) (map (λ (n : ℕ). f (net_name n)) (pins_of cells x))
  unfolding gate_of label blif_of
  of_line f line h x m =
      let b = bound x m in
      sym (ap f b.is_driven) ∙ h (line_of (gate_of cells x)) (map_in line_of (map_in (gate_of cells) m))
      ∙ ap (line (line_of (gate_of cells x))) (ap (map f) b.is_fed ∙ map-map f label (map of_phase (pins_of cells x)) ∙ map-map (λ y. f (label y)) of_phase (pins_of cells x))

  -- a gate's line names its cell
  pub its_cell : (x : Made) → Memᴰ x o.gates → named cells (line_of (gate_of cells x)).cell ≡ cell_of cells x
  unfolding gate_of
  its_cell x m = (bound x m).is_cell

  driven : (n : ℕ) → Memᴰ n (out_nets o) → Driven (own_nets g) o.gates n
  driven n m = let q = map_out (λ (e : Row). e.a) o.outs m in subst (Driven (own_nets g) o.gates) (sym q.2) ((certified_order k).1 q.0 q.1)

  -- what gate lines have by a rule of lines
  module _ {X : Type 0} (d : X) (line : GateLine → List X → X) (given : ℕ → X) where
    abbrev by_made : Made → List X → X
    by_made x xs = line (line_of (gate_of cells x)) xs

    abbrev all : List ℕ → X
    all = the d cells by_made g given o.gates (certified_order k).0 (out_nets o) driven

    all-inputs : map all (map (λ (v : ℕ). net_name (literal false v)) g.inputs) ≡ map given g.inputs
    all-inputs = map-map all (λ (v : ℕ). net_name (literal false v)) g.inputs ∙ map_same (λ (v : ℕ). all (net_name (literal false v))) given g.inputs
        (the_input d cells by_made g given o.gates (certified_order k).0 (out_nets o) driven)

    all-gates : (x : GateLine) → Memᴰ x (map line_of (gates_of cells o)) → all (drives x) ≡ line x (map all (fed_by cells x))
    unfolding gate_of label
    all-gates x m =
        let a = map_out line_of (gates_of cells o) m in
        let q = map_out (gate_of cells) o.gates a.1 in
        let b = bound q.0 q.1 in
        let it = the_gate d cells by_made g given o.gates (certified_order k).0 (out_nets o) driven q.0 q.1 in
        subst (λ (y : GateLine). all (drives y) ≡ line y (map all (fed_by cells y))) (sym (a.2 ∙ ap line_of q.2))
        (ap all b.is_driven ∙ it
        ∙ ap (line (line_of (gate_of cells q.0))) (sym (ap (map all) b.is_fed ∙ map-map all label (map of_phase (pins_of cells q.0)) ∙ map-map (λ y. all (label y)) of_phase (pins_of cells q.0))))

    all-wires : (x : Wire) → Memᴰ x (wires_from 0 (out_nets o)) → all x.target ≡ all x.source
    all-wires = the_wire d cells by_made g given o.gates (certified_order k).0 (out_nets o) driven

  -- the netlist has values under every assignment
  pub certified_has : (assignment : ℕ → Bool) → (w : List ℕ → Bool) × NetValues cells (netlist_of cells g o) (map assignment g.inputs) w
  unfolding blif_of
  certified_has assignment = (
    _,
    record {
      at_inputs = all-inputs false (λ x bs. value (named cells x.cell).table (row_of bs)) assignment;
      at_gates = all-gates false (λ x bs. value (named cells x.cell).table (row_of bs)) assignment;
      at_wires = all-wires false (λ x bs. value (named cells x.cell).table (row_of bs)) assignment;
    },
  )

  -- and arrivals under every choice of delays
  pub certified_times : (delays : Delays) → (at : List ℕ → ℕ) × NetTimes cells delays (netlist_of cells g o) (map g.input_arrival g.inputs) at
  unfolding blif_of
  certified_times delays = (
    _,
    record {
      at_inputs = all-inputs 0 (λ x ts. latest ts (delays x)) g.input_arrival;
      at_gates = all-gates 0 (λ x ts. latest ts (delays x)) g.input_arrival;
      at_wires = all-wires 0 (λ x ts. latest ts (delays x)) g.input_arrival;
    },
  )

  -- ---- any values of the netlist and any arrivals by the highest and by the lowest delays

  abbrev pub high_delays : Delays
  high_delays y = (named cells y.cell).delays

  abbrev pub low_delays : Delays
  low_delays y = (named cells y.cell).mins

  module _ (assignment v : ℕ → Bool) (is_value : GraphValues g assignment v) (w : List ℕ → Bool) (holds : NetValues cells (netlist_of cells g o) (map assignment g.inputs) w)
      (high : List ℕ → ℕ) (is_high : NetTimes cells high_delays (netlist_of cells g o) (map g.input_arrival g.inputs) high)
      (low : List ℕ → ℕ) (is_low : NetTimes cells low_delays (netlist_of cells g o) (map g.input_arrival g.inputs) low) where
    abbrev on : {X : Type 0} → (List ℕ → X) → ℕ → X
    on f n = f (net_name n)

    own_value : (u : ℕ) → literal_value v (literal false u) ≡ v u
    unfolding literal_value flip
    own_value u = ap₂ (λ (b : Bool) (x : ℕ). flip b (v x)) (lit_neg false u) (lit_var false u)

    inputs : (u : ℕ) → Memᴰ u g.inputs → Given v (on w) g.input_arrival (on high) (on low) u
    unfolding blif_of
    inputs u m = record {
      value = input-at w assignment g.inputs holds.at_inputs u m ∙ sym (is_value.at_inputs u m) ∙ sym (own_value u);
      highest = sym (input-at high g.input_arrival g.inputs is_high.at_inputs u m);
      lowest = sym (input-at low g.input_arrival g.inputs is_low.at_inputs u m);
    }

    rules : (x : Made) → Memᴰ x o.gates → Obeys cells (on w) (on high) (on low) x
    rules x m = record {
      value = of_line w (λ y bs. value (named cells y.cell).table (row_of bs)) holds.at_gates x m
          ∙ ap (λ (c : Cell). value c.table (row_of (map (on w) (pins_of cells x)))) (its_cell x m);
      highest = of_line high (λ y ts. latest ts (high_delays y)) is_high.at_gates x m ∙ ap (λ (c : Cell). latest (map (on high) (pins_of cells x)) c.delays) (its_cell x m);
      lowest = of_line low (λ y ts. latest ts (low_delays y)) is_low.at_gates x m ∙ ap (λ (c : Cell). latest (map (on low) (pins_of cells x)) c.mins) (its_cell x m);
    }

    pub same-outputs : map w (netlist_of cells g o).outputs ≡ map (literal_value v) g.outputs
    unfolding blif_of
    same-outputs = at-outputs w (out_nets o) holds.at_wires ∙ out_values k assignment v is_value (on w) (on high) (on low) inputs rules

    -- the arrivals of the outputs' rows
    pub same-times : (e : Row) → Memᴰ e o.outs → Timed (on high) (on low) e
    same-times = out_times k assignment v is_value (on w) (on high) (on low) inputs rules

  -- "the printed netlist, read by BLIF's rules with the listed cells' tables, gives every output the value that the AIGER graph gives it, for every
  -- setting of the inputs"
  pub certified_same : (assignment v : ℕ → Bool) → GraphValues g assignment v → (w : List ℕ → Bool) → NetValues cells (netlist_of cells g o) (map assignment g.inputs) w
      → map w (netlist_of cells g o).outputs ≡ map (literal_value v) g.outputs
  certified_same assignment v is_value w holds =
      let h = certified_times high_delays in
      let l = certified_times low_delays in
      same-outputs assignment v is_value w holds h.0 h.1 l.0 l.1
