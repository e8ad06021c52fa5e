-- The figures of the printed text are those of its gates, and the arrivals in the outputs' rows are the nets'.
use Rattle.base.specs.{ℕ, ◌≡◌, sym, ◌∙◌, ap, Bool, false, List, map, Memᴰ, T}
use Rattle.model.specs.{sum, largest, Gate, GateLine, GraphValues, named, net_name, Delays, NetTimes}
use Rattle.model.specs.Graph.{Graph}
use Rattle.model.specs.declared.Cell.{Cell}
use Rattle.theory_graph.proofs.{length-map, map-map, map_same}
use Rattle.theory_graph.specs.{library_fits}
use Rattle.theory_text.proofs.{blif_of, line_of}
use Rattle.theory_demands.proofs.Wires.{at-outputs}
use Rattle.promises_certificate.specs.{FiguresOf}
use Rattle.certificate_model.specs.declared.Row.{Row}
use Rattle.certificate_model.specs.{Made, Move, Outcome, HasCapacity, figures_by, gate_of}
use Rattle.theory_certificate.proofs.Sound.{Timed, cell_of}
use Rattle.theory_certificate.proofs.Runs.{Certified}
use Rattle.theory_certificate.proofs.PrintedNetlist.{certified_has, certified_times, gates_of, high_delays, its_cell, low_delays, netlist_of, out_nets, same-times}

module _ {nets : ℕ} {capacity : HasCapacity} {cells : List Cell} {g : Graph} {ms : List Move} {is : List ℕ} {o : Outcome} (k : Certified nets capacity cells g ms is o) (fit : T (library_fits cells))
    (has : (assignment : ℕ → Bool) → (v : ℕ → Bool) × GraphValues g assignment v) where
  abbrev Times : Delays → (List ℕ → ℕ) → Type 0
  Times delays at = NetTimes cells delays (netlist_of cells g o) (map g.input_arrival g.inputs) at

  -- any arrivals of the nets, by the highest delays and by the lowest, are those of the outputs' rows
  pub row-times : (high low : List ℕ → ℕ) → Times (high_delays k fit) high → Times (low_delays k fit) low
      → (e : Row) → Memᴰ e o.outs → Timed (λ n. high (net_name n)) (λ n. low (net_name n)) e
  row-times high low is_high is_low =
      let v = has (λ u. false) in
      let w = certified_has k fit (λ u. false) in
      same-times k fit (λ u. false) v.0 v.1 w.0 w.1 high is_high low is_low

  -- the arrivals of the outputs, at their own names
  pub out_highs : (at : List ℕ → ℕ) → Times (high_delays k fit) at → map at (netlist_of cells g o).outputs ≡ map (λ (e : Row). e.c) o.outs
  unfolding blif_of
  out_highs at h =
      let low = certified_times k fit (low_delays k fit) in
      at-outputs at (out_nets o) h.at_wires ∙ map-map (λ (n : ℕ). at (net_name n)) (λ (e : Row). e.a) o.outs
      ∙ map_same (λ (e : Row). at (net_name e.a)) (λ (e : Row). e.c) o.outs (λ e m. sym (row-times at low.0 h low.1 e m).0)

  pub out_mins : (at : List ℕ → ℕ) → Times (low_delays k fit) at → map at (netlist_of cells g o).outputs ≡ map (λ (e : Row). e.d) o.outs
  unfolding blif_of
  out_mins at h =
      let high = certified_times k fit (high_delays k fit) in
      at-outputs at (out_nets o) h.at_wires ∙ map-map (λ (n : ℕ). at (net_name n)) (λ (e : Row). e.a) o.outs
      ∙ map_same (λ (e : Row). at (net_name e.a)) (λ (e : Row). e.d) o.outs (λ e m. sym (row-times high.0 at high.1 h e m).1)

  pub certified_figures : FiguresOf cells g (figures_by cells o) (netlist_of cells g o)
  unfolding figures_by blif_of
  certified_figures = record {
    has_arrivals = certified_times k fit (high_delays k fit);
    count = sym (length-map line_of (gates_of cells o) ∙ length-map (gate_of cells) o.gates);
    area = sym (ap sum (map-map (λ (t : GateLine). (named cells t.cell).area) line_of (gates_of cells o) ∙ map-map (λ (x : Gate). (named cells (line_of x).cell).area) (gate_of cells) o.gates
        ∙ map_same (λ (x : Made). (named cells (line_of (gate_of cells x)).cell).area) (λ (x : Made). (cell_of cells x).area) o.gates (λ x m. ap (λ (c : Cell). c.area) (its_cell k fit x m))));
    arrival = λ at h. ap largest (sym (out_highs at h));
  }
