-- What the nets of the printed netlist have by a rule of its gate lines, of values and of arrivals alike: anything by the rule is made of what the inputs
-- have, phase by phase; and what is so made of the phases gives the nets something by the rule.
use Rattle.base.specs.{ℕ, suc, ◌*◌, ◌<◌, ◌≡◌, sym, ◌∙◌, ap, true, false, List, ◌++◌, map, Memᴰ, Memᴰ-append_left, Memᴰ-append_right}
use Rattle.model.specs.{below, absent, chosen, output, fed, Net, of_phase, of_pair, Gate, is_input_source, net_name, label, GateLine, Wire, drives}
use Rattle.model.specs.{fed_by}
use Rattle.model.specs.Graph.{Graph}
use Rattle.model.specs.declared.Cell.{Cell}
use Rattle.theory_graph.proofs.{map_in, map_out, below_in, map-map, map_same, by_bool}
use Rattle.theory_graph.specs.AcceptedGraph.{Accepted}
use Rattle.theory_text.proofs.{line_of, wires_from}
use Rattle.theory_demands.proofs.RefusalRanks.{Fitting}
use Rattle.theory_demands.proofs.PhaseNets.{whole, inside, Refusal, to_phase, from-phase}
use Rattle.theory_demands.proofs.ChosenGates.{source_of, number_at, fed_at, gates_at, NeedsOf, Gates, chosen_gates, by_feeding, bound, gate_in_lem}
use Rattle.theory_demands.proofs.ChosenGates.{gate_out, line-bound}
use Rattle.theory_demands.proofs.Wires.{by_label, by_net, by_wire}

module _ (listed cells : List Cell) (fit : Fitting listed cells) (g : Graph) (ok : Accepted g)
    (present-outputs : (l : ℕ) → Memᴰ l g.outputs → absent (chosen cells g l).source ≡ false)
    {X : Type 0} (d : X) (out : GateLine → List X → X) where
  -- what the names have is by the rule of the lines
  abbrev pub AtLines : (List ℕ → X) → Type 0
  AtLines w = (t : GateLine) → Memᴰ t (map line_of (chosen_gates listed cells g)) → w (drives t) ≡ out t (map w (fed_by listed t))

  -- what a phase's gates make of what the phases have that feed it
  abbrev pub made : ℕ → List X → X
  made l xs = whole listed (number_at cells g l) (fed_at cells g l) l (λ (t : Gate). out (line_of t)) xs

  at-gate : (w : List ℕ → X) → AtLines w → (t : Gate) → Memᴰ t (chosen_gates listed cells g) → w (label t.net) ≡ out (line_of t) (map (λ (n : Net). w (label n)) t.pins)
  at-gate w h t m =
      let b = line-bound listed cells fit g ok present-outputs t m in
      cc (b.is_driven, h (line_of t) (map_in line_of m), b.is_fed, map-map w label t.pins)

  made_of : (w : List ℕ → X) → AtLines w → (l : ℕ) → Gates listed cells fit g ok present-outputs l → w (net_name l) ≡ made l (map (λ (x : ℕ). w (net_name x)) (fed_at cells g l))
  unfolding label
  made_of w h l q = to_phase listed (number_at cells g l) (fed_at cells g l) l (λ (t : Gate). out (line_of t)) (λ (n : Net). w (label n))
      (λ t m. at-gate w h t (gate_in_lem listed cells fit g ok present-outputs l q t m))

  module _ (val : ℕ → X) (rule : (l : ℕ) → Gates listed cells fit g ok present-outputs l → val l ≡ made l (map val (fed_at cells g l))) where
    -- whatever is by the rule and has what the inputs have, has what is made of it
    pub nets_are : (w : List ℕ → X) → AtLines w → ((l : ℕ) → NeedsOf cells g l → is_input_source (source_of cells g l) ≡ true → w (net_name l) ≡ val l)
        → (l : ℕ) → NeedsOf cells g l → w (net_name l) ≡ val l
    nets_are w h own = by_feeding listed cells fit g ok present-outputs (λ l. w (net_name l) ≡ val l) (λ l n ih. by_bool
        (is_input_source (source_of cells g l)) (λ e. own l n e) (λ q. made_of w h l (record { needs = n; not_input_source = q })
        ∙ ap (made l) (map_same (λ (x : ℕ). w (net_name x)) val (fed_at cells g l) ih) ∙ sym (rule l (record { needs = n; not_input_source = q }))))

    net_val : Net → X
    net_val (of_phase l) = val l
    net_val (of_pair l) = inside listed (number_at cells g l) (fed_at cells g l) l (λ (t : Gate). out (line_of t)) (map val (fed_at cells g l))

    abbrev all_nets : List Net
    all_nets = map of_phase (below (2 * suc g.size)) ++ map of_pair (below (2 * suc g.size))

    -- what the names have that is made of the phases
    pub the : List ℕ → X
    the = by_label d net_val g.outputs all_nets

    phase_in_lem : (l : ℕ) → l < 2 * suc g.size → Memᴰ (of_phase l) all_nets
    phase_in_lem l h = Memᴰ-append_left (map of_pair (below (2 * suc g.size))) (map_in of_phase (below_in (2 * suc g.size) l h))

    pub the_phase : (l : ℕ) → l < 2 * suc g.size → the (net_name l) ≡ val l
    unfolding the label net_val
    the_phase l h = by_net d net_val g.outputs all_nets (of_phase l) (phase_in_lem l h)

    the_pair : (l : ℕ) → l < 2 * suc g.size → the (label (of_pair l)) ≡ net_val (of_pair l)
    unfolding the
    the_pair l h =
        by_net d net_val g.outputs all_nets (of_pair l) (Memᴰ-append_right (map of_phase (below (2 * suc g.size))) (map_in of_pair (below_in (2 * suc g.size) l h)))

    the_fed : (l : ℕ) → NeedsOf cells g l → map val (fed_at cells g l) ≡ map (λ (x : ℕ). the (net_name x)) (fed_at cells g l)
    the_fed l n = map_same val (λ (x : ℕ). the (net_name x)) (fed_at cells g l) (λ x i. sym (the_phase x (bound listed cells fit g ok present-outputs x (fed n i))))

    the_refusal : (l : ℕ) → Gates listed cells fit g ok present-outputs l
        → Refusal listed (number_at cells g l) (fed_at cells g l) l (λ (t : Gate). out (line_of t)) (λ (n : Net). the (label n)) (gates_at listed cells g l)
    unfolding label net_val
    the_refusal l q =
        let h = bound listed cells fit g ok present-outputs l q.needs in
        from-phase listed (number_at cells g l) (fed_at cells g l) l (λ (t : Gate). out (line_of t)) (λ (n : Net). the (label n))
        (cc (the_phase l h, rule l q, the_fed l q.needs)) (cc (the_pair l h, the_fed l q.needs))

    -- is by the rule of the lines
    pub the_lines : AtLines the
    the_lines t m =
        let u = map_out line_of (chosen_gates listed cells g) m in
        let r = gate_out listed cells fit g ok present-outputs u.0 u.1 in
        let b = line-bound listed cells fit g ok present-outputs u.0 u.1 in
        rw u.2 (cc (b.is_driven, the_refusal r.at r.gates u.0 r.is_gate, map-map the label u.0.pins, b.is_fed))

    -- and the wires hand it on
    pub the_wires : (x : Wire) → Memᴰ x (wires_from 0 g.outputs) → the x.target ≡ the x.source
    unfolding the
    the_wires = by_wire d net_val g.outputs all_nets (λ l m. phase_in_lem l (bound listed cells fit g ok present-outputs l (output m)))
