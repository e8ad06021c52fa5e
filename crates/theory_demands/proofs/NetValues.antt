-- The values of the printed nets: they exist, and any are the graph's.
use Rattle.base.specs.{ℕ, ◌≡◌, refl, sym, ◌∙◌, ap, ap₂, subst, Bool, false, true≢false, List, [], ◌∷◌, map, head-eq_of_cons-eq}
use Rattle.base.specs.{tail-eq_of_cons-eq, Memᴰ, Memᴰ-head, Memᴰ-tail, length}
use Rattle.model.specs.{value, row_of, cell_at, splice, pair_value, pair_of, cell_of_pair, var_of, literal, literal_value, value_of, cuts_of, feeds}
use Rattle.model.specs.{cell_of, absent, chosen, Allowed, Gate, is_input_source, net_name, GateLine, named, NetValues}
use Rattle.model.specs.Graph.{Graph}
use Rattle.model.specs.declared.Cell.{Cell}
use Rattle.model.specs.declared.Source.{Source}
use Rattle.model.specs.declared.Source.TheVariants.{Input, Cell as Matched, Inverter as Inverted, Nothing}
use Rattle.theory_graph.proofs.{lit_var, length-map, order-once, value_of_valuation}
use Rattle.theory_graph.specs.AcceptedGraph.{Accepted}
use Rattle.theory_cover.proofs.{chosen_fine, gate-value, inverter-value, pair-value}
use Rattle.theory_text.proofs.{line_of, blif_of}
use Rattle.theory_demands.proofs.RefusalRanks.{Numbered, single, double, Fitting}
use Rattle.theory_demands.proofs.PhaseNets.{root_cell, inner_cell, fed_pin, whole_single, whole_double, single_bound, inner_bound}
use Rattle.theory_demands.proofs.PhaseNets.{root-bound}
use Rattle.theory_demands.proofs.ChosenGates.{source_of, number_at, fed_at, NeedsOf, Gates, OfCell, of_cell, number_of_lem, chosen_gates, present}
use Rattle.theory_demands.proofs.ChosenGates.{input-bound, own_value, own-source, own-net}
use Rattle.theory_demands.proofs.NetDemands.{made, nets_are, the, the_phase, the_lines, the_wires}

module _ (listed cells : List Cell) (fit : Fitting listed cells) (g : Graph) (ok : Accepted g)
    (present-outputs : (l : ℕ) → Memᴰ l g.outputs → absent (chosen cells g l).source ≡ false) where
  input-at : (w : List ℕ → Bool) (assignment : ℕ → Bool) (vs : List ℕ) → map w (map (λ (v : ℕ). net_name (literal false v)) vs) ≡ map assignment vs → (v : ℕ) → Memᴰ v vs
      → w (net_name (literal false v)) ≡ assignment v
  input-at w assignment (x ∷ vs) e v (Memᴰ-head q) = subst (λ (y : ℕ). w (net_name (literal false y)) ≡ assignment y) (sym q) (head-eq_of_cons-eq e)
  input-at w assignment (x ∷ vs) e v (Memᴰ-tail m) = input-at w assignment vs (tail-eq_of_cons-eq e) v m
  input-at w assignment [] e v x'' = elim x'' [ ]

  -- a source's cell at the AIGER values of its pins has the AIGER value of its phase
  right : (assignment : ℕ → Bool) (l : ℕ) → NeedsOf cells g l → is_input_source (source_of cells g l) ≡ false
      → value (cell_of cells (source_of cells g l)).table (row_of (map (literal_value (value_of g assignment)) (fed_at cells g l))) ≡ literal_value (value_of g assignment) l
  unfolding cell_of feeds is_input_source
  right assignment l n h = go (source_of cells g l) refl (chosen_fine cells g (order-once g ok) l (present listed cells fit g ok present-outputs l n)).0.allowed h
    where
      go : (s : Source) → source_of cells g l ≡ s → Allowed cells g l s → is_input_source s ≡ false
          → value (cell_of cells s).table (row_of (map (literal_value (value_of g assignment)) (feeds cells (cuts_of g) l s))) ≡ literal_value (value_of g assignment) l
      go Input e a q = absurd (true≢false q)
      go Nothing e a q = absurd a
      go (Matched m) e a q = gate-value cells g (order-once g ok) assignment (value_of g assignment) (value_of_valuation g ok assignment) l m a
      go (Inverted i) e a q = inverter-value (cell_at cells i) (value_of g assignment) l a.inverts

  -- the value that a line's cell has
  abbrev line_value : GateLine → List Bool → Bool
  line_value t bs = value (named listed t.cell).table (row_of bs)

  -- a phase's gates together have the value of its source's cell
  made-value : (l : ℕ) → Gates listed cells fit g ok present-outputs l → (bs : List Bool) → length bs ≡ length (fed_at cells g l)
      → made listed cells fit g ok present-outputs false line_value l bs ≡ value (cell_of cells (source_of cells g l)).table (row_of bs)
  unfolding cell_of_pair pair_of pair_value
  made-value l q bs n = go (number_of_lem listed cells fit g ok present-outputs l q) ∙ ap (λ (c : Cell). value c.table (row_of bs)) (sym c.is_cell)
    where
      c : OfCell listed cells fit g ok present-outputs l (source_of cells g l)
      c = of_cell listed cells fit g ok present-outputs l q

      k : ℕ
      k = number_at cells g l

      nets : List ℕ
      nets = fed_at cells g l

      go : Numbered listed cells k → made listed cells fit g ok present-outputs false line_value l bs ≡ value (cell_at cells k).table (row_of bs)
      go (single h e) = cc (
        whole_single listed k nets l (λ (t : Gate). line_value (line_of t)) h bs,
        (single_bound listed cells fit k nets l
            c.pins h e).bound.is_cell,
      )
      go (double h p e) =
          whole_double listed k nets l (λ (t : Gate). line_value (line_of t)) h bs
          ∙ ap₂ (λ (x y : Cell). value x.table (row_of (splice (fed_pin listed k nets l) (inner_cell listed k nets l).pins (λ (cs : List Bool). value y.table (row_of cs)) bs)))
          (root-bound listed cells fit k nets l c.pins p e).bound.is_cell (inner_bound listed cells fit k nets l c.pins p e).bound.is_cell
          ∙ sym (pair-value (root_cell listed k nets l) (inner_cell listed k nets l) (fed_pin listed k nets l) bs (n ∙ c.pins ∙ ap (λ (x : Cell). x.pins) e))
          ∙ ap (λ (x : Cell). value x.table (row_of bs)) (sym e)

  module _ (assignment : ℕ → Bool) where
    abbrev val : ℕ → Bool
    val = literal_value (value_of g assignment)

    pub rule : (l : ℕ) → Gates listed cells fit g ok present-outputs l → val l ≡ made listed cells fit g ok present-outputs false line_value l (map val (fed_at cells g l))
    rule l q = sym (made-value l q (map val (fed_at cells g l)) (length-map val (fed_at cells g l)) ∙ right assignment l q.needs q.not_input_source)

    -- any values that hold are the AIGER values
    pub net-value : (w : List ℕ → Bool) → NetValues listed (blif_of g (chosen_gates listed cells g)) (map assignment g.inputs) w → (l : ℕ) → NeedsOf cells g l → w (net_name l) ≡ val l
    unfolding blif_of
    net-value w h = nets_are listed cells fit g ok present-outputs false line_value val rule w h.at_gates (λ l n e.
        let s = own-source listed cells fit g ok present-outputs l n e in
        let o = own_value listed cells fit g ok present-outputs assignment l s in ap (λ (k : ℕ). w (net_name k)) (sym o.0)
        ∙ input-at w assignment g.inputs h.at_inputs (var_of l) s.is_input ∙ sym o.1)

    abbrev pub the_value : List ℕ → Bool
    the_value = the listed cells fit g ok present-outputs false line_value val rule

    inputs_hold : (vs : List ℕ) → ((v : ℕ) → Memᴰ v vs → Memᴰ v g.inputs) → map the_value (map (λ (v : ℕ). net_name (literal false v)) vs) ≡ map assignment vs
    inputs_hold [] h = refl
    inputs_hold (v ∷ vs) h =
        let mem = h v (Memᴰ-head refl) in
        cc (
          the_phase listed cells fit g ok present-outputs false line_value val rule (literal false v)
              (input-bound listed cells fit g ok present-outputs v mem),
          (own_value listed cells fit g ok present-outputs assignment (literal false v)
              (own-net listed cells fit g ok present-outputs v mem)).1,
          lit_var false v,
          inputs_hold vs (λ x m. h x (Memᴰ-tail m)),
        )

    -- the AIGER values hold
    pub the_holds : NetValues listed (blif_of g (chosen_gates listed cells g)) (map assignment g.inputs) the_value
    unfolding blif_of
    the_holds = record {
      at_inputs = inputs_hold g.inputs (λ v m. m);
      at_gates = the_lines listed cells fit g ok present-outputs false line_value val rule;
      at_wires = the_wires listed cells fit g ok present-outputs false line_value val rule;
    }
