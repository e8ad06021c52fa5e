-- The arrivals of the printed nets under any choice of pin delays: they exist, and any are those of the phases. With the `d` delays these are the chosen
-- ones, with any others what `retimed` computes.
use Rattle.base.specs.{ℕ, zero, suc, ◌+◌, ◌-◌, ◌≤◌, ◌<◌, max, arith, ◌≡◌, refl, sym, ◌∙◌, ap, ap₂, subst, Bool, false, cond, true≢false}
use Rattle.base.specs.{List, [], ◌∷◌, map, Memᴰ, Memᴰ-head, Memᴰ-tail, head-eq_of_cons-eq, tail-eq_of_cons-eq, ltb, length}
use Rattle.base.specs.{take, drop, get_or, length-take, length-drop, yes_ltb, no_ltb}
use Rattle.model.specs.{cell_at, splice, pair_pins, pair_delays, pair_of, cell_of_pair, var_of, literal, cuts_of, feeds, cell_of, latest, absent}
use Rattle.model.specs.{chosen, IsInputSource, arrival_by, Gate, is_input_source, net_name, retimed, GateLine, named, Delays, NetTimes, NetArrivals}
use Rattle.model.specs.Graph.{Graph}
use Rattle.model.specs.declared.Cell.{Cell}
use Rattle.model.specs.declared.Source.{Source}
use Rattle.model.specs.declared.Source.TheVariants.{Input, Cell as Matched, Inverter as Inverted, Nothing}
use Rattle.theory_graph.proofs.{map-map, map_same, is_true, is_false, lit_var, length-map, order-once}
use Rattle.theory_graph.specs.AcceptedGraph.{Accepted}
use Rattle.theory_cover.proofs.{chosen_fine, own-chosen, own-arrival, time_by, retimed_rule, pair-latest}
use Rattle.theory_text.proofs.{line_of, blif_of, cell_form, library-cell}
use Rattle.theory_demands.proofs.RefusalRanks.{Numbered, single, double, Fitting}
use Rattle.theory_demands.proofs.PhaseNets.{splice-length, root_cell, inner_cell, fed_pin, cell_gate, inner_gate, root_gate, whole_single}
use Rattle.theory_demands.proofs.PhaseNets.{whole_double, single_bound, inner_bound, root-bound}
use Rattle.theory_demands.proofs.ChosenGates.{source_of, number_at, fed_at, NeedsOf, Gates, OfCell, of_cell, number_of_lem, chosen_gates, present}
use Rattle.theory_demands.proofs.ChosenGates.{input-bound, own_value, own-source, own-net}
use Rattle.theory_demands.proofs.NetDemands.{made, nets_are, the, the_phase, the_lines, the_wires}

-- ---- the delays of a phase's gates together

-- four delays, absent ones 0
unfoldable pub padded : List ℕ → List ℕ
padded ds = get_or ds 0 0 ∷ get_or ds 1 0 ∷ get_or ds 2 0 ∷ get_or ds 3 0 ∷ []

pub padded-four : (ds : List ℕ) → length (padded ds) ≡ 4
unfolding padded
padded-four ds = refl

pub padded-same : (ds : List ℕ) → length ds ≡ 4 → padded ds ≡ ds
unfolding padded
padded-same [] e = absurd (let q : 0 ≡ 4 = e in omega arith)
padded-same (a ∷ []) e = absurd (let q : 1 ≡ 4 = e in omega arith)
padded-same (a ∷ b ∷ []) e = absurd (let q : 2 ≡ 4 = e in omega arith)
padded-same (a ∷ b ∷ c ∷ []) e = absurd (let q : 3 ≡ 4 = e in omega arith)
padded-same (a ∷ b ∷ c ∷ d ∷ []) e = refl
padded-same (a ∷ b ∷ c ∷ d ∷ f ∷ ds) e = absurd (let q : suc (suc (suc (suc (suc (length ds))))) ≡ 4 = e in omega arith)

-- an absent delay counts as 0
latest-get_or : (ts ds es : List ℕ) → ((j : ℕ) → j < length ts → get_or ds j 0 ≡ get_or es j 0) → latest ts ds ≡ latest ts es
unfolding latest
latest-get_or [] ds es h = refl
latest-get_or (t ∷ ts) [] [] h = refl
latest-get_or (t ∷ ts) [] (e ∷ es) h = ap₂ max (let p : t ≡ t + e = omega (arith, h 0 (omega arith)) in p)
    (latest-get_or ts [] es (λ j k. h (suc j) (omega (arith, h 0 (omega arith)))))
latest-get_or (t ∷ ts) (d ∷ ds) [] h = ap₂ max (let p : t + d ≡ t = omega (arith, h 0 (omega arith)) in p)
    (latest-get_or ts ds [] (λ j k. h (suc j) (omega (arith, h 0 (omega arith)))))
latest-get_or (t ∷ ts) (d ∷ ds) (e ∷ es) h = let q : d ≡ e = h 0 (omega arith) in cc (latest-get_or ts ds es (λ j k. h (suc j) (omega arith)))

latest-padded : (ts ds : List ℕ) → length ts ≤ 4 → latest ts ds ≡ latest ts (padded ds)
unfolding padded
latest-padded ts ds few = latest-get_or ts ds (padded ds) at
  where
    four : (j : ℕ) → j < 4 → get_or ds j 0 ≡ get_or (padded ds) j 0
    four zero h = refl
    four (suc zero) h = refl
    four (suc (suc zero)) h = refl
    four (suc (suc (suc zero))) h = refl
    four (suc (suc (suc (suc j)))) h = absurd (let q : suc (suc (suc (suc j))) < 4 = h in omega arith)

    at : (j : ℕ) → j < length ts → get_or ds j 0 ≡ get_or (padded ds) j 0
    at j h = four j (omega arith)

-- a run as one, by two functions that agree on it
splice-same : (p n : ℕ) (f h : List ℕ → ℕ) (xs : List ℕ) → f (take n (drop p xs)) ≡ h (take n (drop p xs)) → splice p n f xs ≡ splice p n h xs
unfolding splice
splice-same zero n f h xs e = ap (λ (y : ℕ). y ∷ drop n xs) e
splice-same (suc p) n f h [] e = refl
splice-same (suc p) n f h (x ∷ xs) e = ap (λ (ys : List ℕ). x ∷ ys) (splice-same p n f h xs e)

-- the delays of the gate lines of phase l by a choice: of one line, or of the root's and the inner's joined
unfoldable pub phase_delays : List Cell → List Cell → Graph → Delays → ℕ → List ℕ
phase_delays listed cells g delays l =
    let k = number_at cells g l in
    let ins = fed_at cells g l in
    cond (ltb k (length listed)) (delays (line_of (cell_gate listed k ins l)))
    (pair_delays (fed_pin listed k ins l) (inner_cell listed k ins l).pins (padded (delays (line_of (root_gate listed k ins l)))) (padded (delays (line_of (inner_gate listed k ins l)))))

-- arrivals of the phases that are by the rule under a choice of pin delays
pub record Follows (listed cells : List Cell) (g : Graph) (delays : Delays) (arr : ℕ → ℕ) : Type 0 where
  pub at_input : (v : ℕ) → Memᴰ v g.inputs → arr (literal false v) ≡ g.input_arrival v
  pub at_gate : (l : ℕ) → NeedsOf cells g l → is_input_source (source_of cells g l) ≡ false → arr l ≡ latest (map arr (fed_at cells g l)) (phase_delays listed cells g delays l)

-- any arrivals that are by the rule have an input's at its net
pub input-at : (g : Graph) (at : List ℕ → ℕ) (vs : List ℕ) → map at (map (λ (v : ℕ). net_name (literal false v)) vs) ≡ map g.input_arrival vs → (v : ℕ) → Memᴰ v vs
    → at (net_name (literal false v)) ≡ g.input_arrival v
input-at g at (x ∷ vs) e v (Memᴰ-head q) = subst (λ (y : ℕ). at (net_name (literal false y)) ≡ g.input_arrival y) (sym q) (head-eq_of_cons-eq e)
input-at g at (x ∷ vs) e v (Memᴰ-tail m) = input-at g at vs (tail-eq_of_cons-eq e) v m
input-at g at [] e v x'' = elim x'' [ ]

module _ (listed cells : List Cell) (fit : Fitting listed cells) (g : Graph) (ok : Accepted g)
    (present-outputs : (l : ℕ) → Memᴰ l g.outputs → absent (chosen cells g l).source ≡ false) where
  -- ---- a phase's gates together

  abbrev pub joined : Delays → ℕ → List ℕ
  joined delays l =
      pair_delays (fed_pin listed (number_at cells g l) (fed_at cells g l) l) (inner_cell listed (number_at cells g l) (fed_at cells g l) l).pins
      (padded (delays (line_of (root_gate listed (number_at cells g l) (fed_at cells g l) l)))) (padded (delays (line_of (inner_gate listed (number_at cells g l) (fed_at cells g l) l))))

  -- the two cases of a phase's delays
  pub delays_single : (delays : Delays) (l : ℕ) → number_at cells g l < length listed → phase_delays listed cells g delays l ≡ delays (line_of (cell_gate listed (number_at cells g l) (fed_at cells g l) l))
  unfolding phase_delays
  delays_single delays l h = ap (λ (b : Bool). cond b (delays (line_of (cell_gate listed (number_at cells g l) (fed_at cells g l) l))) (joined delays l)) (is_true (ltb (number_at cells g l) (length listed)) (yes_ltb h))

  pub delays_double : (delays : Delays) (l : ℕ) → length listed ≤ number_at cells g l → phase_delays listed cells g delays l ≡ joined delays l
  unfolding phase_delays
  delays_double delays l h = ap (λ (b : Bool). cond b (delays (line_of (cell_gate listed (number_at cells g l) (fed_at cells g l) l))) (joined delays l)) (is_false (ltb (number_at cells g l) (length listed)) (no_ltb h))

  -- the gates of a phase arrive together as one with its delays
  made_time : (delays : Delays) (l : ℕ) → Gates listed cells fit g ok present-outputs l → (ts : List ℕ) → length ts ≡ length (fed_at cells g l)
      → made listed cells fit g ok present-outputs 0 (λ t us. latest us (delays t)) l ts ≡ latest ts (phase_delays listed cells g delays l)
  unfolding cell_of_pair pair_of pair_pins
  made_time delays l q ts n = go (number_of_lem listed cells fit g ok present-outputs l q)
    where
      c : OfCell listed cells fit g ok present-outputs l (source_of cells g l)
      c = of_cell listed cells fit g ok present-outputs l q

      k : ℕ
      k = number_at cells g l

      ins : List ℕ
      ins = fed_at cells g l

      p : ℕ
      p = fed_pin listed k ins l

      m : ℕ
      m = (inner_cell listed k ins l).pins

      of_root : List ℕ
      of_root = delays (line_of (root_gate listed k ins l))

      of_inner : List ℕ
      of_inner = delays (line_of (inner_gate listed k ins l))

      go : Numbered listed cells k → made listed cells fit g ok present-outputs 0 (λ t us. latest us (delays t)) l ts ≡ latest ts (phase_delays listed cells g delays l)
      go (single h e) = whole_single listed k ins l (λ (t : Gate) (us : List ℕ). latest us (delays (line_of t))) h ts ∙ ap (latest ts) (sym (delays_single delays l h))
      go (double h o e) =
          let long : length ts ≡ (root_cell listed k ins l).pins + (inner_cell listed k ins l).pins - 1 = n ∙ c.pins ∙ ap (λ (x : Cell). x.pins) e in
          let few = o.few in
          let some = o.some_pin in
          let pin = o.has_pin in
          let all-few : length ts ≤ 4 = omega (arith, long, few, some) in
          whole_double listed k ins l (λ (t : Gate) (us : List ℕ). latest us (delays (line_of t))) h ts
          ∙ latest-padded (splice p m (λ us. latest us of_inner) ts) of_root (let r = splice-length p m (λ us. latest us of_inner) ts (omega (arith, long, few, some, pin)) in omega (arith, r, long, few, some))
          ∙ ap (λ (us : List ℕ). latest us (padded of_root)) (splice-same p m (λ us. latest us of_inner) (λ us. latest us (padded of_inner)) ts
          (latest-padded (take m (drop p ts)) of_inner (let r = length-take m (drop p ts) in let s = length-drop p ts in omega (arith, r, s, all-few))))
          ∙ sym (pair-latest p m ts (padded of_root) (padded of_inner) some (omega (arith, long, few, some, pin)) all-few
          (let r = padded-four of_root in omega (arith, r, long, few, some, pin)) (let r = padded-four of_inner in omega (arith, r, few, pin)))
          ∙ ap (latest ts) (sym (delays_double delays l h))

  -- where each line has its cell's delays of a kind, a phase has its source's cell's
  pub phase-delays : (pick : Cell → List ℕ) → ((x : Cell) → Memᴰ x listed → length (pick x) ≡ 4)
      → ((root inner : Cell) (pin : ℕ) → pick (pair_of root pin inner) ≡ pair_delays pin inner.pins (pick root) (pick inner))
      → (l : ℕ) → Gates listed cells fit g ok present-outputs l
      → phase_delays listed cells g (λ t. pick (named listed t.cell)) l ≡ pick (cell_of cells (source_of cells g l))
  unfolding cell_of_pair
  phase-delays pick four join l q = go (number_of_lem listed cells fit g ok present-outputs l q) ∙ ap pick (sym c.is_cell)
    where
      c : OfCell listed cells fit g ok present-outputs l (source_of cells g l)
      c = of_cell listed cells fit g ok present-outputs l q

      k : ℕ
      k = number_at cells g l

      ins : List ℕ
      ins = fed_at cells g l

      go : Numbered listed cells k → phase_delays listed cells g (λ t. pick (named listed t.cell)) l ≡ pick (cell_at cells k)
      go (single h e) = delays_single (λ t. pick (named listed t.cell)) l h ∙ ap pick ((single_bound listed cells fit k ins l c.pins h e).bound.is_cell ∙ sym e)
      go (double h o e) = cc (
        delays_double (λ t. pick (named listed t.cell)) l h,
        (root-bound listed cells fit k ins l
            c.pins o e).bound.is_cell,
        (inner_bound listed cells fit k ins l c.pins o e).bound.is_cell,
        padded-same
            (pick (root_cell listed k ins l)) (four (root_cell listed k ins l) o.has_root),
        padded-same (pick (inner_cell listed k ins l))
            (four (inner_cell listed k ins l) o.has_inner),
        join (root_cell listed k ins l) (inner_cell listed k ins l)
            (fed_pin listed k ins l),
      )

  -- ---- nets and phases

  module _ (delays : Delays) (arr : ℕ → ℕ) (follows : Follows listed cells g delays arr) where
    abbrev pub line_time : GateLine → List ℕ → ℕ
    line_time t us = latest us (delays t)

    pub rule : (l : ℕ) → Gates listed cells fit g ok present-outputs l → arr l ≡ made listed cells fit g ok present-outputs 0 line_time l (map arr (fed_at cells g l))
    rule l q = follows.at_gate l q.needs q.not_input_source ∙ sym (made_time delays l q (map arr (fed_at cells g l)) (length-map arr (fed_at cells g l)))

    abbrev pub time_on : List ℕ → ℕ
    time_on = the listed cells fit g ok present-outputs 0 line_time arr rule

    -- the phases' arrivals are the nets'
    pub times-on : NetTimes listed delays (blif_of g (chosen_gates listed cells g)) (map g.input_arrival g.inputs) time_on
    unfolding blif_of
    times-on = record {
      at_inputs = map-map time_on (λ (v : ℕ). net_name (literal false v)) g.inputs ∙ map_same (λ (v : ℕ). time_on (net_name (literal false v))) g.input_arrival g.inputs
          (λ v m. the_phase listed cells fit g ok present-outputs 0 line_time arr rule (literal false v) (input-bound listed cells fit g ok present-outputs v m) ∙ follows.at_input v m);
      at_gates = the_lines listed cells fit g ok present-outputs 0 line_time arr rule;
      at_wires = the_wires listed cells fit g ok present-outputs 0 line_time arr rule;
    }

    -- any arrivals of the nets that are by the rule are the phases'
    pub net-on : (at : List ℕ → ℕ) → NetTimes listed delays (blif_of g (chosen_gates listed cells g)) (map g.input_arrival g.inputs) at → (l : ℕ) → NeedsOf cells g l → at (net_name l) ≡ arr l
    unfolding blif_of
    net-on at h = nets_are listed cells fit g ok present-outputs 0 line_time arr rule at h.at_gates (λ l n e.
        let o : IsInputSource g l = own-source listed cells fit g ok present-outputs l n e in let q : literal false
        (var_of l) ≡ l = (own_value listed cells fit g ok present-outputs (λ u. false) l o).0 in ap (λ (k : ℕ). at (net_name k)) (sym q)
        ∙ input-at g at g.inputs h.at_inputs (var_of l) o.is_input ∙ sym (ap arr (sym q) ∙ follows.at_input (var_of l) o.is_input))

  -- ---- the chosen arrivals

  abbrev high_delays : Delays
  high_delays t = (named listed t.cell).delays

  abbrev arr : ℕ → ℕ
  arr x = (chosen cells g x).arrival

  -- an input's own net has the input's arrival
  pub input_time : (v : ℕ) → Memᴰ v g.inputs → (chosen cells g (literal false v)).arrival ≡ g.input_arrival v
  input_time v m = own-arrival cells g (order-once g ok) (literal false v) (own-net listed cells fit g ok present-outputs v m) ∙ ap g.input_arrival (lit_var false v)

  -- the chosen arrivals are by the rule
  pub chosen-follows : Follows listed cells g (λ t. (named listed t.cell).delays) (λ l. (chosen cells g l).arrival)
  unfolding arrival_by is_input_source feeds latest pair_of
  chosen-follows = record {
    at_input = input_time;
    at_gate = λ l n e.
        (chosen_fine cells g (order-once g ok) l (present listed cells fit g ok present-outputs l n)).0.timed ∙ rule_of l (source_of cells g l) e
        ∙ ap (latest (map arr (fed_at cells g l))) (sym (phase-delays (λ x. x.delays) four (λ root inner pin. refl) l (record { needs = n; not_input_source = e })));
  }
    where
      four : (x : Cell) → Memᴰ x listed → length x.delays ≡ 4
      four x m = (cell_form x (library-cell listed fit.fits x m)).four_delays

      rule_of : (l : ℕ) (s : Source) → is_input_source s ≡ false → arrival_by cells g arr l s ≡ latest (map arr (feeds cells (cuts_of g) l s)) (cell_of cells s).delays
      rule_of l Input q = absurd (true≢false q)
      rule_of l Nothing q = refl
      rule_of l (Matched m) q = refl
      rule_of l (Inverted i) q = refl

  abbrev pub the_time : List ℕ → ℕ
  the_time = time_on high_delays arr chosen-follows

  pub times_hold : NetArrivals listed (blif_of g (chosen_gates listed cells g)) (map g.input_arrival g.inputs) the_time
  times_hold = times-on high_delays arr chosen-follows

  pub net_time : (at : List ℕ → ℕ) → NetArrivals listed (blif_of g (chosen_gates listed cells g)) (map g.input_arrival g.inputs) at → (l : ℕ) → NeedsOf cells g l → at (net_name l) ≡ (chosen cells g l).arrival
  net_time = net-on high_delays arr chosen-follows

  -- ---- under other delays, by phase

  module _ (by : ℕ → List ℕ) (delays : Delays) (same : (l : ℕ) → Gates listed cells fit g ok present-outputs l → by l ≡ phase_delays listed cells g delays l) where
    abbrev times : ℕ → ℕ
    times = retimed cells g (source_of cells g) by

    pub retimed-follows : Follows listed cells g delays (retimed cells g (source_of cells g) by)
    unfolding time_by is_input_source feeds latest absent
    retimed-follows = record {
      at_input = λ v m. let e : source_of cells g (literal false v) ≡ Input = own-chosen cells g (order-once g ok) (literal false v)
          (own-net listed cells fit g ok present-outputs v m) in retimed_rule cells g (order-once g ok) by (literal false v)
          (ap absent e) ∙ ap (time_by cells g (by (literal false v)) times (literal false v)) e ∙ ap g.input_arrival (lit_var false v);
      at_gate = λ l n e. retimed_rule cells g (order-once g ok) by l (present listed cells fit g ok present-outputs l n)
          ∙ rule_of l (source_of cells g l) e ∙ ap (latest (map times (fed_at cells g l))) (same l (record { needs = n; not_input_source = e }));
    }
      where
        rule_of : (l : ℕ) (s : Source) → is_input_source s ≡ false → time_by cells g (by l) times l s ≡ latest (map times (feeds cells (cuts_of g) l s)) (by l)
        rule_of l Input q = absurd (true≢false q)
        rule_of l Nothing q = refl
        rule_of l (Matched m) q = refl
        rule_of l (Inverted i) q = refl
