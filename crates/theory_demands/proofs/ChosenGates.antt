-- The gates of the chosen cover: each is of a listed cell with as many nets as the cell has pins, and the netlist's text reads back as they. Of all
-- cells that fit, pairs among them or not.
use Rattle.base.specs.{ℕ, zero, suc, ◌*◌, ◌/◌, ◌≤◌, ◌<◌, not-suc-le-zero, arith, ◌≡◌, refl, sym, ◌∙◌, ap, subst, Bool, true, false, not}
use Rattle.base.specs.{cond, true≢false, false≢true, Some, List, [], ◌∷◌, ◌++◌, Memᴰ, Memᴰ-tail, Memᴰ-append_left, Memᴰ-cast, T}
use Rattle.base.specs.{eqb, eqb→eq, length, get_or}
use Rattle.model.specs.{all, same, elem, keep, below, each, flip, orders, no_cell, cell_at, pair_pins, pair_of, cell_of_pair, order_from}
use Rattle.model.specs.{topological_order, var_of, negated, literal, literal_value, value_of, node_value, cuts_of, cut_at, fed_nets, match_nets, feeds}
use Rattle.model.specs.{cell_of, absent, chosen, IsInputSource, Allowed, Needed, Net, Gate, is_input_source, needed, gates_by, number_of, gates, netlist_text}
use Rattle.model.specs.{label, timing_lines, read_blif, read_figures, read_timings}
use Rattle.model.specs.Graph.{Graph}
use Rattle.model.specs.declared.Cell.{Cell}
use Rattle.model.specs.declared.Match.{Match}
use Rattle.model.specs.declared.Source.{Source}
use Rattle.model.specs.declared.Source.TheVariants.{Input, Cell as Matched, Inverter as Inverted, Nothing}
use Rattle.model.specs.declared.Figures.{Figures}
use Rattle.theory_graph.proofs.{each_in, each_out, keep_in, keep_out, below_in, get_or_in, elem_in, elem_out, same-eq, same_refl, all_of}
use Rattle.theory_graph.proofs.{is_true, lit_var, lit_neg, lit_whole, order-once, order_small, node-input, value_of_valuation, by_bool}
use Rattle.theory_graph.proofs.{by_member}
use Rattle.theory_graph.specs.AcceptedGraph.{Accepted}
use Rattle.theory_cover.proofs.{chosen_none, by_feeding as feeding-first, chosen_fine, needed_present, chosen-cover, inverter-pins}
use Rattle.theory_text.proofs.{blif_of, read_back, figures-back, timings_from, timings-back, timings-none, Bound, library-cell, cell_form}
use Rattle.theory_text.proofs.{label-once}
use Rattle.theory_demands.proofs.Needs.{listed-needed, needed-listed}
use Rattle.theory_demands.proofs.RefusalRanks.{Numbered, single, double, Fitting}
use Rattle.theory_demands.proofs.PhaseNets.{OfPhase, of_phase_lem}

-- ---- the nets that feed a source are as many as its cell has pins

orders-count : length orders ≡ 24
unfolding orders
orders-count = refl

order-long : (k : ℕ) → k < 24 → length (get_or orders k []) ≡ 4
order-long k h = eqb→eq (length (get_or orders k [])) 4 (all_of (λ (o : List ℕ). eqb (length o) 4) orders (unfold all orders in tt)
    (get_or orders k []) (get_or_in orders k [] (subst (λ (n : ℕ). k < n) (sym orders-count) h)))

fed-count : (n : ℕ) (places : List ℕ) (mask : ℕ) (leaves : List ℕ) → n ≤ length places → length (fed_nets n places mask leaves) ≡ n
unfolding fed_nets
fed-count zero places mask leaves h = refl
fed-count (suc n) [] mask leaves h = absurd (not-suc-le-zero h)
fed-count (suc n) (p ∷ ps) mask leaves h = ap suc (fed-count n ps (mask / 2) leaves (omega arith))

-- ---- a look-up by a net's name

module _ {X : Type 0} (d : X) (val : Net → X) where
  pub by_name : List Net → List ℕ → X
  by_name [] name = d
  by_name (n ∷ ns) name = cond (same (label n) name) (val n) (by_name ns name)

  pub by_name_lem : (ns : List Net) (n : Net) → Memᴰ n ns → by_name ns (label n) ≡ val n
  unfolding by_name
  by_name_lem (k ∷ ns) n m = by_bool (same (label k) (label n)) (λ e. cc (label-once k n (same-eq (label k) (label n) (subst T (sym e) tt))))
      (λ q. cc (by_member m (λ p. absurd (true≢false
      (sym (is_true (same (label k) (label n)) (subst (λ (x : Net). T (same (label x) (label n))) p (same_refl (label n)))) ∙ q)))
      (by_name_lem ns n)))
  by_name_lem [] n m = elim m [ ]

-- the chosen source of a phase
abbrev pub source_of : List Cell → Graph → ℕ → Source
source_of cells g l = (chosen cells g l).source

-- a phase that the chosen cover of the outputs needs
abbrev pub NeedsOf : List Cell → Graph → ℕ → Type 0
NeedsOf cells g l = Needed cells g g.outputs (source_of cells g) l

-- the number of its cell, and the phases that feed it
abbrev pub number_at : List Cell → Graph → ℕ → ℕ
number_at cells g l = number_of (source_of cells g l)

abbrev pub fed_at : List Cell → Graph → ℕ → List ℕ
fed_at cells g l = feeds cells (cuts_of g) l (source_of cells g l)

-- the gates of a phase
abbrev pub gates_at : List Cell → List Cell → Graph → ℕ → List Gate
gates_at listed cells g l = gates_by listed (number_at cells g l) (fed_at cells g l) l

abbrev pub chosen_gates : List Cell → List Cell → Graph → List Gate
chosen_gates listed cells g = gates listed cells g (chosen cells g)

-- the phases that become gates
abbrev pub gate_nets : List Cell → Graph → List ℕ
gate_nets cells g = keep (λ (l : ℕ). cond (elem l (needed cells g (chosen cells g))) (not (is_input_source (source_of cells g l))) false) (below (2 * suc g.size))

pub gates_are : (listed cells : List Cell) (g : Graph) → chosen_gates listed cells g ≡ each (gates_at listed cells g) (gate_nets cells g)
unfolding gates
gates_are listed cells g = refl

module _ (listed cells : List Cell) (fit : Fitting listed cells) (g : Graph) (ok : Accepted g) (present-outputs : (l : ℕ) → Memᴰ l g.outputs → absent (chosen cells g l).source ≡ false) where
  pub present : (l : ℕ) → NeedsOf cells g l → absent (source_of cells g l) ≡ false
  present = needed_present cells g (order-once g ok) g.outputs present-outputs

  pub ordered : (l : ℕ) → NeedsOf cells g l → Memᴰ (var_of l) (topological_order g)
  ordered l n = by_bool (elem (var_of l) (topological_order g)) (λ e. elem_out (var_of l) (topological_order g) e) (λ q. absurd
      (true≢false (sym (chosen_none cells g l (λ m. true≢false (sym (elem_in (var_of l) (topological_order g) m) ∙ q))) ∙ present l n)))

  -- Induction along what feeds: each needed (chosen cells g) after those that it is fed by.
  pub by_feeding : (P : ℕ → Type 0) → ((l : ℕ) → NeedsOf cells g l → ((x : ℕ) → Memᴰ x (feeds cells (cuts_of g) l (source_of cells g l)) → P x) → P l) → (l : ℕ) → NeedsOf cells g l → P l
  unfolding chosen-cover
  by_feeding = feeding-first cells g (order-once g ok) g.outputs (chosen-cover cells g (order-once g ok) g.outputs present-outputs)

  -- ---- the gates

  pub bound : (l : ℕ) → NeedsOf cells g l → l < 2 * suc g.size
  unfolding var_of
  bound l n = let h : l / 2 ≤ g.size = order_small g ok (var_of l) (ordered l n) in omega arith

  pub input-bound : (v : ℕ) → Memᴰ v g.inputs → literal false v < 2 * suc g.size
  unfolding literal topological_order
  input-bound v m =
      let h : v ≤ g.size = order_small g ok v (Memᴰ-tail (Memᴰ-append_left (order_from (length g.ands) g.ands (0 ∷ g.inputs)) m)) in omega arith

  -- a phase that becomes gates
  pub record Gates (l : ℕ) : Type 0 where
    pub needs : NeedsOf cells g l
    pub not_input_source : is_input_source (source_of cells g l) ≡ false

  pub net_in : (l : ℕ) → Gates l → Memᴰ l (gate_nets cells g)
  net_in l h = keep_in (λ (k : ℕ). cond (elem k (needed cells g (chosen cells g))) (not (is_input_source (source_of cells g k))) false)
      (below_in (2 * suc g.size) l (bound l h.needs))
      (rw (elem_in l (needed cells g (chosen cells g)) (needed-listed cells g (order-once g ok) l h.needs)) (rw h.not_input_source tt))

  pub net_out : (l : ℕ) → Memᴰ l (gate_nets cells g) → Gates l
  net_out l m =
      let k = keep_out (λ (j : ℕ). cond (elem j (needed cells g (chosen cells g))) (not (is_input_source (source_of cells g j))) false) (below (2 * suc g.size)) m in
      let r = both_tests (elem l (needed cells g (chosen cells g))) (is_input_source (source_of cells g l)) k.1 in
      record { needs = listed-needed cells g (order-once g ok) l (elem_out l (needed cells g (chosen cells g)) r.0); not_input_source = r.1 }
    where
      both_tests : (a b : Bool) → T (cond a (not b) false) → (a ≡ true) × (b ≡ false)
      both_tests true true u = absurd u
      both_tests true false u = (refl, refl)
      both_tests false b u = absurd u

  pub gate_in_lem : (l : ℕ) → Gates l → (t : Gate) → Memᴰ t (gates_at listed cells g l) → Memᴰ t (chosen_gates listed cells g)
  gate_in_lem l h t m = subst (λ (ts : List Gate). Memᴰ t ts) (sym (gates_are listed cells g)) (each_in (gates_at listed cells g) (net_in l h) m)

  pub record IsGate (t : Gate) : Type 0 where
    pub at : ℕ
    pub gates : Gates at
    pub is_gate : Memᴰ t (gates_at listed cells g at)

  pub gate_out : (t : Gate) → Memᴰ t (chosen_gates listed cells g) → IsGate t
  gate_out t m =
      let o = each_out (gates_at listed cells g) (gate_nets cells g) (subst (λ (ts : List Gate). Memᴰ t ts) (gates_are listed cells g) m) in
      record { at = o.0; gates = net_out o.0 o.1; is_gate = o.2 }

  -- the source's cell stands under its number, and as many nets feed it has pins
  pub record OfCell (l : ℕ) (s : Source) : Type 0 where
    pub has_number : number_of s < length cells
    pub is_cell : cell_of cells s ≡ cell_at cells (number_of s)
    pub pins : length (feeds cells (cuts_of g) l s) ≡ (cell_at cells (number_of s)).pins

  -- at most four, of a listed cell or of a pair
  few-pins : (k : ℕ) → Numbered listed cells k → (cell_at cells k).pins ≤ 4
  unfolding cell_at cell_of_pair pair_of pair_pins
  few-pins k (single h e) = omega (
    arith,
    ap (λ (c : Cell). c.pins) e,
    (cell_form (get_or listed k no_cell)
        (library-cell listed fit.fits (get_or listed k no_cell) (get_or_in listed k no_cell h))).few_pins,
  )
  few-pins k (double h p e) = omega (arith, ap (λ (c : Cell). c.pins) e, p.few, p.some_pin)

  matched-pins : (m : Match) (cut : List ℕ) → m.order < 24 → m.cell < length cells → length (match_nets cells cut m) ≡ (cell_at cells m.cell).pins
  unfolding match_nets
  matched-pins m cut o h = fed-count (cell_at cells m.cell).pins (get_or orders m.order []) m.mask cut
      (omega (arith, few-pins m.cell (fit.numbered m.cell h), order-long m.order o))

  pub of_cell : (l : ℕ) → Gates l → OfCell l (source_of cells g l)
  unfolding cell_of number_of is_input_source feeds
  of_cell l h = go (source_of cells g l) (chosen_fine cells g (order-once g ok) l (present l h.needs)).0.allowed h.not_input_source
    where
      go : (s : Source) → Allowed cells g l s → is_input_source s ≡ false → OfCell l s
      go Input a q = absurd (true≢false q)
      go Nothing a q = absurd a
      go (Matched m) a q = record { has_number = a.has_cell; is_cell = refl; pins = matched-pins m (cut_at (cuts_of g) (var_of l) m.cut) a.has_order a.has_cell }
      go (Inverted i) a q = record { has_number = a.has_cell; is_cell = refl; pins = sym (inverter-pins (cell_at cells i) a.inverts) }

  pub number_of_lem : (l : ℕ) → Gates l → Numbered listed cells (number_at cells g l)
  number_of_lem l h = fit.numbered (number_at cells g l) (of_cell l h).has_number

  -- what each of its gates is
  pub of_gates_lem : (l : ℕ) → Gates l → (t : Gate) → Memᴰ t (gates_at listed cells g l) → OfPhase listed (fed_at cells g l) l (gates_at listed cells g l) t
  of_gates_lem l h = of_phase_lem listed cells fit (number_at cells g l) (fed_at cells g l) l (of_cell l h).pins (number_of_lem l h)

  -- a gate is of a listed cell, and as many nets feed it as the cell has pins
  pub gate-listed : (t : Gate) → Memᴰ t (chosen_gates listed cells g) → Memᴰ t.cell listed × (length t.pins ≡ t.cell.pins)
  gate-listed t m = let r = gate_out t m in let o = of_gates_lem r.at r.gates t r.is_gate in (o.is_listed, o.count)

  -- what the line of a gate says
  pub line-bound : (t : Gate) → Memᴰ t (chosen_gates listed cells g) → Bound listed t
  line-bound t m = let r = gate_out t m in (of_gates_lem r.at r.gates t r.is_gate).bound

  pub back : (f : Figures) (after : List ℕ) → read_blif (netlist_text g (chosen_gates listed cells g) f ++ after) ≡ Some (blif_of g (chosen_gates listed cells g))
  back f after = read_back g (chosen_gates listed cells g) f after (λ t m. (line-bound t m).is_named)

  pub figures_said : (f : Figures) (after : List ℕ) → read_figures (netlist_text g (chosen_gates listed cells g) f ++ after) ≡ Some f
  figures_said f after = figures-back g (chosen_gates listed cells g) f after (λ t m. (line-bound t m).is_named)

  pub timings_said : (f : Figures) (low high : ℕ → ℕ)
      → read_timings (netlist_text g (chosen_gates listed cells g) f ++ timing_lines low high 0 g.outputs) ≡ Some (timings_from low high 0 g.outputs)
  timings_said f low high = timings-back g (chosen_gates listed cells g) f low high (λ t m. (line-bound t m).is_named)

  pub none_said : (f : Figures) → read_timings (netlist_text g (chosen_gates listed cells g) f ++ []) ≡ Some []
  none_said f = timings-none g (chosen_gates listed cells g) f (λ t m. (line-bound t m).is_named)

  -- ---- an input's own net

  pub own_value : (assignment : ℕ → Bool) (l : ℕ) → IsInputSource g l → (literal false (var_of l) ≡ l) × (literal_value (value_of g assignment) l ≡ assignment (var_of l))
  unfolding literal_value flip node_value
  own_value assignment l o =
      let p : negated l ≡ false = (by_bool (negated l) (λ e. rw e (absurd (rw e at o.positive))) (λ q. rw q)) in (
        ap (λ (b : Bool). literal b (var_of l)) (sym p) ∙ lit_whole l,
        ap (λ (b : Bool). flip b (value_of g assignment (var_of l))) p
            ∙ value_of_valuation g ok assignment (var_of l)
            ∙ ap (node_value assignment (value_of g assignment) (var_of l)) (node-input g (var_of l) (order-once g ok) o.is_input),
      )

  pub own-source : (l : ℕ) → NeedsOf cells g l → is_input_source (source_of cells g l) ≡ true → IsInputSource g l
  unfolding is_input_source
  own-source l n h = go (source_of cells g l) (chosen_fine cells g (order-once g ok) l (present l n)).0.allowed h
    where
      go : (s : Source) → Allowed cells g l s → is_input_source s ≡ true → IsInputSource g l
      go Input a q = a
      go Nothing a q = absurd a
      go (Matched m) a q = absurd (false≢true q)
      go (Inverted i) a q = absurd (false≢true q)

  pub own-net : (v : ℕ) → Memᴰ v g.inputs → IsInputSource g (literal false v)
  own-net v m = record { positive = subst (λ (b : Bool). T (not b)) (sym (lit_neg false v)) tt; is_input = Memᴰ-cast (lit_var false v) m }
