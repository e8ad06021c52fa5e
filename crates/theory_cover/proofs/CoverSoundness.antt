-- The other half of demand 3 at the choice: where a phase is chosen a source, the chosen sources are a cover of it.
use Rattle.base.specs.{ℕ, ◌+◌, ◌≤◌, ◌<◌, zero-add, arith, ◌≡◌, refl, sym, ◌∙◌, ap, ap₂, subst, ◌⊎◌, inl, inr, ◌↔◌, ⊎_elim, Bool, true}
use Rattle.base.specs.{false, not, cond, true≢false, false≢true, List, [], ◌∷◌, ◌++◌, map, Memᴰ, Memᴰ-head, Memᴰ-tail}
use Rattle.base.specs.{Memᴰ-not-nil, Memᴰ-eq_of_singleton, Memᴰ-cast, T, ltb, ltb→lt, get_or, no_ltb}
use Rattle.model.specs.{cell_at, no_cell, Node, constant, input, undefined, both, node, topological_order, var_of, negated, opposite, cuts_of}
use Rattle.model.specs.{match_nets, Phases, no_phase, feeds, latest, absent, earlier, choose, phase_of, match_phase, match_phases}
use Rattle.model.specs.{inverter_phases, uninverted, chosen, IsMatch, Allowed, Needed, output, fed, Feeds, directly, through, arrival_by}
use Rattle.model.specs.{CoverArrivals, Distinct}
use Rattle.model.specs.Graph.{Graph}
use Rattle.model.specs.Cover.{Cover}
use Rattle.model.specs.declared.Cell.{Cell}
use Rattle.model.specs.declared.Match.{Match}
use Rattle.model.specs.declared.Phase.{Phase}
use Rattle.model.specs.declared.Source.{Source}
use Rattle.model.specs.declared.Source.TheVariants.{Input, Cell as Matched, Inverter as Inverted, Nothing}
use Rattle.theory_graph.proofs.{is_true, map-map, map_same, opposite-var, opposite_neg, along, input_out, leaves-before, leaves-closed}
use Rattle.theory_graph.proofs.{by_bool}
use Rattle.theory_cover.proofs.ChoiceRun.{phases_known, chosen-known, own, chosen_entry, opposite_entry, chosen_none}
use Rattle.theory_cover.proofs.Matches.{cut_for, cut-listed, match_out, matched_leaf, match_phase_out, InverterPhase, inverter_out}
use Rattle.theory_cover.proofs.CoverFacts.{Straight}
use Rattle.theory_cover.proofs.EarliestArrival.{latest-one, arrival-matched, arrival-inverted, nothing-uncovered}

-- ---- what is chosen is one of those tried

-- the choice between two, with what it says of them
pub data Between (a b : Phase) : Phase → Type 0 where
  the_first : absent a.source ≡ false → Between a b a
  the_second : (absent a.source ≡ true) ⊎ (b.arrival < a.arrival) → Between a b b

pub earlier-between : (a b : Phase) → absent (earlier a b).source ≡ false → Between a b (earlier a b)
unfolding earlier
earlier-between a b = λ x. by_bool (absent a.source) (λ e. rw e (the_second (inl e))) (λ q. rw q (by_bool (absent b.source)
    (λ p. rw p (the_first q)) (λ r. rw r (by_bool (ltb b.arrival a.arrival)
    (λ z. rw z (the_second (inr ((rw z at (ltb→lt b.arrival a.arrival)) tt)))) (λ w. rw w (the_first q))))))

pub choose_in : (ws : List Phase) → absent (choose ws).source ≡ false → Memᴰ (choose ws) ws
unfolding choose no_phase absent
choose_in [] h = absurd (true≢false h)
choose_in (w ∷ ws) h = go (earlier w (choose ws)) (earlier-between w (choose ws) h) h (choose_in ws)
  where
    go : (x : Phase) → Between w (choose ws) x → absent x.source ≡ false → (absent (choose ws).source ≡ false → Memᴰ (choose ws) ws) → Memᴰ x (w ∷ ws)
    go x (the_first e) k back = Memᴰ-head refl
    go x (the_second e) k back = Memᴰ-tail (back k)

-- what a phase is without inverters
data UninvertedPhase (cells : List Cell) (g : Graph) (known : ℕ → Phases) (l : ℕ) : Phase → Type 0 where
  own-net : node g (var_of l) ≡ input → negated l ≡ false → UninvertedPhase cells g known l (record { source = Input; arrival = g.input_arrival (var_of l) })
  by_match_lem : (m : Match) → IsMatch cells g l m → UninvertedPhase cells g known l (match_phase cells known (cut_for g l m) m)

uninverted_out : (cells : List Cell) (g : Graph) (known : ℕ → Phases) (l : ℕ) (k : Node) → node g (var_of l) ≡ k
    → absent (uninverted cells g known (var_of l) (cuts_of g (var_of l)) (negated l) k).source ≡ false
    → UninvertedPhase cells g known l (uninverted cells g known (var_of l) (cuts_of g (var_of l)) (negated l) k)
unfolding uninverted no_phase absent
uninverted_out cells g known l = at
  where
    tried : List Phase
    tried = match_phases cells g known (var_of l) (negated l) 0 (cuts_of g (var_of l))

    best : absent (choose tried).source ≡ false → UninvertedPhase cells g known l (choose tried)
    best h = let o = match_out cells g known l (choose tried) (choose_in tried h) in rw o.2 (by_match_lem o.0 o.1)

    at : (k : Node) → node g (var_of l) ≡ k → absent (uninverted cells g known (var_of l) (cuts_of g (var_of l)) (negated l) k).source ≡ false
        → UninvertedPhase cells g known l (uninverted cells g known (var_of l) (cuts_of g (var_of l)) (negated l) k)
    at constant e h = best h
    at input e h = (by_bool (negated l) (λ q. rw q (absurd (true≢false (rw q at h)))) (λ p. rw p (own-net e p)))
    at undefined e h = absurd (true≢false h)
    at (both a b) e h = best h

-- ---- one of two phases keeps its own source

earlier-keeps : (a b : Phase) → absent a.source ≡ false → (absent b.source ≡ true) ⊎ (a.arrival ≤ b.arrival) → earlier a b ≡ a
unfolding earlier
earlier-keeps a b e (inl k) = ap₂ (λ (x y : Bool). cond x b (cond y a (cond (ltb b.arrival a.arrival) b a))) e k
earlier-keeps a b e (inr k) =
    ap (λ (x : Bool). cond x b (cond (absent b.source) a (cond (ltb b.arrival a.arrival) b a))) e ∙ by_bool (absent b.source)
    (λ q. rw q) (λ p. rw p (by_bool (ltb b.arrival a.arrival) (λ r. rw r (absurd (rw r at (no_ltb k)))) (λ z. rw z)))

-- the other phase's source stays as it is where this phase's is later
pub other_stays : (cells : List Cell) (o a : Phase) → absent o.source ≡ false → (absent a.source ≡ true) ⊎ (o.arrival < a.arrival) → choose (o ∷ inverter_phases cells 0 a) ≡ o
unfolding choose
other_stays cells o a e k = earlier-keeps o (choose (inverter_phases cells 0 a)) e (go (absent (choose (inverter_phases cells 0 a)).source) refl k)
  where
    go : (b : Bool) → absent (choose (inverter_phases cells 0 a)).source ≡ b → (absent a.source ≡ true) ⊎ (o.arrival < a.arrival)
        → (absent (choose (inverter_phases cells 0 a)).source ≡ true) ⊎ (o.arrival ≤ (choose (inverter_phases cells 0 a)).arrival)
    go true q h = inl q
    go false q (inl h) = absurd (true≢false (sym h ∙ (inverter_out cells 0 a (choose (inverter_phases cells 0 a)) (choose_in (inverter_phases cells 0 a) q)).present))
    go false q (inr h) = inr (omega (
      arith,
      ap (λ (w : Phase). w.arrival)
          (inverter_out cells 0 a (choose (inverter_phases cells 0 a)) (choose_in (inverter_phases cells 0 a) q)).is_phase,
    ))

-- ---- the chosen sources are a cover

module _ (cells : List Cell) (g : Graph) (once : Distinct (topological_order g)) where
  abbrev pub src : ℕ → Source
  src l = (chosen cells g l).source

  abbrev pub arr : ℕ → ℕ
  arr l = (chosen cells g l).arrival

  abbrev pub Present : ℕ → Type 0
  Present l = absent (src l) ≡ false

  -- a source of phase l that is by the rules
  pub record Fine (l : ℕ) (w : Phase) : Type 0 where
    pub allowed : Allowed cells g l w.source
    pub timed : w.arrival ≡ arrival_by cells g arr l w.source
    pub fed_by : (x : ℕ) → Memᴰ x (feeds cells (cuts_of g) l w.source) → Present x

  -- the nets of a match are known when its variable's turn comes
  pub match_known : (pre : List ℕ) (l : ℕ) (post : List ℕ) → topological_order g ≡ pre ++ (var_of l ∷ post) → (m : Match) → IsMatch cells g l m
      → (x : ℕ) → Memᴰ x (match_nets cells (cut_for g l m) m) → chosen cells g x ≡ phase_of (phases_known cells g pre) x
  match_known pre l post e m k x j = chosen-known cells g pre (var_of l) post e x (leaves-before g pre (var_of l) post e once (cut_for g l m)
      (cut-listed cells g l m k) k.nontrivial (var_of x) (matched_leaf cells g l m x k j))

  pub match_times : (pre : List ℕ) (l : ℕ) (post : List ℕ) → topological_order g ≡ pre ++ (var_of l ∷ post) → (m : Match) → IsMatch cells g l m
      → map (λ (y : Phase). y.arrival) (map (phase_of (phases_known cells g pre)) (match_nets cells (cut_for g l m) m)) ≡ map arr (match_nets cells (cut_for g l m) m)
  match_times pre l post e m k = map-map (λ (y : Phase). y.arrival) (phase_of (phases_known cells g pre)) (match_nets cells (cut_for g l m) m)
      ∙ map_same (λ (x : ℕ). (phase_of (phases_known cells g pre) x).arrival) arr (match_nets cells (cut_for g l m) m)
      (λ x j. sym (cc (match_known pre l post e m k x j)))

  -- the source without inverters, in a variable's turn
  uninverted_fine : (pre : List ℕ) (l : ℕ) (post : List ℕ) → topological_order g ≡ pre ++ (var_of l ∷ post) → (w : Phase) → UninvertedPhase cells g (phases_known cells g pre) l w
      → absent w.source ≡ false → Fine l w × Straight w.source
  unfolding arrival_by feeds latest
  uninverted_fine pre l post e w (own-net q b) h = (
    record {
      allowed = record { positive = subst (λ (x : Bool). T (not x)) (sym b) tt; is_input = input_out g (var_of l) q };
      timed = refl;
      fed_by = λ x i. absurd (Memᴰ-not-nil i);
    },
    tt,
  )
  uninverted_fine pre l post e w (by_match_lem m k) h =
      let o = match_phase_out cells (phases_known cells g pre) (cut_for g l m) m h in
      subst (λ (x : Phase). Fine l x × Straight x.source) (sym o.1) (
        record {
          allowed = k;
          timed = ap (λ (ts : List ℕ). latest ts (cell_at cells m.cell).delays) (match_times pre l post e m k) ∙ sym (arrival-matched cells g arr l m);
          fed_by = λ x j. ap (λ (y : Phase). absent y.source) (match_known pre l post e m k x j) ∙ o.0 x j;
        },
        tt,
      )

  pub own_fine : (pre : List ℕ) (v : ℕ) (post : List ℕ) → topological_order g ≡ pre ++ (v ∷ post) → (l : ℕ) (b : Bool) → var_of l ≡ v → negated l ≡ b
      → absent (own cells g pre v b).source ≡ false → Fine l (own cells g pre v b) × Straight (own cells g pre v b).source
  own_fine pre v post e l b p q = subst
      (λ (b : Bool). absent (own cells g pre v b).source ≡ false → Fine l (own cells g pre v b) × Straight (own cells g pre v b).source) q
      (subst (λ (v : ℕ). topological_order g ≡ pre ++ (v ∷ post) → absent (own cells g pre v (negated l)).source ≡ false → Fine l
      (own cells g pre v (negated l)) × Straight (own cells g pre v (negated l)).source) p (λ e' h. uninverted_fine pre l post e'
      (own cells g pre (var_of l) (negated l)) (uninverted_out cells g (phases_known cells g pre) l (node g (var_of l)) refl h) h) e)

  -- what is chosen is by the rules, and what an inverter is fed by has no inverter
  Good : ℕ → Type 0
  Good v = (l : ℕ) → var_of l ≡ v → Present l → Fine l (chosen cells g l) × ((i : ℕ) → src l ≡ Inverted i → Straight (src (opposite l)))

  -- an inverter is by the rules, where the other phase keeps its own
  inverter_fine : (l : ℕ) (other w : Phase) → InverterPhase cells 0 other w → chosen cells g (opposite l) ≡ other → Fine l w
  unfolding feeds cell_at
  inverter_fine l other w r o = subst (Fine l) (cc (r.is_phase, zero-add r.place)) (record {
    allowed = record { has_cell = r.has_place; inverts = r.inverts };
    timed = latest-one other.arrival (get_or cells r.place no_cell).delays
        ∙ ap (λ (y : Phase). latest (y.arrival ∷ []) (get_or cells r.place no_cell).delays) (sym o)
        ∙ sym (arrival-inverted cells g arr l r.place);
    fed_by = λ x i. ap (λ (y : ℕ). absent (src y)) (Memᴰ-eq_of_singleton i) ∙ ap (λ (y : Phase). absent y.source) o ∙ r.present;
  })

  visit : (pre : List ℕ) (v : ℕ) (post : List ℕ) → topological_order g ≡ pre ++ (v ∷ post) → Good v
  unfolding Good choose
  visit pre v post e l p h =
      let entry = chosen_entry cells g pre v post e once l p in
      go (earlier mine inv) (earlier-between mine inv (cc entry)) entry (cc entry)
    where
      mine : Phase
      mine = own cells g pre v (negated l)

      other : Phase
      other = own cells g pre v (not (negated l))

      inv : Phase
      inv = choose (inverter_phases cells 0 other)

      go : (w : Phase) → Between mine inv w → chosen cells g l ≡ w → absent w.source ≡ false
          → Fine l (chosen cells g l) × ((i : ℕ) → src l ≡ Inverted i → Straight (src (opposite l)))
      go w (the_first a) q k =
          let f = own_fine pre v post e l (negated l) p refl k in
          (rw q f.0, (λ i s. absurd (rw (sym (ap (λ (y : Phase). y.source) q) ∙ s) at f.1)))
      go w (the_second a) q k =
          let r : InverterPhase cells 0 other inv = inverter_out cells 0 other inv (choose_in (inverter_phases cells 0 other) k) in
          let o : chosen cells g (opposite l) ≡ other = opposite_entry cells g pre v post e once l p ∙ other_stays cells other mine r.present (
          ⊎_elim inl (λ q. let t : inv.arrival ≡ other.arrival + get_or (get_or cells r.place no_cell).delays 0 0 = ap
          (λ (y : Phase). y.arrival) r.is_phase in inr (omega arith)) a) in (
            subst (Fine l) (sym q) (inverter_fine l other inv r o),
            (λ i s. subst (λ (y : Phase). Straight y.source) (sym o)
                (own_fine pre v post e (opposite l) (not (negated l)) (opposite-var l ∙ p) (opposite_neg l) r.present).1),
          )

  pub chosen_fine : (l : ℕ) → Present l → Fine l (chosen cells g l) × ((i : ℕ) → src l ≡ Inverted i → Straight (src (opposite l)))
  unfolding Good
  chosen_fine l h =
      along Good (topological_order g) (λ u k x p a. absurd (true≢false (sym (chosen_none cells g x (λ m. k (Memᴰ-cast (sym p) m))) ∙ a)))
      (λ pre v post e ih. visit pre v post e) (var_of l) l refl h

  -- ---- no cycle

  abbrev Fed : ℕ → ℕ → Type 0
  Fed x l = Feeds cells g src x l

  pub is_match_lem : (l : ℕ) (m : Match) → src l ≡ Matched m → IsMatch cells g l m
  unfolding absent
  is_match_lem l m s = subst (Allowed cells g l) s (chosen_fine l (ap absent s)).0.allowed

  -- what is ordered before a variable is fed by such alone
  pub closed : (pre vs : List ℕ) → topological_order g ≡ pre ++ vs → (x y : ℕ) → Memᴰ x (feeds cells (cuts_of g) y (src y)) → ¬ Memᴰ (var_of y) vs → ¬ Memᴰ (var_of x) vs
  unfolding feeds
  closed pre vs e x y i h = go (src y) refl i
    where
      go : (s : Source) → src y ≡ s → Memᴰ x (feeds cells (cuts_of g) y s) → ¬ Memᴰ (var_of x) vs
      go Input q j = absurd (Memᴰ-not-nil j)
      go Nothing q j = absurd (Memᴰ-not-nil j)
      go (Matched m) q j = leaves-closed g pre vs e once (var_of y) h (cut_for g y m) (cut-listed cells g y m (is_match_lem y m q)) (var_of x) (matched_leaf cells g y m x (is_match_lem y m q) j)
      go (Inverted c) q j = λ n. h (Memᴰ-cast (sym (ap var_of (Memᴰ-eq_of_singleton j) ∙ opposite-var y)) n)

  closed_all : (pre vs : List ℕ) → topological_order g ≡ pre ++ vs → (x y : ℕ) → Fed x y → ¬ Memᴰ (var_of y) vs → ¬ Memᴰ (var_of x) vs
  closed_all pre vs e x y (directly i) h = closed pre vs e x y i h
  closed_all pre vs e x y (through {y = z} f i) h = closed_all pre vs e x z f (closed pre vs e z y i h)

  -- what feeds a phase without an inverter is ordered before its variable
  pub straight-before : (pre : List ℕ) (v : ℕ) (post : List ℕ) → topological_order g ≡ pre ++ (v ∷ post) → (y : ℕ) → var_of y ≡ v → Straight (src y)
      → (x : ℕ) → Memᴰ x (feeds cells (cuts_of g) y (src y)) → ¬ Memᴰ (var_of x) (v ∷ post)
  unfolding feeds
  straight-before pre v post e y p t x i = go (src y) refl t i
    where
      go : (s : Source) → src y ≡ s → Straight s → Memᴰ x (feeds cells (cuts_of g) y s) → ¬ Memᴰ (var_of x) (v ∷ post)
      go Input q u j = absurd (Memᴰ-not-nil j)
      go Nothing q u j = absurd u
      go (Matched m) q u j = leaves-before g pre v post e once (cut_for g y m) (rw (← p) (cut-listed cells g y m (is_match_lem y m q)))
          (λ a. (is_match_lem y m q).nontrivial (a ∙ ap (λ (w : ℕ). w ∷ []) (sym p))) (var_of x) (matched_leaf cells g y m x (is_match_lem y m q) j)
      go (Inverted c) q u j = absurd u

  straight-all : (pre : List ℕ) (v : ℕ) (post : List ℕ) → topological_order g ≡ pre ++ (v ∷ post) → (y : ℕ) → var_of y ≡ v → Straight (src y) → (x : ℕ) → Fed x y → ¬ Memᴰ (var_of x) (v ∷ post)
  straight-all pre v post e y p t x (directly i) = straight-before pre v post e y p t x i
  straight-all pre v post e y p t x (through {y = z} f i) = closed_all pre (v ∷ post) e x z f (straight-before pre v post e y p t z i)

  pub not-opposite : (l : ℕ) → ¬ (l ≡ opposite l)
  not-opposite l e = go (negated l) (ap negated e ∙ opposite_neg l)
    where
      go : (b : Bool) → ¬ (b ≡ not b)
      go true h = true≢false h
      go false h = false≢true h

  round : (pre : List ℕ) (v : ℕ) (post : List ℕ) → topological_order g ≡ pre ++ (v ∷ post) → (l : ℕ) → var_of l ≡ v → Present l → ¬ Fed l l
  unfolding feeds
  round pre v post e l p h f = go (src l) refl f
    where
      here : ¬ ¬ Memᴰ (var_of l) (v ∷ post)
      here n = n (Memᴰ-head p)

      inverted_or_direct : (c : ℕ) → src l ≡ Inverted c → Fed l l → ⊥
      inverted_or_direct c q (directly i) = not-opposite l (Memᴰ-eq_of_singleton (subst (λ (s : Source). Memᴰ l (feeds cells (cuts_of g) l s)) q i))
      inverted_or_direct c q (through {y = z} k i) = here (straight-all pre v post e (opposite l) (opposite-var l ∙ p) ((chosen_fine l h).1 c q) l
          (rw (Memᴰ-eq_of_singleton (rw q at i)) at k))

      go : (s : Source) → src l ≡ s → Fed l l → ⊥
      go Input q k = here (straight-all pre v post e l p (subst Straight (sym q) tt) l k)
      go Nothing q k = subst (Allowed cells g l) q (chosen_fine l h).0.allowed
      go (Matched m) q k = here (straight-all pre v post e l p (subst Straight (sym q) tt) l k)
      go (Inverted c) q k = inverted_or_direct c q k

  pub no_cycle_lem : (l : ℕ) → Present l → ¬ Fed l l
  no_cycle_lem l h = along (λ v. (x : ℕ) → var_of x ≡ v → Present x → ¬ Fed x x) (topological_order g)
      (λ u k x p a. absurd (true≢false (sym (chosen_none cells g x (λ m. k (Memᴰ-cast (sym p) m))) ∙ a)))
      (λ pre v post e ih. round pre v post e) (var_of l) l refl h

  -- ---- the cover

  pub needed_present : (outs : List ℕ) → ((l : ℕ) → Memᴰ l outs → Present l) → (l : ℕ) → Needed cells g outs src l → Present l
  needed_present outs h l (output i) = h l i
  needed_present outs h x (fed {l = l} n i) = (chosen_fine l (needed_present outs h l n)).0.fed_by x i

  -- the chosen sources are a cover of phases that are chosen a source
  unfoldable pub chosen-cover : (outs : List ℕ) → ((l : ℕ) → Memᴰ l outs → absent (chosen cells g l).source ≡ false) → Cover cells g outs
  chosen-cover outs h = record {
    source = src;
    allowed = λ l n. (chosen_fine l (needed_present outs h l n)).0.allowed;
    no_cycle = λ l n. no_cycle_lem l (needed_present outs h l n);
  }

  -- and the chosen arrivals are its arrivals
  pub chosen-timed : (outs : List ℕ) (h : (l : ℕ) → Memᴰ l outs → absent (chosen cells g l).source ≡ false) → CoverArrivals cells g outs (chosen-cover outs h) arr
  unfolding chosen-cover
  chosen-timed outs h = record { timed = λ l n. (chosen_fine l (needed_present outs h l n)).0.timed }

-- Demand 3: the choice gives Nothing for a phase exactly where it has no cover
pub nothing_iff : (cells : List Cell) (g : Graph) → Distinct (topological_order g) → (l : ℕ) → T (absent (chosen cells g l).source) ↔ (¬ Cover cells g (l ∷ []))
nothing_iff cells g once l = (
  (λ t. nothing-uncovered cells g once l (is_true (absent (chosen cells g l).source) t)),
  (λ no_cover. by_bool
      (absent (chosen cells g l).source) (λ e. rw e tt) (λ q. rw q (absurd (no_cover
      (chosen-cover cells g once (l ∷ []) (λ x i. ap (λ (y : ℕ). absent (chosen cells g y).source) (Memᴰ-eq_of_singleton i) ∙ q)))))),
)
