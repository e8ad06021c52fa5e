-- What the choice tries: the listed matches are those of the rules, and so are the listed inverters.
use Rattle.base.specs.{ℕ, zero, suc, ◌+◌, ◌/◌, ◌^◌, ◌<◌, le_of_suc-le-suc, not-suc-le-zero, zero-add, add-zero, suc-add, add-suc, arith}
use Rattle.base.specs.{◌≡◌, refl, sym, ◌∙◌, ap, subst, ⊎_elim, Bool, true, false, not, cond, ◌&&◌, true≢false, List, [], ◌∷◌, map}
use Rattle.base.specs.{Memᴰ, Memᴰ-head, Memᴰ-tail, Memᴰ-not-nil, Memᴰ-append_cases, Memᴰ-append_left}
use Rattle.base.specs.{Memᴰ-append_right, Memᴰ-cast, T, ltb, ltb→lt, length, take, get_or, and_yes}
use Rattle.model.specs.{all, any, keep, below, same, bit, orders, cell_at, is_inverter, no_cell, var_of, negated, cuts_of, cut_at, cut_table}
use Rattle.model.specs.{phase_table, places_fit, rows_agree, fits, fed_nets, match_nets, Phases, no_phase, latest, absent, phase_of, match_phase}
use Rattle.model.specs.{cell_matches, cut_matches, cut_phases, match_phases, inverter_phases, IsMatch}
use Rattle.model.specs.Graph.{Graph}
use Rattle.model.specs.declared.Cell.{Cell}
use Rattle.model.specs.declared.Match.{Match}
use Rattle.model.specs.declared.Phase.{Phase}
use Rattle.model.specs.declared.Source.TheVariants.{Cell as Matched, Inverter as Inverted}
use Rattle.theory_graph.proofs.{map_in, map_out, each_in, each_out, keep_in, keep_out, any_none, any-each, below_in, below_out, get_or_in}
use Rattle.theory_graph.proofs.{same-eq, same_refl, lit_var, by_bool}

-- ---- one cell

fits_mask : (c : Cell) (places : List ℕ) (mask n f : ℕ) → T (fits c places mask n f) → mask < 2 ^ c.pins
unfolding fits
fits_mask c places mask n f t = ltb→lt mask (2 ^ c.pins) (and_yes (ltb mask (2 ^ c.pins)) (places_fit c places n && rows_agree c places mask f) t).0

pub fits-places : (c : Cell) (places : List ℕ) (mask n f : ℕ) → T (fits c places mask n f) → T (places_fit c places n)
unfolding fits
fits-places c places mask n f t =
    (and_yes (places_fit c places n) (rows_agree c places mask f) (and_yes (ltb mask (2 ^ c.pins)) (places_fit c places n && rows_agree c places mask f) t).1).0

pub fits-rows : (c : Cell) (places : List ℕ) (mask n f : ℕ) → T (fits c places mask n f) → T (rows_agree c places mask f)
unfolding fits
fits-rows c places mask n f t =
    (and_yes (places_fit c places n) (rows_agree c places mask f) (and_yes (ltb mask (2 ^ c.pins)) (places_fit c places n && rows_agree c places mask f) t).1).1

-- a cell agrees with a match on a cut of so many leaves with function f
abbrev pub Agrees : Cell → Match → ℕ → ℕ → Type 0
Agrees c m leaves f = T (fits c (get_or orders m.order []) m.mask leaves f)

cell_matches_in : (c : Cell) (m : Match) (leaves f : ℕ) → m.order < 24 → Agrees c m leaves f → Memᴰ m (cell_matches c m.cell m.cut leaves f)
unfolding cell_matches
cell_matches_in c m leaves f ordered t = each_in (λ (j : ℕ). map (λ (k : ℕ). record { cut = m.cut; cell = m.cell; order = j; mask = k })
    (keep (λ (k : ℕ). fits c (get_or orders j []) k leaves f) (below (2 ^ c.pins)))) (below_in 24 m.order ordered)
    (map_in (λ (k : ℕ). record { cut = m.cut; cell = m.cell; order = m.order; mask = k })
    (keep_in (λ (k : ℕ). fits c (get_or orders m.order []) k leaves f)
    (below_in (2 ^ c.pins) m.mask (fits_mask c (get_or orders m.order []) m.mask leaves f t)) t))

pub cell_matches_out : (c : Cell) (line k leaves f : ℕ) (m : Match) → Memᴰ m (cell_matches c line k leaves f)
    → (m.cut ≡ k) × (m.cell ≡ line) × (m.order < 24) × Agrees c m leaves f
unfolding cell_matches
cell_matches_out c line k leaves f m i =
    let at = each_out (λ (j : ℕ). map (λ (n : ℕ). record { cut = k; cell = line; order = j; mask = n })
    (keep (λ (n : ℕ). fits c (get_or orders j []) n leaves f) (below (2 ^ c.pins)))) (below 24) i in
    let back = map_out (λ (n : ℕ). record { cut = k; cell = line; order = at.0; mask = n })
    (keep (λ (n : ℕ). fits c (get_or orders at.0 []) n leaves f) (below (2 ^ c.pins))) at.2 in (
      ap (λ (x : Match). x.cut) back.2,
      ap (λ (x : Match). x.cell) back.2,
      rw (ap (λ (x : Match). x.order) back.2)
          (below_out 24 at.0 at.1),
      rw back.2
          (keep_out (λ (n : ℕ). fits c (get_or orders at.0 []) n leaves f) (below (2 ^ c.pins)) back.1).1,
    )

-- ---- the cells on one cut

cut_matches_in : (cells : List Cell) (first k : ℕ) (m : Match) (leaves f : ℕ) → first + k ≡ m.cell → k < length cells
    → Memᴰ m (cell_matches (get_or cells k no_cell) m.cell m.cut leaves f) → Memᴰ m (cut_matches cells first m.cut leaves f)
unfolding cut_matches
cut_matches_in [] first k m leaves f e h n = absurd (not-suc-le-zero h)
cut_matches_in (c ∷ cs) first zero m leaves f e h n = Memᴰ-append_left (cut_matches cs (suc first) m.cut leaves f)
    (subst (λ (i : ℕ). Memᴰ m (cell_matches c i m.cut leaves f)) (sym e ∙ add-zero first) n)
cut_matches_in (c ∷ cs) first (suc k) m leaves f e h n = Memᴰ-append_right (cell_matches c first m.cut leaves f)
    (cut_matches_in cs (suc first) k m leaves f (suc-add first k ∙ sym (add-suc first k) ∙ e) (le_of_suc-le-suc h) n)

pub record OnLine (cells : List Cell) (first k leaves f : ℕ) (m : Match) : Type 0 where
  pub is_cut : m.cut ≡ k
  pub place : ℕ
  pub is_place : first + place ≡ m.cell
  pub has_place : place < length cells
  pub has_order : m.order < 24
  pub agrees : Agrees (get_or cells place no_cell) m leaves f

pub cut_matches_out : (cells : List Cell) (first k leaves f : ℕ) (m : Match) → Memᴰ m (cut_matches cells first k leaves f) → OnLine cells first k leaves f m
unfolding cut_matches
cut_matches_out [] first k leaves f m i = absurd (Memᴰ-not-nil i)
cut_matches_out (c ∷ cs) first k leaves f m i = ⊎_elim (λ j. let o = cell_matches_out c first k leaves f m j in
    record { is_cut = o.0; place = 0; is_place = add-zero first ∙ sym o.1; has_place = omega arith; has_order = o.2; agrees = o.3 }) (λ q.
    let r = (cut_matches_out cs (suc first) k leaves f m) q in record {
      is_cut = r.is_cut;
      place = suc r.place;
      is_place = add-suc first r.place ∙ sym (suc-add first r.place) ∙ r.is_place;
      has_place = let h : r.place < length cs = r.has_place in omega arith;
      has_order = r.has_order;
      agrees = r.agrees;
    }) (Memᴰ-append_cases (cell_matches c first k leaves f) i)

-- ---- the cuts of a list, numbered from `first` on

-- a match on one of the cuts of a list
pub record OnCut (cells : List Cell) (g : Graph) (v : ℕ) (neg : Bool) (first : ℕ) (cuts : List (List ℕ)) (m : Match) : Type 0 where
  pub place : ℕ
  pub is_place : first + place ≡ m.cut
  pub has_place : place < length cuts
  pub nontrivial : ¬ (get_or cuts place [] ≡ v ∷ [])
  pub has_cell : m.cell < length cells
  pub has_order : m.order < 24
  pub agrees : Agrees (get_or cells m.cell no_cell) m (length (get_or cuts place [])) (phase_table neg (cut_table g (get_or cuts place []) v))

module _ (cells : List Cell) (g : Graph) (known : ℕ → Phases) (v : ℕ) (neg : Bool) where
  -- the function of a cut in the phase
  abbrev pub table_of : List ℕ → ℕ
  table_of cut = phase_table neg (cut_table g cut v)

  cut_phases_in : (cut : List ℕ) (m : Match) → ¬ (cut ≡ v ∷ []) → m.cell < length cells → m.order < 24
      → Agrees (get_or cells m.cell no_cell) m (length cut) (table_of cut) → Memᴰ (match_phase cells known cut m) (cut_phases cells g known v neg m.cut cut)
  unfolding cut_phases
  cut_phases_in cut m alone line ordered t =
      go (same cut (v ∷ [])) (same-eq cut (v ∷ [])) (map_in (match_phase cells known cut) (cut_matches_in cells 0 m.cell m (length cut)
      (table_of cut) (zero-add m.cell) line (cell_matches_in (get_or cells m.cell no_cell) m (length cut) (table_of cut) ordered t)))
    where
      go : {w : Phase} {ws : List Phase} (b : Bool) → (T b → cut ≡ v ∷ []) → Memᴰ w ws → Memᴰ w (cond b [] ws)
      go true e i = absurd (alone (e tt))
      go false e i = i

  pub cut_phases_out : (k : ℕ) (cut : List ℕ) (w : Phase) → Memᴰ w (cut_phases cells g known v neg k cut)
      → (¬ (cut ≡ v ∷ [])) × ((m : Match) × OnLine cells 0 k (length cut) (table_of cut) m × (w ≡ match_phase cells known cut m))
  unfolding cut_phases
  cut_phases_out k cut w = go (same cut (v ∷ [])) (λ e. subst (λ (c : List ℕ). T (same c (v ∷ []))) (sym e) (same_refl (v ∷ [])))
    where
      found : List Match
      found = cut_matches cells 0 k (length cut) (table_of cut)

      go : (b : Bool) → (cut ≡ v ∷ [] → T b) → Memᴰ w (cond b [] (map (match_phase cells known cut) found))
          → (¬ (cut ≡ v ∷ [])) × ((m : Match) × OnLine cells 0 k (length cut) (table_of cut) m × (w ≡ match_phase cells known cut m))
      go true e i = absurd (Memᴰ-not-nil i)
      go false e i =
          let o = map_out (match_phase cells known cut) found i in
          (e, (o.0, cut_matches_out cells 0 k (length cut) (table_of cut) o.0 o.1, o.2))

  match_phases_in : (first : ℕ) (cuts : List (List ℕ)) (m : Match) (r : OnCut cells g v neg first cuts m)
      → Memᴰ (match_phase cells known (get_or cuts r.place []) m) (match_phases cells g known v neg first cuts)
  unfolding match_phases
  match_phases_in first cuts m r = go first cuts r.place r.is_place r.has_place r.nontrivial r.agrees
    where
      go : (first : ℕ) (cuts : List (List ℕ)) (j : ℕ) → first + j ≡ m.cut → j < length cuts → ¬ (get_or cuts j [] ≡ v ∷ [])
          → Agrees (get_or cells m.cell no_cell) m (length (get_or cuts j [])) (table_of (get_or cuts j []))
          → Memᴰ (match_phase cells known (get_or cuts j []) m) (match_phases cells g known v neg first cuts)
      go first [] j e h alone t = absurd (not-suc-le-zero h)
      go first (cut ∷ cuts) zero e h alone t = Memᴰ-append_left (match_phases cells g known v neg (suc first) cuts)
          (subst (λ (k : ℕ). Memᴰ (match_phase cells known cut m) (cut_phases cells g known v neg k cut)) (sym e ∙ add-zero first)
          (cut_phases_in cut m alone r.has_cell r.has_order t))
      go first (cut ∷ cuts) (suc j) e h alone t = Memᴰ-append_right (cut_phases cells g known v neg first cut)
          (go (suc first) cuts j (suc-add first j ∙ sym (add-suc first j) ∙ e) (le_of_suc-le-suc h) alone t)

  -- what the matches on a list of cuts give is given by a match on one of them
  pub record ByMatch (first : ℕ) (cuts : List (List ℕ)) (w : Phase) : Type 0 where
    pub match : Match
    pub on_cut : OnCut cells g v neg first cuts match
    pub is_phase : w ≡ match_phase cells known (get_or cuts on_cut.place []) match

  pub match_phases_out : (first : ℕ) (cuts : List (List ℕ)) (w : Phase) → Memᴰ w (match_phases cells g known v neg first cuts) → ByMatch first cuts w
  unfolding match_phases
  match_phases_out first [] w i = absurd (Memᴰ-not-nil i)
  match_phases_out first (cut ∷ cuts) w i = ⊎_elim (λ j. let o = cut_phases_out first cut w j in let r : OnLine cells 0 first (length cut)
      (table_of cut) o.1.0 = o.1.1 in let line : r.place ≡ o.1.0.cell = sym (zero-add r.place) ∙ r.is_place in record {
        match = o.1.0;
        on_cut = record {
          place = 0;
          is_place = add-zero first ∙ sym r.is_cut;
          has_place = omega arith;
          nontrivial = o.0;
          has_cell = subst (λ (j : ℕ). j < length cells) line r.has_place;
          has_order = r.has_order;
          agrees = subst (λ (j : ℕ). Agrees (get_or cells j no_cell) o.1.0 (length cut) (table_of cut)) line r.agrees;
        };
        is_phase = o.1.2;
      }) (λ q. let b = (match_phases_out (suc first) cuts w) q in let r : OnCut cells g v neg (suc first) cuts b.match = b.on_cut in
      record {
        match = b.match;
        on_cut = record {
          place = suc r.place;
          is_place = add-suc first r.place ∙ sym (suc-add first r.place) ∙ r.is_place;
          has_place = let h : r.place < length cuts = r.has_place in omega arith;
          nontrivial = r.nontrivial;
          has_cell = r.has_cell;
          has_order = r.has_order;
          agrees = r.agrees;
        };
        is_phase = b.is_phase;
      }) (Memᴰ-append_cases (cut_phases cells g known v neg first cut) i)

-- ---- the matches of a phase

-- the cut of a match
abbrev pub cut_for : Graph → ℕ → Match → List ℕ
cut_for g l m = cut_at (cuts_of g) (var_of l) m.cut

-- it is one of the variable's cuts
pub cut-listed : (cells : List Cell) (g : Graph) (l : ℕ) (m : Match) → IsMatch cells g l m → Memᴰ (cut_for g l m) (cuts_of g (var_of l))
unfolding cut_at
cut-listed cells g l m h = get_or_in (cuts_of g (var_of l)) m.cut [] h.has_cut

-- a match of the rules is among those that the choice tries
pub match_tried : (cells : List Cell) (g : Graph) (known : ℕ → Phases) (l : ℕ) (m : Match) → IsMatch cells g l m
    → Memᴰ (match_phase cells known (cut_for g l m) m) (match_phases cells g known (var_of l) (negated l) 0 (cuts_of g (var_of l)))
unfolding cut_at cell_at
match_tried cells g known l m h = match_phases_in cells g known (var_of l) (negated l) 0 (cuts_of g (var_of l)) m (record {
  place = m.cut;
  is_place = zero-add m.cut;
  has_place = h.has_cut;
  nontrivial = h.nontrivial;
  has_cell = h.has_cell;
  has_order = h.has_order;
  agrees = h.agrees;
})

-- what the choice tries comes of a match of the rules
pub match_out : (cells : List Cell) (g : Graph) (known : ℕ → Phases) (l : ℕ) (w : Phase)
    → Memᴰ w (match_phases cells g known (var_of l) (negated l) 0 (cuts_of g (var_of l))) → (m : Match) × IsMatch cells g l m × (w ≡ match_phase cells known (cut_for g l m) m)
unfolding cut_at cell_at
match_out cells g known l w i =
    let b = match_phases_out cells g known (var_of l) (negated l) 0 (cuts_of g (var_of l)) w i in
    let r : OnCut cells g (var_of l) (negated l) 0 (cuts_of g (var_of l)) b.match = b.on_cut in
    let e : r.place ≡ b.match.cut = sym (zero-add r.place) ∙ r.is_place in (
      b.match,
      at b.match r.place e r.has_place r.nontrivial r.has_cell r.has_order r.agrees,
      b.is_phase ∙ ap (λ (k : ℕ). match_phase cells known (get_or (cuts_of g (var_of l)) k []) b.match) e,
    )
  where
    at : (m : Match) (k : ℕ) → k ≡ m.cut → k < length (cuts_of g (var_of l)) → ¬ (get_or (cuts_of g (var_of l)) k [] ≡ var_of l ∷ []) → m.cell < length cells → m.order < 24
        → Agrees (get_or cells m.cell no_cell) m (length (get_or (cuts_of g (var_of l)) k [])) (phase_table (negated l) (cut_table g (get_or (cuts_of g (var_of l)) k []) (var_of l)))
        → IsMatch cells g l m
    at m k e h alone line ordered t =
        record { has_cut = rw e at h; nontrivial = rw e at alone; has_cell = line; has_order = ordered; agrees = rw e at t }

-- ---- the nets that feed a match

fed_leaf : (n : ℕ) (places : List ℕ) (mask : ℕ) (cut : List ℕ) (x : ℕ) → T (all (λ (p : ℕ). ltb p (length cut)) (take n places))
    → Memᴰ x (fed_nets n places mask cut) → Memᴰ (var_of x) cut
unfolding fed_nets all
fed_leaf zero places mask cut x t m = absurd (Memᴰ-not-nil m)
fed_leaf (suc n) [] mask cut x t m = absurd (Memᴰ-not-nil m)
fed_leaf (suc n) (p ∷ ps) mask cut x t (Memᴰ-head e) = Memᴰ-cast (ap var_of e ∙ lit_var (bit mask 0) (get_or cut p 0))
    (get_or_in cut p 0 (ltb→lt p (length cut) (and_yes (ltb p (length cut)) (all (λ (q : ℕ). ltb q (length cut)) (take n ps)) t).0))
fed_leaf (suc n) (p ∷ ps) mask cut x t (Memᴰ-tail m) =
    fed_leaf n ps (mask / 2) cut x (and_yes (ltb p (length cut)) (all (λ (q : ℕ). ltb q (length cut)) (take n ps)) t).1 m

-- the nets that feed a match are phases of its leaves
pub matched_leaf : (cells : List Cell) (g : Graph) (l : ℕ) (m : Match) (x : ℕ) → IsMatch cells g l m → Memᴰ x (match_nets cells (cut_for g l m) m) → Memᴰ (var_of x) (cut_for g l m)
unfolding match_nets places_fit
matched_leaf cells g l m x k =
    fed_leaf (cell_at cells m.cell).pins (get_or orders m.order []) m.mask (cut_for g l m) x
    (fits-places (cell_at cells m.cell) (get_or orders m.order []) m.mask (length (cut_for g l m)) (phase_table (negated l) (cut_table g (cut_for g l m) (var_of l))) k.agrees)

-- the phase of a match whose nets have sources, by the rule
abbrev pub matched_phase : List Cell → (ℕ → Phases) → List ℕ → Match → Phase
matched_phase cells known cut m =
    record { source = Matched m; arrival = latest (map (λ (p : Phase). p.arrival) (map (phase_of known) (match_nets cells cut m))) (cell_at cells m.cell).delays }

-- where the nets of a match have sources, so has its phase
pub match_phase_in : (cells : List Cell) (known : ℕ → Phases) (cut : List ℕ) (m : Match)
    → ((x : ℕ) → Memᴰ x (match_nets cells cut m) → absent (phase_of known x).source ≡ false) → match_phase cells known cut m ≡ matched_phase cells known cut m
unfolding match_phase
match_phase_in cells known cut m h = cc (any_none (λ (p : Phase). absent p.source) (map (phase_of known) (match_nets cells cut m))
    (λ w i. let o = map_out (phase_of known) (match_nets cells cut m) i in ap (λ (y : Phase). absent y.source) o.2 ∙ h o.0 o.1))

-- where a match gives a phase a source, its nets have sources
pub match_phase_out : (cells : List Cell) (known : ℕ → Phases) (cut : List ℕ) (m : Match) → absent (match_phase cells known cut m).source ≡ false
    → ((x : ℕ) → Memᴰ x (match_nets cells cut m) → absent (phase_of known x).source ≡ false) × (match_phase cells known cut m ≡ matched_phase cells known cut m)
unfolding match_phase no_phase absent
match_phase_out cells known cut m = go (any (λ (p : Phase). absent p.source) (map (phase_of known) (match_nets cells cut m))) refl
  where
    go : (b : Bool) → any (λ (p : Phase). absent p.source) (map (phase_of known) (match_nets cells cut m)) ≡ b → absent (cond b no_phase (matched_phase cells known cut m)).source ≡ false
        → ((x : ℕ) → Memᴰ x (match_nets cells cut m) → absent (phase_of known x).source ≡ false) × (cond b no_phase (matched_phase cells known cut m) ≡ matched_phase cells known cut m)
    go true q h = absurd (true≢false h)
    go false q h = (
      (λ x i. any-each (λ (p : Phase). absent p.source) (map (phase_of known) (match_nets cells cut m)) q (phase_of known x) (map_in (phase_of known) i)),
      refl,
    )

-- ---- inverters

-- the phase that the inverter at a line gives
abbrev pub inverted_phase : Cell → ℕ → Phase → Phase
inverted_phase c line other = record { source = Inverted line; arrival = other.arrival + get_or c.delays 0 0 }

pub inverter_in : (cells : List Cell) (first k i : ℕ) (other : Phase) → first + k ≡ i → k < length cells → T (is_inverter (get_or cells k no_cell)) → absent other.source ≡ false
    → Memᴰ (inverted_phase (get_or cells k no_cell) i other) (inverter_phases cells first other)
unfolding inverter_phases
inverter_in [] first k i other e h t a = absurd (not-suc-le-zero h)
inverter_in (c ∷ cs) first zero i other e h t a = rw a (by_bool (is_inverter c)
    (λ q. rw q (Memᴰ-head (ap (λ (j : ℕ). inverted_phase c j other) (sym e ∙ add-zero first)))) (λ p. rw p (absurd (rw p at t))))
inverter_in (c ∷ cs) first (suc k) i other e h t a = by_bool (is_inverter c && not (absent other.source)) (λ q. rw q
    (Memᴰ-tail (inverter_in cs (suc first) k i other (suc-add first k ∙ sym (add-suc first k) ∙ e) (le_of_suc-le-suc h) t a)))
    (λ p. rw p (inverter_in cs (suc first) k i other (suc-add first k ∙ sym (add-suc first k) ∙ e) (le_of_suc-le-suc h) t a))

pub record InverterPhase (cells : List Cell) (first : ℕ) (other w : Phase) : Type 0 where
  pub place : ℕ
  pub has_place : place < length cells
  pub inverts : T (is_inverter (get_or cells place no_cell))
  pub present : absent other.source ≡ false
  pub is_phase : w ≡ inverted_phase (get_or cells place no_cell) (first + place) other

pub inverter_out : (cells : List Cell) (first : ℕ) (other w : Phase) → Memᴰ w (inverter_phases cells first other) → InverterPhase cells first other w
unfolding inverter_phases
inverter_out [] first other w i = absurd (Memᴰ-not-nil i)
inverter_out (c ∷ cs) first other w i = go (is_inverter c) (λ t. t) (absent other.source) refl i (inverter_out cs (suc first) other w)
  where
    later : InverterPhase cs (suc first) other w → InverterPhase (c ∷ cs) first other w
    later r = record {
      place = suc r.place;
      has_place = let h : r.place < length cs = r.has_place in omega arith;
      inverts = r.inverts;
      present = r.present;
      is_phase = r.is_phase ∙ ap (λ (j : ℕ). inverted_phase (get_or cs r.place no_cell) j other) (suc-add first r.place ∙ sym (add-suc first r.place));
    }

    go : (b : Bool) → (T b → T (is_inverter c)) → (x : Bool) → absent other.source ≡ x
        → Memᴰ w (cond (b && not x) (inverted_phase c first other ∷ inverter_phases cs (suc first) other) (inverter_phases cs (suc first) other))
        → (Memᴰ w (inverter_phases cs (suc first) other) → InverterPhase cs (suc first) other w) → InverterPhase (c ∷ cs) first other w
    go true t true e j back = later (back j)
    go true t false e (Memᴰ-head q) back = record {
      place = 0;
      has_place = omega arith;
      inverts = t tt;
      present = e;
      is_phase = q ∙ ap (λ (j : ℕ). inverted_phase c j other) (sym (add-zero first));
    }
    go true t false e (Memᴰ-tail j) back = later (back j)
    go false t x e j back = later (back j)
