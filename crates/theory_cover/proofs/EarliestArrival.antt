-- Demand 3 at the choice: no cover gives a phase that it needs an earlier arrival than the choice does, and the choice gives such a phase a
-- source. The order of ordering has no number twice: that is all that is asked of the graph here.
use Rattle.base.specs.{ℕ, ◌+◌, ◌≤◌, le_refl, le_trans, le_of_eq, zero-add, arith, ◌≡◌, refl, sym, ◌∙◌, ap, subst, Bool, true, not}
use Rattle.base.specs.{true≢false, List, [], ◌∷◌, ◌++◌, map, Memᴰ, Memᴰ-head, Memᴰ-tail, Memᴰ-not-nil}
use Rattle.base.specs.{Memᴰ-eq_of_singleton, Memᴰ-cast, get_or}
use Rattle.model.specs.{find, cell_at, no_cell, Node, constant, input, undefined, both, node, topological_order, var_of, negated, opposite}
use Rattle.model.specs.{node_cuts, cuts_of, match_nets, Phases, feeds, cell_of, latest, absent, choose, phase_of, match_phase, match_phases}
use Rattle.model.specs.{inverter_phases, uninverted, chosen, IsMatch, IsInputSource, IsInverting, Allowed, Needed, output, fed, arrival_by, CoverArrivals}
use Rattle.model.specs.{Distinct}
use Rattle.model.specs.Graph.{Graph}
use Rattle.model.specs.Cover.{Cover}
use Rattle.model.specs.declared.Cell.{Cell}
use Rattle.model.specs.declared.Match.{Match}
use Rattle.model.specs.declared.Phase.{Phase}
use Rattle.model.specs.declared.Source.{Source}
use Rattle.model.specs.declared.Source.TheVariants.{Input, Cell as Matched, Inverter as Inverted, Nothing}
use Rattle.theory_graph.proofs.{map-map, opposite-var, opposite_neg, along, node-input, cuts_known, cuts_entry, leaves-before, by_bool}
use Rattle.theory_cover.proofs.ChoiceRun.{Beats, choose_beats, phases_known, chosen-known, own, chosen_entry}
use Rattle.theory_cover.proofs.CoverFacts.{Straight, fed-straight, unordered_never, covers-timed}
use Rattle.theory_cover.proofs.Matches.{cut_for, cut-listed, match_tried, matched_leaf, match_phase_in, inverted_phase, inverter_in}

-- ---- a cell's arrival

latest_mono : (f h : ℕ → ℕ) (xs ds : List ℕ) → ((x : ℕ) → Memᴰ x xs → f x ≤ h x) → latest (map f xs) ds ≤ latest (map h xs) ds
unfolding latest
latest_mono f h [] ds le = le_refl 0
latest_mono f h (x ∷ xs) [] le = omega (arith, latest_mono f h xs [] (λ y m. le y (Memᴰ-tail m)), le x (Memᴰ-head refl))
latest_mono f h (x ∷ xs) (d ∷ ds) le = omega (arith, latest_mono f h xs ds (λ y m. le y (Memᴰ-tail m)), le x (Memᴰ-head refl))

-- an inverter's arrival is its net's with the pin's delay
pub latest-one : (t : ℕ) (ds : List ℕ) → t + get_or ds 0 0 ≡ latest (t ∷ []) ds
unfolding latest
latest-one t [] = omega arith
latest-one t (d ∷ ds) = omega arith

inverted-soon : (cells : List Cell) (i : ℕ) {a t u : ℕ} → a ≤ t → u ≡ latest (t ∷ []) (cell_at cells i).delays → a + get_or (get_or cells i no_cell).delays 0 0 ≤ u
unfolding cell_at
inverted-soon cells i {t = t} h e = omega (arith, latest-one t (get_or cells i no_cell).delays)

pub arrival-matched : (cells : List Cell) (g : Graph) (arrival : ℕ → ℕ) (l : ℕ) (m : Match)
    → arrival_by cells g arrival l (Matched m) ≡ latest (map arrival (match_nets cells (cut_for g l m) m)) (cell_at cells m.cell).delays
unfolding arrival_by feeds cell_of
arrival-matched cells g arrival l m = refl

-- "every arrival starts from it": an input's own net has the input's arrival
pub arrival-input : (cells : List Cell) (g : Graph) (arrival : ℕ → ℕ) (l : ℕ) → arrival_by cells g arrival l Input ≡ g.input_arrival (var_of l)
unfolding arrival_by
arrival-input cells g arrival l = refl

pub arrival-inverted : (cells : List Cell) (g : Graph) (arrival : ℕ → ℕ) (l i : ℕ)
    → arrival_by cells g arrival l (Inverted i) ≡ latest (arrival (opposite l) ∷ []) (cell_at cells i).delays
unfolding arrival_by feeds cell_of
arrival-inverted cells g arrival l i = refl

-- ---- the theorem

-- a variable with a match on a cut has its best match without inverters: an input has only the cut of it alone, and a variable that nothing
-- defines has none
pub match_uninverted : (cells : List Cell) (g : Graph) → Distinct (topological_order g) → (pre : List ℕ) (l : ℕ) (post : List ℕ) → topological_order g ≡ pre ++ (var_of l ∷ post)
    → (m : Match) → IsMatch cells g l m → (known : ℕ → Phases)
    → uninverted cells g known (var_of l) (cuts_of g (var_of l)) (negated l) (node g (var_of l)) ≡ choose (match_phases cells g known (var_of l) (negated l) 0 (cuts_of g (var_of l)))
unfolding uninverted node_cuts
match_uninverted cells g once pre l post e m h known = at (node g (var_of l)) refl
  where
    cut_at : (k : Node) → node g (var_of l) ≡ k → Memᴰ (cut_for g l m) (node_cuts (λ u. find [] u (cuts_known g pre)) (var_of l) k)
    cut_at k q =
        subst (λ (cs : List (List ℕ)). Memᴰ (cut_for g l m) cs) (cc (cuts_entry g pre (var_of l) post e once)) (cut-listed cells g l m h)

    at : (k : Node) → node g (var_of l) ≡ k
        → uninverted cells g known (var_of l) (cuts_of g (var_of l)) (negated l) k ≡ choose (match_phases cells g known (var_of l) (negated l) 0 (cuts_of g (var_of l)))
    at constant q = refl
    at input q = absurd (h.nontrivial (Memᴰ-eq_of_singleton (cut_at input q)))
    at undefined q = absurd (Memᴰ-not-nil (cut_at undefined q))
    at (both a b) q = refl

module _ (cells : List Cell) (g : Graph) (once : Distinct (topological_order g)) (outs : List ℕ) (c : Cover cells g outs) (at : ℕ → ℕ) (times : CoverArrivals cells g outs c at) where
  abbrev Needs : ℕ → Type 0
  Needs l = Needed cells g outs c.source l

  -- what the theorem says of the phases of a variable
  Good : ℕ → Type 0
  Good v = (l : ℕ) → var_of l ≡ v → Needs l → Beats (chosen cells g l) (at l)

  -- a match of the cover is as early in the choice as in the cover
  match_beats : (pre : List ℕ) (l : ℕ) (post : List ℕ) → topological_order g ≡ pre ++ (var_of l ∷ post) → ((u : ℕ) → ¬ Memᴰ u (var_of l ∷ post) → Good u)
      → Needs l → (m : Match) → c.source l ≡ Matched m → IsMatch cells g l m → Beats (match_phase cells (phases_known cells g pre) (cut_for g l m) m) (at l)
  unfolding Good feeds absent
  match_beats pre l post e ih n m s h =
      let fs = match_nets cells (cut_for g l m) m in
      let look = phase_of (phases_known cells g pre) in
      let each-beats : (x : ℕ) → Memᴰ x fs → Beats (look x) (at x) = λ x i. let before : ¬ Memᴰ (var_of x)
      (var_of l ∷ post) = leaves-before g pre (var_of l) post e once (cut_for g l m) (cut-listed cells g l m h) h.nontrivial (var_of x)
      (matched_leaf cells g l m x h i) in rw (← chosen-known cells g pre (var_of l) post e x before)
      (ih (var_of x) before x refl (fed n (rw s i))) in
      let by_pins : latest (map (λ (w : Phase). w.arrival) (map look fs)) (cell_at cells m.cell).delays ≤ latest (map at fs)
      (cell_at cells m.cell).delays = rw (map-map (λ (w : Phase). w.arrival) look fs)
      (latest_mono (λ (x : ℕ). (look x).arrival) at fs (cell_at cells m.cell).delays (λ x i. (each-beats x i).early)) in
      rw (match_phase_in cells (phases_known cells g pre) (cut_for g l m) m (λ x i. (each-beats x i).present))
      (record { present = refl; early = le_trans by_pins (le_of_eq (cc (times.timed l n, arrival-matched cells g at l m))) })

  -- where the cover has no inverter, the choice without inverters is as early
  straight_beats : (pre : List ℕ) (l : ℕ) (post : List ℕ) → topological_order g ≡ pre ++ (var_of l ∷ post) → ((u : ℕ) → ¬ Memᴰ u (var_of l ∷ post) → Good u)
      → Needs l → Straight (c.source l) → Beats (uninverted cells g (phases_known cells g pre) (var_of l) (cuts_of g (var_of l)) (negated l) (node g (var_of l))) (at l)
  unfolding uninverted
  straight_beats pre l post e ih n = go (c.source l) refl
    where
      go : (s : Source) → c.source l ≡ s → Straight s → Beats (uninverted cells g (phases_known cells g pre) (var_of l) (cuts_of g (var_of l)) (negated l) (node g (var_of l))) (at l)
      go Input s t =
          let o : IsInputSource g l = rw s at (c.allowed l n) in
          rw (node-input g (var_of l) once o.is_input) (by_bool (negated l) (λ q. rw q (absurd (rw q at o.positive)))
          (λ p. rw p (record { present = refl; early = le_of_eq (sym (cc (times.timed l n, arrival-input cells g at l))) })))
      go Nothing s t = absurd t
      go (Matched m) s t =
          let h : IsMatch cells g l m = subst (Allowed cells g l) s (c.allowed l n) in
          subst (λ (w : Phase). Beats w (at l)) (sym (match_uninverted cells g once pre l post e m h (phases_known cells g pre))) (choose_beats
          (match_phase cells (phases_known cells g pre) (cut_for g l m) m) (at l)
          (match_phases cells g (phases_known cells g pre) (var_of l) (negated l) 0 (cuts_of g (var_of l)))
          (match_tried cells g (phases_known cells g pre) l m h) (match_beats pre l post e ih n m s h))
      go (Inverted i) s t = absurd t

  -- the same at a variable and a phase that are equal to the literal's
  straight-at : (pre : List ℕ) (v : ℕ) (post : List ℕ) → topological_order g ≡ pre ++ (v ∷ post) → ((u : ℕ) → ¬ Memᴰ u (v ∷ post) → Good u)
      → (l : ℕ) (b : Bool) → var_of l ≡ v → negated l ≡ b → Needs l → Straight (c.source l)
      → Beats (uninverted cells g (phases_known cells g pre) v (cuts_of g v) b (node g v)) (at l)
  straight-at pre v post e ih l b p q n t =
      subst (λ (b : Bool). Beats (uninverted cells g (phases_known cells g pre) v (cuts_of g v) b (node g v)) (at l)) q
      (subst (λ (v : ℕ). topological_order g ≡ pre ++ (v ∷ post) → ((u : ℕ) → ¬ Memᴰ u (v ∷ post) → Good u)
      → Beats (uninverted cells g (phases_known cells g pre) v (cuts_of g v) (negated l) (node g v)) (at l)) p
      (λ e' ih'. straight_beats pre l post e' ih' n t) e ih)

  -- the phases of a variable, in its turn
  visit : (pre : List ℕ) (v : ℕ) (post : List ℕ) → topological_order g ≡ pre ++ (v ∷ post) → ((u : ℕ) → ¬ Memᴰ u (v ∷ post) → Good u) → Good v
  unfolding Good cell_at absent
  visit pre v post e ih l p n = subst (λ (w : Phase). Beats w (at l)) (sym (chosen_entry cells g pre v post e once l p)) (go (c.source l) refl)
    where
      other : Phase
      other = own cells g pre v (not (negated l))

      tries : List Phase
      tries = own cells g pre v (negated l) ∷ inverter_phases cells 0 other

      mine : Straight (c.source l) → Beats (choose tries) (at l)
      mine t = choose_beats (own cells g pre v (negated l)) (at l) tries (Memᴰ-head refl) (straight-at pre v post e ih l (negated l) p refl n t)

      go : (s : Source) → c.source l ≡ s → Beats (choose tries) (at l)
      go Input s = mine (subst Straight (sym s) tt)
      go Nothing s = absurd (subst (Allowed cells g l) s (c.allowed l n))
      go (Matched m) s = mine (subst Straight (sym s) tt)
      go (Inverted i) s =
          let f = fed-straight cells g once outs c l i n s in
          let h : IsInverting cells i = subst (Allowed cells g l) s (c.allowed l n) in
          let b : Beats other (at (opposite l)) =
          straight-at pre v post e ih (opposite l) (not (negated l)) (opposite-var l ∙ p) (opposite_neg l) f.0 f.1 in
          let timed : at l ≡ latest (at (opposite l) ∷ []) (cell_at cells i).delays =
          times.timed l n ∙ ap (arrival_by cells g at l) s ∙ arrival-inverted cells g at l i in
          choose_beats (inverted_phase (get_or cells i no_cell) i other) (at l) tries
          (Memᴰ-tail (inverter_in cells 0 i i other (zero-add i) h.has_cell h.inverts b.present))
          (record { present = refl; early = inverted-soon cells i b.early timed })

  -- Demand 3 at the choice: a phase that a cover needs is chosen a source, and none is earlier in the cover
  pub earliest : (l : ℕ) → Needs l → Beats (chosen cells g l) (at l)
  unfolding Good
  earliest l n = along Good (topological_order g) (λ u h x p k. absurd (unordered_never cells g once outs c x (λ m. h (Memᴰ-cast (sym p) m)) k)) visit (var_of l) l refl n

-- a phase that is chosen no source has no cover
pub nothing-uncovered : (cells : List Cell) (g : Graph) → Distinct (topological_order g) → (l : ℕ) → absent (chosen cells g l).source ≡ true → ¬ Cover cells g (l ∷ [])
nothing-uncovered cells g once l h c =
    let t = (covers-timed cells g once (l ∷ []) c).has in
    true≢false (sym h ∙ (earliest cells g once (l ∷ []) c t.0 t.1 l (output (Memᴰ-head refl))).present)
