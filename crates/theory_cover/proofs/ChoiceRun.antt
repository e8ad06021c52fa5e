-- The choice of the earliest, and what is known when a variable's turn comes.
use Rattle.base.specs.{ℕ, ◌≤◌, ◌<◌, le_trans, arith, ◌≡◌, refl, ◌∙◌, ap, subst, Bool, true, false, not, cond, not-not, List, [], ◌∷◌}
use Rattle.base.specs.{◌++◌, Memᴰ, Memᴰ-head, Memᴰ-tail, ltb, ltb→lt, nltb→le}
use Rattle.model.specs.{find, run, node, topological_order, var_of, negated, opposite, cuts_of, Phases, no_phases, no_phase, absent, earlier, choose}
use Rattle.model.specs.{phase_of, inverter_phases, uninverted, joined, choices, chosen, Distinct}
use Rattle.model.specs.Graph.{Graph}
use Rattle.model.specs.declared.Cell.{Cell}
use Rattle.model.specs.declared.Phase.{Phase}
use Rattle.theory_graph.proofs.{opposite-var, opposite_neg, no_twice-behind, run_stays, run_entry, run-split, by_bool}

-- ---- the choice of the earliest

-- a phase that has a source, by time t at the latest
pub record Beats (w : Phase) (t : ℕ) : Type 0 where
  pub present : absent w.source ≡ false
  pub early : w.arrival ≤ t

earlier-first : (a b : Phase) (t : ℕ) → Beats a t → Beats (earlier a b) t
unfolding earlier
earlier-first a b t h = rw h.present (by_bool (absent b.source) (λ e. rw e h) (λ q. rw q (by_bool (ltb b.arrival a.arrival)
    (λ p. rw p (let s : b.arrival < a.arrival = (rw p at (ltb→lt b.arrival a.arrival)) tt in
    record { present = q; early = let q : a.arrival ≤ t = h.early in omega (arith, rw p at (ltb→lt b.arrival a.arrival)) }))
    (λ r. rw r h))))

earlier-second : (a b : Phase) (t : ℕ) → Beats b t → Beats (earlier a b) t
unfolding earlier
earlier-second a b t h = rw h.present (by_bool (absent a.source) (λ e. rw e h) (λ q. rw q (by_bool (ltb b.arrival a.arrival)
    (λ p. rw p h) (λ r. rw r (record { present = q; early = le_trans ((rw r at (nltb→le b.arrival a.arrival)) tt) h.early })))))

-- the chosen one is as good as any
pub choose_beats : (w : Phase) (t : ℕ) (ws : List Phase) → Memᴰ w ws → Beats w t → Beats (choose ws) t
unfolding choose
choose_beats w t (x ∷ ws) (Memᴰ-head e) h = earlier-first x (choose ws) t (subst (λ (y : Phase). Beats y t) e h)
choose_beats w t (x ∷ ws) (Memᴰ-tail m) h = earlier-second x (choose ws) t (choose_beats w t ws m h)
choose_beats w t [] x'' h = elim x'' [ ]

-- the two phases of a variable, each with the other's inverters
pub joined-phase : (cells : List Cell) (own : Bool → Phase) (b : Bool)
    → cond b (joined cells (own false) (own true)).negative (joined cells (own false) (own true)).positive ≡ choose (own b ∷ inverter_phases cells 0 (own (not b)))
unfolding joined
joined-phase cells own true = refl
joined-phase cells own false = refl

-- ---- the steps of the variables

module _ (cells : List Cell) (g : Graph) where
  -- the step of `choices`
  abbrev pub phase_step : List (ℕ × Phases) → ℕ → Phases
  phase_step known v = joined cells (uninverted cells g (λ u. find no_phases u known) v (cuts_of g v) false (node g v))
      (uninverted cells g (λ u. find no_phases u known) v (cuts_of g v) true (node g v))

  abbrev pub phases_known : List ℕ → ℕ → Phases
  phases_known pre u = find no_phases u (run phase_step pre [])

  -- what is known when a variable's turn comes is what is chosen in the end
  pub chosen-known : (pre : List ℕ) (v : ℕ) (post : List ℕ) → topological_order g ≡ pre ++ (v ∷ post) → (x : ℕ) → ¬ Memᴰ (var_of x) (v ∷ post)
      → chosen cells g x ≡ phase_of (phases_known pre) x
  unfolding chosen choices cuts_of phase_of
  chosen-known pre v post e x h = ap (λ (p : Phases). cond (negated x) p.negative p.positive)
      (ap (λ (vs : List ℕ). find no_phases (var_of x) (run phase_step vs [])) e
      ∙ ap (find no_phases (var_of x)) (run-split no_phases phase_step pre (v ∷ post) [])
      ∙ run_stays no_phases phase_step (v ∷ post) (run phase_step pre []) (var_of x) h)

  -- what a variable's phases are without inverters, in its turn
  abbrev pub own : List ℕ → ℕ → Bool → Phase
  own pre v b = uninverted cells g (phases_known pre) v (cuts_of g v) b (node g v)

  -- the choice in a variable's turn
  pub chosen_entry : (pre : List ℕ) (v : ℕ) (post : List ℕ) → topological_order g ≡ pre ++ (v ∷ post) → Distinct (topological_order g) → (l : ℕ) → var_of l ≡ v
      → chosen cells g l ≡ choose (own pre v (negated l) ∷ inverter_phases cells 0 (own pre v (not (negated l))))
  unfolding chosen choices cuts_of phase_of
  chosen_entry pre v post e once l p = ap (λ (u : ℕ). cond (negated l) (find no_phases u (run phase_step (topological_order g) [])).negative
      (find no_phases u (run phase_step (topological_order g) [])).positive) p ∙ ap (λ (x : Phases). cond (negated l) x.negative x.positive)
      (cc (
        run-split no_phases phase_step pre (v ∷ post) [],
        run_entry no_phases phase_step v post (run phase_step pre [])
            (no_twice-behind pre (v ∷ post) (rw (← e) once)).0,
      )) ∙ joined-phase cells (own pre v) (negated l)

  -- and that of the opposite phase
  pub opposite_entry : (pre : List ℕ) (v : ℕ) (post : List ℕ) → topological_order g ≡ pre ++ (v ∷ post) → Distinct (topological_order g) → (l : ℕ) → var_of l ≡ v
      → chosen cells g (opposite l) ≡ choose (own pre v (not (negated l)) ∷ inverter_phases cells 0 (own pre v (negated l)))
  opposite_entry pre v post e once l p =
      cc (chosen_entry pre v post e once (opposite l) (opposite-var l ∙ p), opposite_neg l, not-not (negated l))

  -- what is never ordered is chosen nothing
  pub chosen_none : (l : ℕ) → ¬ Memᴰ (var_of l) (topological_order g) → absent (chosen cells g l).source ≡ true
  unfolding chosen choices cuts_of phase_of absent no_phase no_phases find
  chosen_none l h = ap (λ (x : Phases). absent (cond (negated l) x.negative x.positive).source)
      (run_stays no_phases phase_step (topological_order g) [] (var_of l) h) ∙ by_bool (negated l) (λ e. cc) (λ q. cc)
