-- The chosen phases timed under other pin delays: what `retimed` computes follows the rule at every phase that is chosen a source, and
-- smaller delays give no later arrivals.
use Rattle.base.specs.{ℕ, suc, ◌≤◌, le_refl, le_trans, le_of_eq, arith, ◌≡◌, refl, sym, ◌∙◌, ap, ap₂, subst, Bool, true, false, not, cond}
use Rattle.base.specs.{true≢false, List, [], ◌∷◌, ◌++◌, map, Memᴰ, Memᴰ-head, Memᴰ-tail, Memᴰ-eq_of_singleton}
use Rattle.base.specs.{Memᴰ-cast, get_or}
use Rattle.model.specs.{find, run, topological_order, var_of, negated, literal, opposite, cuts_of, feeds, cell_of, latest, chosen, Allowed}
use Rattle.model.specs.{arrival_by, Times, no_times, time_of, own_time, inverter_time, times_at, retimes, retimed, Distinct}
use Rattle.model.specs.Graph.{Graph}
use Rattle.model.specs.declared.Cell.{Cell}
use Rattle.model.specs.declared.Source.{Source}
use Rattle.model.specs.declared.Source.TheVariants.{Input, Cell as Matched, Inverter as Inverted, Nothing}
use Rattle.theory_graph.proofs.{map_same, opposite-var, lit_whole, along, no_twice-behind, run_stays, run_entry, run-split}
use Rattle.theory_cover.proofs.ChoiceRun.{chosen_none}
use Rattle.theory_cover.proofs.CoverFacts.{Straight}
use Rattle.theory_cover.proofs.CoverSoundness.{Present, chosen_fine, straight-before}

-- the rule, with the delays of the cell
unfoldable pub time_by : List Cell → Graph → List ℕ → (ℕ → ℕ) → ℕ → Source → ℕ
unfolding latest feeds cuts_of
time_by cells g delays at l Input = g.input_arrival (var_of l)
time_by cells g delays at l Nothing = 0
time_by cells g delays at l (Matched m) = latest (map at (feeds cells (cuts_of g) l (Matched m))) delays
time_by cells g delays at l (Inverted c) = latest (map at (feeds cells (cuts_of g) l (Inverted c))) delays

-- smaller arrivals and smaller delays give no later arrival
pub latest-below : (f h : ℕ → ℕ) (xs ds es : List ℕ) → ((x : ℕ) → Memᴰ x xs → f x ≤ h x) → ((j : ℕ) → get_or ds j 0 ≤ get_or es j 0)
    → latest (map f xs) ds ≤ latest (map h xs) es
unfolding latest
latest-below f h [] ds es le de = le_refl 0
latest-below f h (x ∷ xs) ds es le de = go ds es de (λ as' bs. latest-below f h xs as' bs (λ y m. le y (Memᴰ-tail m)))
  where
    a : f x ≤ h x
    a = le x (Memᴰ-head refl)

    go : (ds es : List ℕ) → ((j : ℕ) → get_or ds j 0 ≤ get_or es j 0) → ((as' bs : List ℕ) → ((j : ℕ) → get_or as' j 0 ≤ get_or bs j 0) → latest (map f xs) as' ≤ latest (map h xs) bs)
        → latest (f x ∷ map f xs) ds ≤ latest (h x ∷ map h xs) es
    go [] [] q rest = let b : latest (map f xs) [] ≤ latest (map h xs) [] = rest [] [] (λ j. le_refl 0) in omega (arith, a)
    go [] (e ∷ es) q rest = let b : latest (map f xs) [] ≤ latest (map h xs) es = rest [] es (λ j. q (suc j)) in omega (arith, a)
    go (d ∷ ds) [] q rest = omega (arith, rest ds [] (λ j. q (suc j)), q 0, a)
    go (d ∷ ds) (e ∷ es) q rest = omega (arith, rest ds es (λ j. q (suc j)), q 0, a)

module _ (cells : List Cell) (g : Graph) (once : Distinct (topological_order g)) (delays : ℕ → List ℕ) where
  abbrev source : ℕ → Source
  source l = (chosen cells g l).source

  abbrev time : ℕ → ℕ
  time = retimed cells g source delays

  abbrev time_step : List (ℕ × Times) → ℕ → Times
  time_step known v = times_at cells g source delays (λ u. find no_times u known) v

  abbrev times_known : List ℕ → ℕ → Times
  times_known pre u = find no_times u (run time_step pre [])

  -- what is known when a variable's turn comes stays
  time_known : (pre : List ℕ) (v : ℕ) (post : List ℕ) → topological_order g ≡ pre ++ (v ∷ post) → (x : ℕ) → ¬ Memᴰ (var_of x) (v ∷ post) → time x ≡ time_of (times_known pre) x
  unfolding retimed retimes time_of
  time_known pre v post e x h =
      cc (run-split no_times time_step pre (v ∷ post) [], run_stays no_times time_step (v ∷ post) (run time_step pre []) (var_of x) h)

  -- a phase's own arrival in its variable's turn
  abbrev own_at : List ℕ → ℕ → ℕ
  own_at pre l = own_time cells g (delays l) (times_known pre) l (source l)

  two-times : (pre : List ℕ) (v : ℕ) (b : Bool)
      → cond b (times_at cells g source delays (times_known pre) v).negative (times_at cells g source delays (times_known pre) v).positive
      ≡ inverter_time (delays (literal b v)) (own_at pre (literal b v)) (own_at pre (literal (not b) v)) (source (literal b v))
  unfolding times_at
  two-times pre v true = refl
  two-times pre v false = refl

  time_entry : (pre : List ℕ) (v : ℕ) (post : List ℕ) → topological_order g ≡ pre ++ (v ∷ post) → (l : ℕ) → var_of l ≡ v
      → time l ≡ inverter_time (delays l) (own_at pre l) (own_at pre (opposite l)) (source l)
  unfolding retimed retimes time_of opposite
  time_entry pre v post e l p = ap (λ (u : ℕ). cond (negated l) (find no_times u (run time_step (topological_order g) [])).negative
      (find no_times u (run time_step (topological_order g) [])).positive) p ∙ ap (λ (x : Times). cond (negated l) x.negative x.positive)
      (cc (
        run-split no_times time_step pre (v ∷ post) [],
        run_entry no_times time_step v post (run time_step pre [])
            (no_twice-behind pre (v ∷ post) (rw (← e) once)).0,
      )) ∙ two-times pre v (negated l) ∙ ap₂
      (λ (x y : ℕ). inverter_time (delays x) (own_at pre x) (own_at pre y) (source x)) (ap (literal (negated l)) (sym p) ∙ lit_whole l)
      (ap (literal (not (negated l))) (sym p))

  own_rule : (pre : List ℕ) (v : ℕ) (post : List ℕ) → topological_order g ≡ pre ++ (v ∷ post) → (l : ℕ) → var_of l ≡ v → Straight (source l)
      → own_at pre l ≡ time_by cells g (delays l) time l (source l)
  unfolding own_time time_by
  own_rule pre v post e l p t = go (source l) refl t
    where
      go : (s : Source) → source l ≡ s → Straight s → own_time cells g (delays l) (times_known pre) l s ≡ time_by cells g (delays l) time l s
      go Input q u = refl
      go Nothing q u = absurd u
      go (Matched m) q u = cc (map_same (time_of (times_known pre)) time (feeds cells (cuts_of g) l (Matched m))
          (λ x i. sym (time_known pre v post e x (straight-before cells g once pre v post e l p (rw q tt) x (rw q i)))))
      go (Inverted c) q u = absurd u

  -- what an entry is, where the phase has no inverter
  straight_time : (pre : List ℕ) (v : ℕ) (post : List ℕ) → topological_order g ≡ pre ++ (v ∷ post) → (l : ℕ) → var_of l ≡ v → Straight (source l) → time l ≡ own_at pre l
  unfolding inverter_time
  straight_time pre v post e l p t = time_entry pre v post e l p ∙ go (source l) t
    where
      go : (s : Source) → Straight s → inverter_time (delays l) (own_at pre l) (own_at pre (opposite l)) s ≡ own_at pre l
      go Input u = refl
      go Nothing u = absurd u
      go (Matched m) u = refl
      go (Inverted c) u = absurd u

  visit : (pre : List ℕ) (v : ℕ) (post : List ℕ) → topological_order g ≡ pre ++ (v ∷ post) → (l : ℕ) → var_of l ≡ v → Present cells g once l
      → time l ≡ time_by cells g (delays l) time l (source l)
  unfolding inverter_time time_by feeds
  visit pre v post e l p h = go (source l) refl
    where
      plain : Straight (source l) → time l ≡ time_by cells g (delays l) time l (source l)
      plain t = straight_time pre v post e l p t ∙ own_rule pre v post e l p t

      go : (s : Source) → source l ≡ s → time l ≡ time_by cells g (delays l) time l (source l)
      go Input q = plain (subst Straight (sym q) tt)
      go Nothing q = absurd (subst (Allowed cells g l) q (chosen_fine cells g once l h).0.allowed)
      go (Matched m) q = plain (subst Straight (sym q) tt)
      go (Inverted c) q = cc
          (time_entry pre v post e l p, straight_time pre v post e (opposite l) (opposite-var l ∙ p) ((chosen_fine cells g once l h).1 c q))

  -- the rule holds at every phase that is chosen a source
  pub retimed_rule : (l : ℕ) → Present cells g once l → time l ≡ time_by cells g (delays l) time l (source l)
  retimed_rule l h = along (λ v. (x : ℕ) → var_of x ≡ v → Present cells g once x → time x ≡ time_by cells g (delays x) time x (source x))
      (topological_order g) (λ u k x p a. absurd (true≢false (sym (chosen_none cells g x (λ m. k (Memᴰ-cast (sym p) m))) ∙ a)))
      (λ pre v post e ih. visit pre v post e) (var_of l) l refl h

-- Under delays that are no larger than the chosen cells', no phase is later than it is chosen: so a minimum arrival is at most its phase's arrival.
module _ (cells : List Cell) (g : Graph) (once : Distinct (topological_order g)) (delays : ℕ → List ℕ)
    (smaller : (l : ℕ) → Present cells g once l → (j : ℕ) → get_or (delays l) j 0 ≤ get_or (cell_of cells (chosen cells g l).source).delays j 0) where
  abbrev timed : ℕ → ℕ
  timed = retimed cells g (λ x. (chosen cells g x).source) delays

  abbrev arrives : ℕ → ℕ
  arrives x = (chosen cells g x).arrival

  by_rule : (l : ℕ) → Present cells g once l → ((x : ℕ) → Memᴰ x (feeds cells (cuts_of g) l (chosen cells g l).source) → timed x ≤ arrives x) → timed l ≤ arrives l
  unfolding time_by arrival_by cell_of
  by_rule l h ih = le_trans (le_of_eq (retimed_rule cells g once delays l h))
      (le_trans (go (chosen cells g l).source ih (smaller l h)) (le_of_eq (sym (chosen_fine cells g once l h).0.timed)))
    where
      go : (s : Source) → ((x : ℕ) → Memᴰ x (feeds cells (cuts_of g) l s) → timed x ≤ arrives x) → ((j : ℕ) → get_or (delays l) j 0 ≤ get_or (cell_of cells s).delays j 0)
          → time_by cells g (delays l) timed l s ≤ arrival_by cells g arrives l s
      go Input f q = le_refl (g.input_arrival (var_of l))
      go Nothing f q = le_refl 0
      go (Matched m) f q = latest-below timed arrives (feeds cells (cuts_of g) l (Matched m)) (delays l) (cell_of cells (Matched m)).delays f q
      go (Inverted c) f q = latest-below timed arrives (feeds cells (cuts_of g) l (Inverted c)) (delays l) (cell_of cells (Inverted c)).delays f q

  pub retimed-below : (l : ℕ) → Present cells g once l → timed l ≤ arrives l
  unfolding feeds
  retimed-below l h = along (λ v. (x : ℕ) → var_of x ≡ v → Present cells g once x → timed x ≤ arrives x) (topological_order g)
      (λ u k x p a. absurd (true≢false (sym (chosen_none cells g x (λ m. k (Memᴰ-cast (sym p) m))) ∙ a))) at-step (var_of l) l refl h
    where
      at-step : (pre : List ℕ) (v : ℕ) (post : List ℕ) → topological_order g ≡ pre ++ (v ∷ post) → ((u : ℕ) → ¬ Memᴰ u (v ∷ post) → (x : ℕ) → var_of x ≡ u → Present cells g once x → timed x ≤ arrives x)
          → (x : ℕ) → var_of x ≡ v → Present cells g once x → timed x ≤ arrives x
      at-step pre v post e ih x p k = go (chosen cells g x).source refl
        where
          straight : (y : ℕ) → var_of y ≡ v → Present cells g once y → Straight (chosen cells g y).source → timed y ≤ arrives y
          straight y q m t = by_rule y m (λ z i. ih (var_of z) (straight-before cells g once pre v post e y q t z i) z refl ((chosen_fine cells g once y m).0.fed_by z i))

          go : (s : Source) → (chosen cells g x).source ≡ s → timed x ≤ arrives x
          go Input s = straight x p k (subst Straight (sym s) tt)
          go Nothing s = absurd (subst (Allowed cells g x) s (chosen_fine cells g once x k).0.allowed)
          go (Matched m) s = straight x p k (subst Straight (sym s) tt)
          go (Inverted c) s =
              by_rule x k (λ z i.
              let q : z ≡ opposite x = Memᴰ-eq_of_singleton (subst (λ (r : Source). Memᴰ z (feeds cells (cuts_of g) x r)) s i) in
              subst (λ (y : ℕ). timed y ≤ arrives y) (sym q)
              (straight (opposite x) (opposite-var x ∙ p) (subst (Present cells g once) q ((chosen_fine cells g once x k).0.fed_by z i)) ((chosen_fine cells g once x k).1 c s)))
