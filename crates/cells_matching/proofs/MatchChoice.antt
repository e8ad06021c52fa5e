-- The best variant of a cut's function is 01's choice among the cut's matches.
--     best_chosen         the phase of the best variant is the first of the earliest over the variants
--     best_match_chosen   and so over the matches of the cut
--     under_first, under_rest     the best that is earlier than one of a former cut, or that one, is the choice of both
use Rattle.base.specs.{ℕ, ◌≤◌, ◌<◌, ◌≡◌, refl, sym, ap, ◌∙◌, Bool, false, cond, List, [], ◌∷◌, map, ◌⊎◌, inl, inr, ⊎_elim, arith, length}
use Rattle.model.specs.{keep, Phases, absent, earlier, choose, no_phase, match_phase, cut_matches}
use Rattle.model.specs.declared.Cell.{Cell}
use Rattle.model.specs.declared.Phase.{Phase}
use Rattle.model.specs.declared.Source.TheVariants.{Cell as Matched}
use Rattle.theory_graph.proofs.{map-map, map_same}
use Rattle.cells_matching.specs.declared.Best.{Best}
use Rattle.cells_matching.specs.{Matchable, line_of, match_of, places_at, variants, infinite, TimesOf, Quick, arrival_at, unmatched_under}
use Rattle.cells_matching.specs.{unmatched, better, best_from, best_under, best_of, phase_as}
use Rattle.cells_matching.proofs.BestMatch.{by_bool, by_less, none-absent, earlier-none, earlier_assoc, earlier-first, earlier_strict}
use Rattle.cells_matching.proofs.BestMatch.{earlier_tie, choose-kept}
use Rattle.cells_matching.proofs.FirstVariants.{better-not}
use Rattle.cells_matching.proofs.BucketLists.{variant_matches}
use Rattle.cells_matching.proofs.BucketWalk.{better_strict}
use Rattle.cells_matching.proofs.VariantArrivals.{of_variant, phase-input-arrival, phase-bounded, variant_past, variant_phase}

-- ---- one variant more

-- the phase of a match
matched : ℕ → Best → Phase
matched k b = record { source = Matched (match_of k b.variant); arrival = b.arrival }

matched_present : (k : ℕ) (b : Best) → absent (matched k b).source ≡ false
unfolding matched absent
matched_present k b = refl

matched-arrival : (k : ℕ) (b : Best) → (matched k b).arrival ≡ b.arrival
unfolding matched
matched-arrival k b = refl

bounded : (k : ℕ) (b : Best) → b.arrival < infinite → phase_as k b ≡ matched k b
unfolding matched
bounded k b h = phase-bounded k b h

module _ (k : ℕ) (b : Best) where
  -- the best stays where nothing comes after it
  pub phase-end : phase_as k b ≡ earlier (phase_as k b) no_phase
  phase-end = by_less b.arrival infinite
      (λ h. bounded k b h ∙ sym (ap (λ (z : Phase). earlier z no_phase) (bounded k b h) ∙ earlier-first (matched k b) no_phase (matched_present k b) none-absent))
      (λ h. phase-input-arrival k b h ∙ sym (ap (λ (z : Phase). earlier z no_phase) (phase-input-arrival k b h) ∙ earlier-none no_phase))

  module _ (x a : ℕ) where
    one : Best
    one = record { variant = x; arrival = a }

    phase-better : phase_as k (better b x a) ≡ earlier (phase_as k b) (phase_as k (record { variant = x; arrival = a }))
    unfolding one
    phase-better = by_less a b.arrival
        (λ h. ap (phase_as k) (better_strict b x a h) ∙ by_less b.arrival infinite
        (λ l. let q : phase_as k one ≡ matched k one = bounded k one (omega arith) in
        q ∙ sym (ap (λ (z : Phase). earlier z (phase_as k one)) (bounded k b l) ∙ ap (earlier (matched k b)) q
        ∙ earlier_strict (matched k b) (matched k one) (matched_present k b) (matched_present k one) (omega (arith, matched-arrival k b, matched-arrival k one))))
        (λ l. sym (ap (λ (z : Phase). earlier z (phase_as k one)) (phase-input-arrival k b l) ∙ earlier-none (phase_as k one))))
        (λ h. ap (phase_as k) (better-not b x a h) ∙ by_less a infinite
        (λ l. let q : phase_as k one ≡ matched k one = bounded k one l in
        let r : phase_as k b ≡ matched k b = bounded k b (omega arith) in
        r ∙ sym (ap (λ (z : Phase). earlier z (phase_as k one)) r ∙ ap (earlier (matched k b)) q
        ∙ earlier_tie (matched k b) (matched k one) (matched_present k b) (matched_present k one) (omega (arith, matched-arrival k b, matched-arrival k one))))
        (λ l. phase-end ∙ sym (ap (earlier (phase_as k b)) (phase-input-arrival k one l))))

-- ---- all variants

module _ (cells : List Cell) (times : List ℕ) (k : ℕ) where
  from_best : (xs : List ℕ) (b : Best)
      → phase_as k (best_from cells times b xs) ≡ earlier (phase_as k b) (choose (map (λ (x : ℕ). phase_as k (of_variant cells times x)) xs))
  unfolding best_from choose
  from_best [] b = phase-end k b
  from_best (x ∷ xs) b =
      from_best xs (better b x (arrival_at cells times x))
      ∙ ap (λ (z : Phase). earlier z (choose (map (λ (x : ℕ). phase_as k (of_variant cells times x)) xs))) (phase-better k b x (arrival_at cells times x))
      ∙ earlier_assoc (phase_as k b) (phase_as k (of_variant cells times x)) (choose (map (λ (x : ℕ). phase_as k (of_variant cells times x)) xs))

  pub best_chosen : (f : ℕ) → phase_as k (best_of cells f times) ≡ choose (map (λ (x : ℕ). phase_as k (of_variant cells times x)) (variants cells f))
  unfolding best_of best_under
  best_chosen f =
      from_best (variants cells f) unmatched
      ∙ ap (λ (z : Phase). earlier z (choose (map (λ (x : ℕ). phase_as k (of_variant cells times x)) (variants cells f)))) (phase-input-arrival k unmatched (omega arith))
      ∙ earlier-none (choose (map (λ (x : ℕ). phase_as k (of_variant cells times x)) (variants cells f)))

-- the best match of a cut is the choice among its matches
pub best_match_chosen : (cells : List Cell) (known : ℕ → Phases) (cut times : List ℕ) (k f : ℕ) → Matchable cells → f < 65536 → TimesOf known cut times → Quick known cut
    → phase_as k (best_of cells f times) ≡ choose (map (match_phase cells known cut) (cut_matches cells 0 k (length cut) f))
best_match_chosen cells known cut times k f in_bounds small timed quick =
    best_chosen cells times k f
    ∙ ap choose (map_same (λ (x : ℕ). phase_as k (of_variant cells times x)) (λ (x : ℕ). cond (places_at cells (length cut) x) (given x) no_phase) (variants cells f) (λ x m. same x))
    ∙ sym (choose-kept given (places_at cells (length cut)) (variants cells f))
    ∙ ap choose (sym (map-map (match_phase cells known cut) (match_of k) (keep (places_at cells (length cut)) (variants cells f)))
    ∙ ap (map (match_phase cells known cut)) (variant_matches cells k (length cut) f small in_bounds.pins))
  where
    given : ℕ → Phase
    given x = match_phase cells known cut (match_of k x)

    same : (x : ℕ) → phase_as k (of_variant cells times x) ≡ cond (places_at cells (length cut) x) (given x) no_phase
    same x = by_bool (places_at cells (length cut) x)
        (λ e. variant_phase cells k x (in_bounds.pins (line_of x)) known cut times timed quick (in_bounds.delays (line_of x)) e ∙ sym (ap (λ (b : Bool). cond b (given x) no_phase) e))
        (λ e. variant_past cells k x (in_bounds.pins (line_of x)) known cut times timed e ∙ sym (ap (λ (b : Bool). cond b (given x) no_phase) e))

-- ---- the best under a bound

module _ (cells : List Cell) (times : List ℕ) (bound : ℕ) where
  -- the best with the bound and the best without: the same, or none is earlier
  Near : Best → Best → Type 0
  Near b u = ((b ≡ u) × (b.arrival < bound)) ⊎ ((b.arrival ≡ bound) × (bound ≤ u.arrival))

  near_better : (b u : Best) (x a : ℕ) → Near b u → Near (better b x a) (better u x a)
  unfolding Near
  near_better b u x a (inl k) = inl (ap (λ (z : Best). better z x a) k.0, under)
    where
      under : (better b x a).arrival < bound
      under = by_less a b.arrival
          (λ h. rw (better_strict b x a h) (omega (arith, k.1)))
          (λ h. rw (better-not b x a h) k.1)
  near_better b u x a (inr k) = by_less a bound
      (λ h. inl (better_strict b x a (omega (arith, k.0)) ∙ sym (better_strict u x a (omega (arith, k.1))), rw (better_strict b x a (omega (arith, k.0))) h))
      (λ h. inr (
        ap (λ (z : Best). z.arrival) (better-not b x a (omega (arith, k.0))) ∙ k.0,
        by_less a u.arrival (λ l. rw (better_strict u x a l) h) (λ l. rw (better-not u x a l) k.1),
      ))

  near_from : (xs : List ℕ) (b u : Best) → Near b u → Near (best_from cells times b xs) (best_from cells times u xs)
  unfolding best_from
  near_from [] b u k = k
  near_from (x ∷ xs) b u k = near_from xs (better b x (arrival_at cells times x)) (better u x (arrival_at cells times x)) (near_better b u x (arrival_at cells times x) k)

  near_best : (f wide : ℕ) → bound ≤ wide → Near (best_under cells f times bound) (best_under cells f times wide)
  unfolding best_under Near
  near_best f wide h = near_from (variants cells f) (unmatched_under bound) (unmatched_under wide) (inr (refl, h))

module _ (j : ℕ) (r : Best) (cells : List Cell) (times : List ℕ) (k f : ℕ) where
  -- the best that is earlier than r, and the best
  under : Best
  under = best_under cells f times r.arrival

  best : Best
  best = best_under cells f times infinite

  timed : r.arrival < infinite → Near cells times r.arrival under best
  unfolding under best
  timed h = near_best cells times r.arrival f infinite (omega arith)

  untimed : infinite ≤ r.arrival → Near cells times infinite best under
  unfolding under best
  untimed h = near_best cells times infinite f r.arrival h

  -- a match that is earlier than one of a former cut is chosen before it
  pub under_first : (best_under cells f times r.arrival).arrival < r.arrival
      → phase_as k (best_under cells f times r.arrival) ≡ earlier (phase_as j r) (phase_as k (best_of cells f times))
  unfolding Near under best best_of
  under_first l = by_less r.arrival infinite
      (λ h. ⊎_elim
      (λ n. let q : phase_as k under ≡ matched k under = bounded k under (omega arith) in
      q ∙ sym ((λ i. earlier (bounded j r h i) ((ap (phase_as k) (sym n.0) ∙ q) i))
      ∙ earlier_strict (matched j r) (matched k under) (matched_present j r) (matched_present k under)
      (omega (arith, matched-arrival j r, matched-arrival k under))))
      (λ n. absurd (omega (arith, n.0)))
      (timed h))
      (λ h. ⊎_elim
      (λ n. ap (phase_as k) (sym n.0))
      (λ n. phase-input-arrival k under n.1 ∙ sym (phase-input-arrival k best (omega (arith, n.0))))
      (untimed h)
      ∙ sym (ap (λ (z : Phase). earlier z (phase_as k best)) (phase-input-arrival j r h) ∙ earlier-none (phase_as k best)))

  -- with none that stays
  pub under_rest : r.arrival ≤ (best_under cells f times r.arrival).arrival → phase_as j r ≡ earlier (phase_as j r) (phase_as k (best_of cells f times))
  unfolding Near under best best_of
  under_rest l = by_less best.arrival infinite
      (λ g. by_less r.arrival infinite
      (λ h. ⊎_elim
      (λ n. absurd (omega (arith, n.1)))
      (λ n. bounded j r h ∙ sym ((λ i. earlier (bounded j r h i) (bounded k best g i))
      ∙ earlier_tie (matched j r) (matched k best) (matched_present j r) (matched_present k best)
      (omega (arith, n.1, matched-arrival j r, matched-arrival k best))))
      (timed h))
      (λ h. absurd (⊎_elim
      (λ n. omega (arith, ap (λ (z : Best). z.arrival) n.0))
      (λ n. omega (arith, n.0))
      (untimed h))))
      (λ g. phase-end j r ∙ sym (ap (earlier (phase_as j r)) (phase-input-arrival k best g)))
