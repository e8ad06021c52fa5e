-- What the matches on a cut give, as the code finds it:
--     few-leaves, table-..        a cut has at most four leaves, and a table fits in either phase
--     on_best, on_none            the best of the bucket of its function, or none where the bucket is empty
--     at-is_trivial, at_cut_lem            nothing on the variable alone
--     from_more, from-none        one cut more, from the first to the last
use Rattle.base.specs.{ℕ, zero, suc, ◌+◌, ◌≤◌, ◌<◌, add-zero, zero-add, add-suc, suc-add, add-one, arith, ◌≡◌, refl, sym, ap, ◌∙◌, Bool}
use Rattle.base.specs.{true, false, cond, List, [], ◌∷◌, ◌++◌, append-nil, append_assoc, length, get_or, length-take}
use Rattle.model.specs.{same, phase_table, no_phase, choose, earlier}
use Rattle.model.specs.declared.Cell.{Cell}
use Rattle.model.specs.declared.Phase.{Phase}
use Rattle.base_words.specs.{count_at, cut_of, leaves_at, function_of, phases_at}
use Rattle.base_words.proofs.{four-leaves}
use Rattle.cells_matching.specs.{MatchTable, is_listed, last_time, unmatched, best_of, phase_as}
use Rattle.cells_matching.proofs.{choose_append, phase-input-arrival, walking_none, best_match_chosen}
use Rattle.cover_choice.specs.{times_at, found_on, found_at, found_from, best_at, Early}
use Rattle.cover_choice.proofs.LeafTimes.{times_of_lem, times_quick}

pub few-leaves : (w : List ℕ) (m v k : ℕ) → length (leaves_at w m v k) ≤ 4
few-leaves w m v k = omega (arith, length-take (cut_of w m v k).count (cut_of w m v k).leaves, four-leaves w m v k)

pub table-small : (f : ℕ) → phase_table true f < 65536
unfolding phase_table
table-small f = omega arith

pub table-straight : (f : ℕ) → phase_table false f ≡ f
unfolding phase_table
table-straight f = refl

module _ (cells : List Cell) (matches : List ℕ) (h : MatchTable cells matches) (w : List ℕ) (m t : ℕ) (e : Early w m t) (small : t ≤ last_time)
    (cut : List ℕ) (few : length cut ≤ 4) (inside : (j : ℕ) → j < length cut → get_or cut j 0 ≤ m) (k f : ℕ) (table : f < 65536) where
  pub on_best : phase_as k (best_of cells f (times_at w m cut)) ≡ choose (found_on cells w m k cut f)
  unfolding found_on
  on_best = best_match_chosen cells (phases_at w m) cut (times_at w m cut) k f h.matchable table (times_of_lem w m cut few) (times_quick w m cut t e small inside)

  pub on_none : is_listed matches f ≡ false → no_phase ≡ choose (found_on cells w m k cut f)
  on_none z =
      sym (phase-input-arrival k unmatched (omega arith))
      ∙ ap (phase_as k) (walking_none cells matches f (times_at w m cut) h table z)
      ∙ on_best

module _ (cells : List Cell) (w : List ℕ) (m v : ℕ) (neg : Bool) where
  pub at-is_trivial : (k : ℕ) → same (leaves_at w m v k) (v ∷ []) ≡ true → no_phase ≡ choose (found_at cells w m v neg k)
  unfolding found_at choose
  at-is_trivial k e = sym (ap (λ (b : Bool). choose (cond b [] (found_on cells w m k (leaves_at w m v k) (phase_table neg (function_of w m v k))))) e)

  pub at_cut_lem : (k : ℕ) → same (leaves_at w m v k) (v ∷ []) ≡ false
      → choose (found_on cells w m k (leaves_at w m v k) (phase_table neg (function_of w m v k))) ≡ choose (found_at cells w m v neg k)
  unfolding found_at
  at_cut_lem k e = sym (ap (λ (b : Bool). choose (cond b [] (found_on cells w m k (leaves_at w m v k) (phase_table neg (function_of w m v k))))) e)

  -- the cuts below number k
  pub from-none : no_phase ≡ choose (found_from cells w m v neg 0 0)
  unfolding found_from choose
  from-none = refl

  from_last : (n i : ℕ) → found_from cells w m v neg i (suc n) ≡ found_from cells w m v neg i n ++ found_at cells w m v neg (i + n)
  unfolding found_from
  from_last zero i = append-nil (found_at cells w m v neg i) ∙ ap (found_at cells w m v neg) (sym (add-zero i))
  from_last (suc n) i =
      let e : suc i + n ≡ i + suc n = suc-add i n ∙ sym (add-suc i n) in
      ap (λ (l : List Phase). found_at cells w m v neg i ++ l) (from_last n (suc i) ∙ ap (λ (k : ℕ). found_from cells w m v neg (suc i) n ++ found_at cells w m v neg k) e)
      ∙ sym (append_assoc (found_at cells w m v neg i) (found_from cells w m v neg (suc i) n) (found_at cells w m v neg (i + suc n)))

  pub from_more : (k : ℕ)
      → earlier (choose (found_from cells w m v neg 0 k)) (choose (found_at cells w m v neg k)) ≡ choose (found_from cells w m v neg 0 (k + 1))
  from_more k =
      sym (ap (λ (n : ℕ). choose (found_from cells w m v neg 0 n)) (add-one k)
      ∙ ap choose (from_last k 0 ∙ ap (λ (i : ℕ). found_from cells w m v neg 0 k ++ found_at cells w m v neg i) (zero-add k))
      ∙ choose_append (found_from cells w m v neg 0 k) (found_at cells w m v neg k))

  pub from_all : (k : ℕ) → k ≡ count_at w m v → choose (found_from cells w m v neg 0 k) ≡ best_at cells w m v neg
  unfolding best_at
  from_all k e = ap (λ (n : ℕ). choose (found_from cells w m v neg 0 n)) e
