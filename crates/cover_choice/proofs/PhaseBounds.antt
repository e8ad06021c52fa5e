-- Every phase that is chosen has room in the words, and its arrival is bounded by those of its leaves:
--     found-fit           what the matches give
--     uninverted-fit          a phase without inverters: at most one delay more
--     joined-fit          a phase: at most two delays more
use Rattle.base.specs.{ℕ, zero, suc, ◌+◌, ◌/◌, ◌^◌, ◌≤◌, ◌<◌, max-le, arith, ◌≡◌, refl, sym, ap, subst, ◌∙◌, Bool, true, false, cond, ◌&&◌}
use Rattle.base.specs.{List, [], ◌∷◌, map, Memᴰ, Memᴰ-head, Memᴰ-tail, Memᴰ-not-nil, Memᴰ-append_cases, ⊎_elim, T}
use Rattle.base.specs.{ltb, ltb→lt, length, get_or, get_or-eq_default, ltb-true, ltb-false}
use Rattle.model.specs.{cut_limit, any, same, orders, no_cell, cell_at, Node, constant, input, undefined, both, phase_table, places_fit}
use Rattle.model.specs.{rows_agree, fits, match_nets, phase_of, no_phase, latest, absent, earlier, choose, match_phase, cut_matches}
use Rattle.model.specs.{inverter_phases}
use Rattle.model.specs.declared.Cell.{Cell}
use Rattle.model.specs.declared.Match.{Match}
use Rattle.model.specs.declared.Phase.{Phase}
use Rattle.model.specs.declared.Source.TheVariants.{Input, Cell as Matched}
use Rattle.theory_graph.proofs.{map_out}
use Rattle.theory_cover.proofs.{cut_matches_out, inverter_out}
use Rattle.base_words.specs.{count_at, input_arrival_at, node_at, leaves_at, function_of, MatchFits, PhaseFits, phases_at, phase_at}
use Rattle.cells_matching.specs.{Matchable}
use Rattle.cover_choice.specs.{CutsIn, InputArrivalIn, found_on, found_at, found_from, best_at, input_phase, uninverted_of, uninverted_at, Early}
use Rattle.cover_choice.proofs.NeededMarks.{nets_in}

-- a phase has room in the words and comes at t at the latest
pub record Fitting (t : ℕ) (p : Phase) : Type 0 where
  pub fit : PhaseFits p
  pub soon : p.arrival ≤ t

pub none-fits : (t : ℕ) → Fitting t no_phase
unfolding no_phase
none-fits t = record { fit = tt; soon = omega arith }

-- the first of the earliest is one of them, or none
choose-all : (P : Phase → Type 0) → P no_phase → (ps : List Phase) → ((p : Phase) → Memᴰ p ps → P p) → P (choose ps)
unfolding choose earlier
choose-all P n [] h = n
choose-all P n (p ∷ ps) h =
    go (absent p.source) (absent (choose ps).source) (ltb (choose ps).arrival p.arrival) (h p (Memᴰ-head refl)) (choose-all P n ps (λ q i. h q (Memᴰ-tail i)))
  where
    go : (a b c : Bool) → P p → P (choose ps) → P (cond a (choose ps) (cond b p (cond c (choose ps) p)))
    go true b c one rest = rest
    go false true c one rest = one
    go false false true one rest = rest
    go false false false one rest = one

latest-soon : (ts ds : List ℕ) (t : ℕ) → ((x : ℕ) → Memᴰ x ts → x ≤ t) → ((j : ℕ) → get_or ds j 0 < 131072) → latest ts ds ≤ t + 131071
unfolding latest
latest-soon [] ds t h d = omega arith
latest-soon (x ∷ ts) [] t h d =
    let b : x ≤ t = h x (Memᴰ-head refl) in
    max-le (omega arith) (latest-soon ts [] t (λ y i. h y (Memᴰ-tail i)) (λ j. omega arith))
latest-soon (x ∷ ts) (e ∷ ds) t h d =
    let b : x ≤ t = h x (Memᴰ-head refl) in
    let c : e < 131072 = d 0 in
    max-le (omega arith) (latest-soon ts ds t (λ y i. h y (Memᴰ-tail i)) (λ j. d (suc j)))

and_first : (a b : Bool) → T (a && b) → T a
and_first true b t = tt
and_first false b t = t

mask-small : (c : Cell) (places : List ℕ) (mask n f : ℕ) → c.pins ≤ 4 → T (fits c places mask n f) → mask < 16
unfolding fits
mask-small c places mask n f h t =
    let l : mask < 2 ^ c.pins = ltb→lt mask (2 ^ c.pins) (and_first (ltb mask (2 ^ c.pins)) (places_fit c places n && rows_agree c places mask f) t) in
    omega (arith, power c.pins h)
  where
    power : (p : ℕ) → p ≤ 4 → 2 ^ p ≤ 16
    power zero b = omega arith
    power (suc zero) b = omega arith
    power (suc (suc zero)) b = omega arith
    power (suc (suc (suc zero))) b = omega arith
    power (suc (suc (suc (suc zero)))) b = omega arith
    power (suc (suc (suc (suc (suc p))))) b = absurd (omega arith)

module _ (cells : List Cell) (u : Matchable cells) (w : List ℕ) (m t : ℕ) (e : Early w m t) where
  -- ---- one match

  module _ (cut : List ℕ) (inside : (j : ℕ) → get_or cut j 0 ≤ m) where
    nets-early : (x : Match) (y : ℕ) → Memᴰ y (match_nets cells cut x) → (phase_at w m y).arrival ≤ t
    unfolding match_nets
    nets-early x y i =
        let b : y / 2 ≤ m = nets_in (cell_at cells x.cell).pins (get_or orders x.order []) x.mask cut m (λ j h. inside (get_or (get_or orders x.order []) j 0)) y i in
        e.early y (omega arith)

    match_fit : (k f : ℕ) (x : Match) → k < cut_limit → Memᴰ x (cut_matches cells 0 k (length cut) f) → Fitting (t + 131071) (match_phase cells (phases_at w m) cut x)
    unfolding match_phase cell_at
    match_fit k f x h i = go (any (λ (p : Phase). absent p.source) (map (phase_of (phases_at w m)) (match_nets cells cut x)))
      where
        given : Match → Phase
        given y = record { source = Matched y; arrival = latest (map (λ (p : Phase). p.arrival) (map (phase_of (phases_at w m)) (match_nets cells cut y))) (get_or cells y.cell no_cell).delays }

        capacity : MatchFits x
        capacity =
            let o = cut_matches_out cells 0 k (length cut) f x i in
            record {
              cut = omega (arith, o.is_cut);
              cell = omega (arith, o.is_place, o.has_place, u.few);
              order = o.has_order;
              mask = mask-small (get_or cells o.place no_cell) (get_or orders x.order []) x.mask (length cut) f (u.pins o.place) o.agrees;
            }

        times : (y : ℕ) → Memᴰ y (map (λ (p : Phase). p.arrival) (map (phase_of (phases_at w m)) (match_nets cells cut x))) → y ≤ t
        times y j =
            let a = map_out (λ (p : Phase). p.arrival) (map (phase_of (phases_at w m)) (match_nets cells cut x)) j in
            let b = map_out (phase_of (phases_at w m)) (match_nets cells cut x) a.1 in
            subst (λ (z : ℕ). z ≤ t) (sym (a.2 ∙ ap (λ (p : Phase). p.arrival) b.2)) (nets-early x b.0 b.1)

        go : (b : Bool) → Fitting (t + 131071) (cond b no_phase (given x))
        go true = none-fits (t + 131071)
        go false = record { fit = capacity; soon = latest-soon (map (λ (p : Phase). p.arrival) (map (phase_of (phases_at w m)) (match_nets cells cut x))) (get_or cells x.cell no_cell).delays t times (u.delays x.cell) }

    found-fit : (k f : ℕ) → k < cut_limit → (p : Phase) → Memᴰ p (found_on cells w m k cut f) → Fitting (t + 131071) p
    unfolding found_on
    found-fit k f h p i =
        let a = map_out (match_phase cells (phases_at w m) cut) (cut_matches cells 0 k (length cut) f) i in
        subst (Fitting (t + 131071)) (sym a.2) (match_fit k f a.0 h a.1)

  -- ---- the cuts of a variable

  module _ (cuts : CutsIn w m) (input_arrival : InputArrivalIn w m) (v : ℕ) (b : v ≤ m) (neg : Bool) where
    inside : (k : ℕ) → k < count_at w m v → (j : ℕ) → get_or (leaves_at w m v k) j 0 ≤ m
    inside k h j = go (ltb j (length (leaves_at w m v k))) refl
      where
        go : (s : Bool) → ltb j (length (leaves_at w m v k)) ≡ s → get_or (leaves_at w m v k) j 0 ≤ m
        go true q = cuts.within v k j b h (ltb-true j (length (leaves_at w m v k)) q)
        go false q = omega (arith, get_or-eq_default (leaves_at w m v k) 0 (ltb-false j (length (leaves_at w m v k)) q))

    at-fit : (k : ℕ) → k < count_at w m v → (p : Phase) → Memᴰ p (found_at cells w m v neg k) → Fitting (t + 131071) p
    unfolding found_at
    at-fit k h p i = go (same (leaves_at w m v k) (v ∷ [])) i
      where
        few : k < cut_limit
        few = omega (arith, cuts.few v b)

        go : (s : Bool) → Memᴰ p (cond s [] (found_on cells w m k (leaves_at w m v k) (phase_table neg (function_of w m v k)))) → Fitting (t + 131071) p
        go true j = absurd (Memᴰ-not-nil j)
        go false j = found-fit (leaves_at w m v k) (inside k h) k (phase_table neg (function_of w m v k)) few p j

    from-fit : (n k : ℕ) → k + n ≤ count_at w m v → (p : Phase) → Memᴰ p (found_from cells w m v neg k n) → Fitting (t + 131071) p
    unfolding found_from
    from-fit zero k h p i = absurd (Memᴰ-not-nil i)
    from-fit (suc n) k h p i =
        ⊎_elim (λ j. at-fit k (omega arith) p j) (λ j. from-fit n (suc k) (omega arith) p j) (Memᴰ-append_cases (found_at cells w m v neg k) i)

    best_fit : Fitting (t + 131071) (best_at cells w m v neg)
    unfolding best_at
    best_fit =
        choose-all (Fitting (t + 131071)) (none-fits (t + 131071)) (found_from cells w m v neg 0 (count_at w m v))
        (from-fit (count_at w m v) 0 (omega arith))

    input_fit : Fitting (t + 131071) (input_phase w m v neg)
    unfolding input_phase
    input_fit = go neg
      where
        go : (s : Bool) → Fitting (t + 131071) (cond s no_phase (record { source = Input; arrival = input_arrival_at w m v }))
        go true = none-fits (t + 131071)
        go false = record { fit = tt; soon = omega (arith, input_arrival.within v b) }

    of_fit : (n : Node) → Fitting (t + 131071) (uninverted_of cells w m v neg n)
    unfolding uninverted_of
    of_fit constant = best_fit
    of_fit input = input_fit
    of_fit undefined = none-fits (t + 131071)
    of_fit (both l r) = best_fit

    pub uninverted-fit : Fitting (t + 131071) (uninverted_at cells w m v neg)
    unfolding uninverted_at
    uninverted-fit = of_fit (node_at w m v)

-- ---- with inverters

module _ (cells : List Cell) (u : Matchable cells) (t : ℕ) where
  inverter-fit : (p : Phase) → Fitting t p → (q : Phase) → Memᴰ q (inverter_phases cells 0 p) → Fitting (t + 131071) q
  unfolding cell_at
  inverter-fit p f q i =
      let o = inverter_out cells 0 p q i in
      let d : get_or (get_or cells o.place no_cell).delays 0 0 < 131072 = u.delays o.place 0 in
      let s : p.arrival ≤ t = f.soon in
      subst (Fitting (t + 131071)) (sym o.is_phase) (record { fit = omega (arith, o.has_place, u.few); soon = omega arith })

  pub with_fit : (p q : Phase) → Fitting t p → Fitting t q → Fitting (t + 131071) (choose (p ∷ inverter_phases cells 0 q))
  with_fit p q f h = choose-all (Fitting (t + 131071)) (none-fits (t + 131071)) (p ∷ inverter_phases cells 0 q) go
    where
      go : (r : Phase) → Memᴰ r (p ∷ inverter_phases cells 0 q) → Fitting (t + 131071) r
      go r (Memᴰ-head e) = subst (Fitting (t + 131071)) (sym e) (record { fit = f.fit; soon = omega (arith, f.soon) })
      go r (Memᴰ-tail i) = inverter-fit q h r i
