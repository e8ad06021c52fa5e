-- The law of `chosen_up`: what it leaves is `model`'s choice.
--     from-represented           what the matches on a variable's cuts give
--     uninverted-represented         a phase without inverters
--     up_represented             after each step the words have what is known
--     choose_law          the chosen phases
use Rattle.base.specs.{ℕ, zero, suc, ◌+◌, ◌*◌, ◌/◌, ◌≤◌, ◌<◌, arith, ◌≡◌, refl, sym, ap, subst, ◌∙◌, Bool, true, false, cond, List, [], ◌∷◌}
use Rattle.base.specs.{◌++◌, map, Memᴰ, inl, eqb, ltb, length, take, drop, get_or, get_or-eq_default, take-suc, take-length}
use Rattle.base.specs.{drop-cons, drop-length, eqb-true, eqb-false, ltb-true, ltb-false}
use Rattle.model.specs.{any, same, find, run, orders, cell_at, Node, constant, input, undefined, both, node, topological_order, var_of, negated}
use Rattle.model.specs.{cuts_of, cut_table, phase_table, match_nets, Phases, no_phase, no_phases, phase_of, latest, absent, choose, match_phase}
use Rattle.model.specs.{cut_matches, cut_phases, match_phases, uninverted, joined, choices, chosen}
use Rattle.model.specs.Graph.{Graph}
use Rattle.model.specs.declared.Cell.{Cell}
use Rattle.model.specs.declared.Header.{Header}
use Rattle.model.specs.declared.Match.{Match}
use Rattle.model.specs.declared.Phase.{Phase}
use Rattle.model.specs.declared.Source.TheVariants.{Input, Cell as Matched}
use Rattle.theory_graph.proofs.{map_same, get_or_in, order_small, run-split}
use Rattle.theory_cover.proofs.{phase_step}
use Rattle.base_words.specs.{ordered_count, positive_addr, negative_addr, lists_from, leaves_at, function_of, phase_in, phases_at, RepresentsPhases}
use Rattle.base_words.proofs.{phase-none, represented-count, represented-cut}
use Rattle.cells_matching.specs.{MatchTable, Matchable}
use Rattle.cover_choice.specs.{found_on, found_at, found_from, best_at, input_phase, uninverted_of, uninverted_at, chosen_step, chosen_up, Early}
use Rattle.cover_choice.specs.{Unchosen, HeaderOf}
use Rattle.cover_choice.proofs.KeptWords.{PhasesKept, graph-kept, order-kept, cuts-kept}
use Rattle.cover_choice.proofs.NeededMarks.{nets_in}
use Rattle.cover_choice.specs.EnumeratedWords.{RepresentsEnumerated}
use Rattle.cover_choice.proofs.EnumeratedGraph.{ordered-is, leaf_small, slots_in, cuts_in, input-arrival_in}
use Rattle.cover_choice.proofs.NeededPhases.{Covered}
use Rattle.cover_choice.proofs.ChoiceSteps.{step-here, step_other, up_after}

-- ---- a match, with phases that agree on the leaves

matched-same : (cells : List Cell) (p q : ℕ → Phases) (cut : List ℕ) (m : ℕ) → ((u : ℕ) → u ≤ m → p u ≡ q u) → ((j : ℕ) → get_or cut j 0 ≤ m)
    → (x : Match) → match_phase cells p cut x ≡ match_phase cells q cut x
unfolding match_phase match_nets phase_of var_of
matched-same cells p q cut m h inside x =
    let nets : List ℕ = match_nets cells cut x in
    let e : map (phase_of p) nets ≡ map (phase_of q) nets =
    map_same (phase_of p) (phase_of q) nets
    (λ y i. ap (λ (z : Phases). cond (negated y) z.negative z.positive)
    (h (y / 2) (nets_in (cell_at cells x.cell).pins (get_or orders x.order []) x.mask cut m (λ j b. inside (get_or (get_or orders x.order []) j 0)) y i))) in
    λ i. cond (any (λ (z : Phase). absent z.source) (e i)) no_phase
    (record { source = Matched x; arrival = latest (map (λ (z : Phase). z.arrival) (e i)) (cell_at cells x.cell).delays })

-- ---- words that agree with what is known

module _ (cells : List Cell) (g : Graph) (w : List ℕ) (h : RepresentsEnumerated w g) (known : ℕ → Phases) (agree : (u : ℕ) → u ≤ g.size → phases_at w g.size u ≡ known u)
    (v : ℕ) (i : Memᴰ v (topological_order g)) (neg : Bool) where
  small : v ≤ g.size
  small = order_small g h.accepted v i

  module _ (k : ℕ) (b : k < length (cuts_of g v)) where
    inside : (j : ℕ) → get_or (get_or (cuts_of g v) k []) j 0 ≤ g.size
    inside j = go (ltb j (length (get_or (cuts_of g v) k []))) refl
      where
        go : (s : Bool) → ltb j (length (get_or (cuts_of g v) k [])) ≡ s → get_or (get_or (cuts_of g v) k []) j 0 ≤ g.size
        go true q =
            leaf_small g h.accepted v (get_or (cuts_of g v) k []) (get_or_in (cuts_of g v) k [] b) (get_or (get_or (cuts_of g v) k []) j 0)
            (get_or_in (get_or (cuts_of g v) k []) j 0 (ltb-true j (length (get_or (cuts_of g v) k [])) q))
        go false q = omega (arith, get_or-eq_default (get_or (cuts_of g v) k []) 0 (ltb-false j (length (get_or (cuts_of g v) k [])) q))

    at-represented : found_at cells w g.size v neg k ≡ cut_phases cells g known v neg k (get_or (cuts_of g v) k [])
    unfolding found_at found_on cut_phases
    at-represented =
        let c : leaves_at w g.size v k ≡ get_or (cuts_of g v) k [] = represented-cut w g h.cuts v small k b in
        let f : function_of w g.size v k ≡ cut_table g (get_or (cuts_of g v) k []) v = h.cuts.functions v i k b in
        let ls : List ℕ = get_or (cuts_of g v) k [] in
        let xs : List Match = cut_matches cells 0 k (length ls) (phase_table neg (cut_table g ls v)) in
        let e : map (match_phase cells (phases_at w g.size) ls) xs ≡ map (match_phase cells known ls) xs =
        map_same (match_phase cells (phases_at w g.size) ls) (match_phase cells known ls) xs
        (λ x j. matched-same cells (phases_at w g.size) known ls g.size agree inside x) in
        (λ j. cond (same (c j) (v ∷ [])) []
        (map (match_phase cells (phases_at w g.size) (c j)) (cut_matches cells 0 k (length (c j)) (phase_table neg (f j)))))
        ∙ (λ j. cond (same ls (v ∷ [])) [] (e j))

  from-represented : (n k : ℕ) → k + n ≡ length (cuts_of g v) → found_from cells w g.size v neg k n ≡ match_phases cells g known v neg k (drop k (cuts_of g v))
  unfolding found_from match_phases
  from-represented zero k e =
      let s : k ≡ length (cuts_of g v) = omega arith in
      sym (ap (match_phases cells g known v neg k) (ap (λ (j : ℕ). drop j (cuts_of g v)) s ∙ drop-length (cuts_of g v)))
  from-represented (suc n) k e =
      let b : k < length (cuts_of g v) = omega arith in
      let one = at-represented k b in
      let rest = from-represented n (suc k) (omega arith) in
      (λ j. one j ++ rest j) ∙ sym (ap (match_phases cells g known v neg k) (drop-cons (cuts_of g v) k [] b))

  best_represented : best_at cells w g.size v neg ≡ choose (match_phases cells g known v neg 0 (cuts_of g v))
  unfolding best_at
  best_represented =
      ap (λ (n : ℕ). choose (found_from cells w g.size v neg 0 n)) (represented-count w g h.cuts v small) ∙ ap choose (from-represented (length (cuts_of g v)) 0 (omega arith))

  of_represented : (n : Node) → uninverted_of cells w g.size v neg n ≡ uninverted cells g known v (cuts_of g v) neg n
  unfolding uninverted_of uninverted input_phase
  of_represented constant = best_represented
  of_represented input = ap (λ (t : ℕ). cond neg no_phase (record { source = Input; arrival = t })) (h.graph.input_arrival v small)
  of_represented undefined = refl
  of_represented (both l r) = best_represented

  pub uninverted-represented : uninverted_at cells w g.size v neg ≡ uninverted cells g known v (cuts_of g v) neg (node g v)
  unfolding uninverted_at
  uninverted-represented = ap (uninverted_of cells w g.size v neg) (h.graph.nodes v small) ∙ of_represented (node g v)

-- ---- after each step

-- no phase is chosen yet
abbrev pub NonePicked : List ℕ → ℕ → Type 0
NonePicked w m = (i : ℕ) → positive_addr m 0 ≤ i → i < lists_from m → get_or w i 0 ≡ 0

pub none_yet : (w : List ℕ) (m : ℕ) → NonePicked w m → (u : ℕ) → u ≤ m → phases_at w m u ≡ no_phases
unfolding no_phases
none_yet w m z u h =
    let p : phase_in w (positive_addr m u) ≡ no_phase = phase-none w (positive_addr m u) (λ k b. z (positive_addr m u + k) (omega arith) (omega arith)) in
    let n : phase_in w (negative_addr m u) ≡ no_phase = phase-none w (negative_addr m u) (λ k b. z (negative_addr m u + k) (omega arith) (omega arith)) in
    λ i. record { positive = p i; negative = n i }

represented-kept : (g : Graph) (v w : List ℕ) → PhasesKept g.size v w → RepresentsEnumerated v g → RepresentsEnumerated w g
represented-kept g v w k h =
    let a : ℕ = positive_addr g.size 0 in
    let b : ℕ = lists_from g.size in
    record {
      accepted = h.accepted;
      free = h.free;
      soon = h.soon;
      graph = graph-kept g a b v w k (omega arith) (omega arith) (inl (omega arith)) h.graph;
      order = order-kept g a b v w k (omega arith) (omega arith) h.accepted h.order;
      cuts = cuts-kept g a b v w k (omega arith) (omega arith) h.accepted h.free h.cuts;
    }

module _ (cells : List Cell) (us : Matchable cells) (g : Graph) (w : List ℕ) (h : RepresentsEnumerated w g) (z : NonePicked w g.size) where
  pub unchosen : Unchosen w g.size (length (topological_order g))
  unfolding phase_of no_phases no_phase var_of
  unchosen =
      record {
        slots = slots_in w g h;
        cuts = cuts_in w g h;
        input_arrival = input-arrival_in w g h;
        early =
            record {
              early =
                  λ l b.
                  subst (λ (p : Phases). (cond (negated l) p.negative p.positive).arrival ≤ 0) (sym (none_yet w g.size z (l / 2) (omega arith))) (none (negated l));
            };
      }
    where
      none : (s : Bool) → (cond s no_phase no_phase).arrival ≤ 0
      none true = omega arith
      none false = omega arith

  -- what is known after i turns
  unfoldable pub sofar : ℕ → List (ℕ × Phases)
  sofar i = run (phase_step cells g) (take i (topological_order g)) []

  sofar_next : (i : ℕ) → i < length (topological_order g)
      → sofar (suc i) ≡ (get_or (topological_order g) i 0, phase_step cells g (sofar i) (get_or (topological_order g) i 0)) ∷ sofar i
  unfolding sofar run
  sofar_next i b =
      ap (λ (vs : List ℕ). run (phase_step cells g) vs []) (take-suc (topological_order g) i 0 b)
      ∙ run-split no_phases (phase_step cells g) (take i (topological_order g)) (get_or (topological_order g) i 0 ∷ []) []

  module _ (i : ℕ) (b : i < length (topological_order g))
      (agree : (u : ℕ) → u ≤ g.size → phases_at (chosen_up cells w g.size i) g.size u ≡ find no_phases u (sofar i)) where
    after : PhasesKept g.size w (chosen_up cells w g.size i) × Early (chosen_up cells w g.size i) g.size (262142 * i)
    after = let a = up_after cells us w g.size (length (topological_order g)) unchosen i (omega arith) in (a.kept, a.early)

    still : RepresentsEnumerated (chosen_up cells w g.size i) g
    still = represented-kept g w (chosen_up cells w g.size i) after.0 h

    step-represented : (u : ℕ) → u ≤ g.size → phases_at (chosen_step cells (chosen_up cells w g.size i) g.size (get_or (topological_order g) i 0)) g.size u
        ≡ find no_phases u ((get_or (topological_order g) i 0, phase_step cells g (sofar i) (get_or (topological_order g) i 0)) ∷ sofar i)
    unfolding find
    step-represented u s = go (eqb u v) refl
      where
        v : ℕ
        v = get_or (topological_order g) i 0

        w' : List ℕ
        w' = chosen_up cells w g.size i

        ordered : Memᴰ v (topological_order g)
        ordered = get_or_in (topological_order g) i 0 b

        small_v : v ≤ g.size
        small_v = order_small g h.accepted v ordered

        here : phases_at (chosen_step cells w' g.size v) g.size v ≡ phase_step cells g (sofar i) v
        here =
            let p = uninverted-represented cells g w' still (λ x. find no_phases x (sofar i)) agree v ordered false in
            let n = uninverted-represented cells g w' still (λ x. find no_phases x (sofar i)) agree v ordered true in
            step-here cells us w' g.size (262142 * i) (cuts_in w' g still) (input-arrival_in w' g still) after.1 v small_v ∙ (λ j. joined cells (p j) (n j))

        go : (t : Bool) → eqb u v ≡ t → phases_at (chosen_step cells w' g.size v) g.size u ≡ cond (eqb u v) (phase_step cells g (sofar i) v) (find no_phases u (sofar i))
        go true e =
            ap (phases_at (chosen_step cells w' g.size v) g.size) (eqb-true u v e) ∙ here
            ∙ sym (ap (λ (t : Bool). cond t (phase_step cells g (sofar i) v) (find no_phases u (sofar i))) e)
        go false e =
            step_other cells us w' g.size (262142 * i) (cuts_in w' g still) (input-arrival_in w' g still) after.1 v small_v u s (eqb-false u v e) ∙ agree u s
            ∙ sym (ap (λ (t : Bool). cond t (phase_step cells g (sofar i) v) (find no_phases u (sofar i))) e)

  pub up_represented : (i : ℕ) → i ≤ length (topological_order g) → (u : ℕ) → u ≤ g.size → phases_at (chosen_up cells w g.size i) g.size u ≡ find no_phases u (sofar i)
  unfolding chosen_up find sofar run
  up_represented zero b u s = none_yet w g.size z u s
  up_represented (suc i) b u s =
      let agree = up_represented i (omega arith) in
      let w' : List ℕ = chosen_up cells w g.size i in
      ap (λ (x : ℕ). phases_at (chosen_step cells w' g.size x) g.size u) ((still i b agree).order.slots i b)
      ∙ step-represented i b agree u s
      ∙ sym (ap (find no_phases u) (sofar_next i b))

  phases-represented : RepresentsPhases (chosen_up cells w g.size (length (topological_order g))) cells g
  unfolding chosen choices cuts_of phase_of sofar var_of
  phases-represented =
      record {
        phases =
            λ l b.
            ap (λ (p : Phases). cond (negated l) p.negative p.positive)
            (up_represented (length (topological_order g)) (omega arith) (l / 2) (omega arith)
            ∙ ap (λ (vs : List ℕ). find no_phases (l / 2) (run (phase_step cells g) vs [])) (take-length (topological_order g)));
      }

  up_all : PhasesKept g.size w (chosen_up cells w g.size (length (topological_order g)))
  up_all = (up_after cells us w g.size (length (topological_order g)) unchosen (length (topological_order g)) (omega arith)).kept

-- ---- the law

-- what the choice leaves of words v: the chosen phases, and all other words as they were
pub record ChosenFrom (v w : List ℕ) (cells : List Cell) (g : Graph) : Type 0 where
  pub covered : Covered w cells g
  pub kept : PhasesKept g.size v w

pub choose_law : (w : List ℕ) (cells : List Cell) (h : Header) (g : Graph) → HeaderOf h g → RepresentsEnumerated w g → Matchable cells → NonePicked w g.size
    → ChosenFrom w (chosen_up cells w h.size (ordered_count h)) cells g
choose_law w cells h g e k u z =
    subst (λ (x : List ℕ). ChosenFrom w x cells g)
    (sym (λ i. chosen_up cells w (e.size i) (ordered-is h g e k.accepted i)))
    (record {
      covered = record { represented = represented-kept g w (chosen_up cells w g.size (length (topological_order g))) (up_all cells u g w k z) k; in_bounds = u; phases = phases-represented cells u g w k z };
      kept = up_all cells u g w k z;
    })

-- what is asked of the words before the choice
pub choose_asked : (w : List ℕ) (cells : List Cell) (h : Header) (g : Graph) → HeaderOf h g → RepresentsEnumerated w g → (matches : List ℕ) → MatchTable cells matches → NonePicked w g.size
    → MatchTable cells matches × Unchosen w h.size (ordered_count h)
choose_asked w cells h g e k matches b z = (b, rw (e.size, ordered-is h g e k.accepted) (unchosen cells b.matchable g w k z))
