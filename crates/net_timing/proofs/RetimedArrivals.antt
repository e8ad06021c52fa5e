-- The law of `retimed_up`: what it leaves is `model`'s minimum arrival of every phase that is chosen a source.
use Rattle.base.specs.{ℕ, zero, suc, ◌+◌, ◌*◌, ◌/◌, ◌%◌, ◌≤◌, ◌<◌, max, arith, ◌≡◌, refl, sym, ap, ap₂, subst, ◌∙◌, Bool, true, false, not}
use Rattle.base.specs.{true≢false, ◌⊎◌, inl, inr, List, [], ◌∷◌, ◌++◌, map, Memᴰ, Memᴰ-head, Memᴰ-tail}
use Rattle.base.specs.{Memᴰ-append_cases, Memᴰ-not-nil, Memᴰ-eq_of_singleton, Memᴰ-append_right, Memᴰ-cast, eqb, length}
use Rattle.base.specs.{get_or, take, drop, take-append-drop, take-suc, take-length, drop-cons, eqb-true, eqb-false}
use Rattle.model.specs.{elem, cell_at, topological_order, var_of, negated, literal, opposite, cuts_of, cut_at, over_limit, match_nets, feeds, cell_of}
use Rattle.model.specs.{latest, absent, chosen, min_arrival_of, Distinct}
use Rattle.model.specs.Graph.{Graph}
use Rattle.model.specs.declared.Cell.{Cell}
use Rattle.model.specs.declared.Phase.{Phase}
use Rattle.model.specs.declared.Source.{Source}
use Rattle.model.specs.declared.Source.TheVariants.{Input, Cell as Matched, Inverter as Inverted, Nothing}
use Rattle.theory_graph.proofs.{elem_in, elem_out, opposite-var, order-once, order_small}
use Rattle.theory_graph.specs.AcceptedGraph.{Accepted}
use Rattle.theory_cover.proofs.{Straight, chosen_none, Present, chosen_fine, straight-before, is_match_lem, time_by, retimed_rule, retimed-below}
use Rattle.base_words.specs.{HasCapacity, lists_to, output_addr, slot_at, input_arrival_at, min_arrival_at, leaves_at, phase_at}
use Rattle.cover_choice.proofs.{kept_same, kept_on, few-cuts}
use Rattle.net_timing.specs.{after, latest_min, match_min, own_min, inverter_min, own_at, retimed_step, retimed_up}
use Rattle.net_timing.proofs.MinDelayLaws.{after_is, latest-represented, MinsKept, kept-capacity, mins-phase, mins-leaves, stored, step_kept}
use Rattle.net_timing.proofs.MinDelayLaws.{step-positive, step-negative, step_other}

-- what the words hold before the pass, and still do in it
pub record Ready (w : List ℕ) (cells : List Cell) (g : Graph) : Type 0 where
  pub capacity : HasCapacity w g.size
  pub slots : (i : ℕ) → i < length (topological_order g) → slot_at w g.size i ≡ get_or (topological_order g) i 0
  pub input_arrival : (v : ℕ) → v ≤ g.size → input_arrival_at w g.size v ≡ g.input_arrival v
  pub cuts : (v : ℕ) → v ≤ g.size → (k : ℕ) → k < length (cuts_of g v) → leaves_at w g.size v k ≡ get_or (cuts_of g v) k []
  pub phases : (l : ℕ) → l ≤ 2 * g.size + 1 → phase_at w g.size l ≡ chosen cells g l

module _ (g : Graph) (ok : Accepted g) (free : over_limit g ≡ []) where
  module _ (cells : List Cell) where
    pub ready-kept : (v w : List ℕ) → MinsKept g.size v w → length (topological_order g) ≤ g.size + 1 → Ready v cells g → Ready w cells g
    ready-kept v w k few r = record {
      capacity = kept-capacity g.size v w k r.capacity;
      slots = λ i h. k.before _ (omega arith) ∙ r.slots i h;
      input_arrival = λ u h. k.before _ (omega arith) ∙ r.input_arrival u h;
      cuts = λ u h n b. mins-leaves g.size v w k u h n (omega (arith, few-cuts g free u)) ∙ r.cuts u h n b;
      phases = λ l h. mins-phase g.size v w k l (omega arith) ∙ r.phases l h;
    }

  module _ (cells : List Cell) (few : length (topological_order g) ≤ g.size + 1) (soon : (l : ℕ) → l ≤ 2 * g.size + 1 → (chosen cells g l).arrival ≤ 1073741823)
      (short : (c j : ℕ) → get_or (cell_at cells c).mins j 0 < 131072)
      (ranged : (l : ℕ) → Present cells g (order-once g ok) l → (j : ℕ) → get_or (cell_of cells (chosen cells g l).source).mins j 0 ≤ get_or (cell_of cells (chosen cells g l).source).delays j 0) where
    abbrev once : Distinct (topological_order g)
    once = order-once g ok

    abbrev src : ℕ → Source
    src l = (chosen cells g l).source

    abbrev min_arrival : ℕ → ℕ
    min_arrival = min_arrival_of cells g

    abbrev Here : ℕ → Type 0
    Here l = Present cells g (order-once g ok) l

    -- a phase that has a source is of an ordered variable
    ordered : (l : ℕ) → Here l → Memᴰ (var_of l) (topological_order g)
    ordered l h = go (elem (var_of l) (topological_order g)) refl
      where
        go : (b : Bool) → elem (var_of l) (topological_order g) ≡ b → Memᴰ (var_of l) (topological_order g)
        go true e = elem_out (var_of l) (topological_order g) e
        go false e = absurd (true≢false (sym (chosen_none cells g l (λ m. true≢false (sym (elem_in (var_of l) (topological_order g) m) ∙ e))) ∙ h))

    small : (l : ℕ) → Here l → l ≤ 2 * g.size + 1
    unfolding var_of
    small l h = let v : l / 2 ≤ g.size = order_small g ok (var_of l) (ordered l h) in omega arith

    -- its minimum arrival is at most its arrival
    min-arrival-soon : (l : ℕ) → Here l → min_arrival l ≤ 1073741823
    unfolding min_arrival_of
    min-arrival-soon l h =
        let b : min_arrival l ≤ (chosen cells g l).arrival = retimed-below cells g once (λ x. (cell_of cells (chosen cells g x).source).mins) ranged l h in
        omega (arith, soon l (small l h))

    rule : (l : ℕ) → Here l → min_arrival l ≡ time_by cells g (cell_of cells (src l)).mins min_arrival l (src l)
    unfolding min_arrival_of
    rule l h = retimed_rule cells g once (λ x. (cell_of cells (chosen cells g x).source).mins) l h

    -- ---- a step

    module _ (w : List ℕ) (r : Ready w cells g) (pre : List ℕ) (v : ℕ) (post : List ℕ) (e : topological_order g ≡ pre ++ (v ∷ post))
        (known : (l : ℕ) → Memᴰ (var_of l) pre → Here l → min_arrival_at w g.size l ≡ min_arrival l) where
      before : (x : ℕ) → Here x → ¬ Memᴰ (var_of x) (v ∷ post) → Memᴰ (var_of x) pre
      before x h n = go (Memᴰ-append_cases pre (subst (λ (vs : List ℕ). Memᴰ (var_of x) vs) e (ordered x h)))
        where
          go : Memᴰ (var_of x) pre ⊎ Memᴰ (var_of x) (v ∷ post) → Memᴰ (var_of x) pre
          go (inl i) = i
          go (inr i) = absurd (n i)

      -- a phase that no inverter drives
      own-represented : (l : ℕ) → var_of l ≡ v → Here l → Straight (src l) → own_at cells w g.size l ≡ min_arrival l
      unfolding own_min match_min time_by feeds var_of cut_at cell_of
      own-represented l p h t =
          ap (λ (q : Phase). own_min cells w g.size l q.source) (r.phases l (small l h))
          ∙ go (src l) refl t ∙ sym (rule l h)
        where
          go : (s : Source) → src l ≡ s → Straight s → own_min cells w g.size l s ≡ time_by cells g (cell_of cells (src l)).mins min_arrival l (src l)
          go Input q u = r.input_arrival (l / 2) (let z = small l h in omega arith) ∙ sym (ap (time_by cells g (cell_of cells (src l)).mins min_arrival l) q)
          go Nothing q u = absurd u
          go (Inverted c) q u = absurd u
          go (Matched x) q u =
              let k = is_match_lem cells g once l x q in
              let z = small l h in
              ap (λ (ls : List ℕ). latest_min w g.size (match_nets cells ls x) (cell_at cells x.cell).mins) (r.cuts (l / 2) (omega arith) x.cut k.has_cut)
              ∙ latest-represented w g.size min_arrival (feeds cells (cuts_of g) l (Matched x)) (cell_at cells x.cell).mins (λ y i.
              let i' : Memᴰ y (feeds cells (cuts_of g) l (src l)) = subst (λ (s : Source). Memᴰ y (feeds cells (cuts_of g) l s)) (sym q) i in
              let here : Here y = (chosen_fine cells g once l h).0.fed_by y i' in
              (known y (before y here (straight-before cells g once pre v post e l p t y i')) here, min-arrival-soon y here)) (short x.cell)
              ∙ ap (λ (s : Source). latest (map min_arrival (feeds cells (cuts_of g) l (Matched x))) (cell_of cells s).mins) (sym q)
              ∙ sym (ap (time_by cells g (cell_of cells (src l)).mins min_arrival l) q)

      -- any phase
      stored-represented : (l : ℕ) → var_of l ≡ v → Here l → inverter_min cells (own_at cells w g.size l) (own_at cells w g.size (opposite l)) (phase_at w g.size l).source ≡ min_arrival l
      unfolding inverter_min time_by feeds cell_of latest absent
      stored-represented l p h = ap (λ (q : Phase). inverter_min cells (own_at cells w g.size l) (own_at cells w g.size (opposite l)) q.source) (r.phases l (small l h)) ∙ go (src l) refl
        where
          max-zero : (t : ℕ) → t ≡ max t 0
          max-zero t = omega arith

          one : (t : ℕ) (ds : List ℕ) → t + get_or ds 0 0 ≡ latest (t ∷ []) ds
          one t [] = (let z : t + 0 ≡ t = omega arith in z) ∙ max-zero t
          one t (d ∷ ds) = max-zero (t + d)

          go : (s : Source) → src l ≡ s → inverter_min cells (own_at cells w g.size l) (own_at cells w g.size (opposite l)) s ≡ min_arrival l
          go Input q = own-represented l p h (subst Straight (sym q) tt)
          go Nothing q = absurd (true≢false (ap absent (sym q) ∙ h))
          go (Matched x) q = own-represented l p h (subst Straight (sym q) tt)
          go (Inverted c) q =
              let here : Here (opposite l) = (chosen_fine cells g once l h).0.fed_by (opposite l) (subst (λ (s : Source). Memᴰ (opposite l) (feeds cells (cuts_of g) l s)) (sym q) (Memᴰ-head refl)) in
              let o = own-represented (opposite l) (opposite-var l ∙ p) here ((chosen_fine cells g once l h).1 c q) in
              ap (λ (t : ℕ). after t (get_or (cell_at cells c).mins 0 0)) o
              ∙ after_is (min_arrival (opposite l)) (get_or (cell_at cells c).mins 0 0) (omega (arith, min-arrival-soon (opposite l) here, short c 0))
              ∙ one (min_arrival (opposite l)) (cell_at cells c).mins
              ∙ ap (λ (s : Source). latest (min_arrival (opposite l) ∷ []) (cell_of cells s).mins) (sym q)
              ∙ sym (ap (time_by cells g (cell_of cells (src l)).mins min_arrival l) q)
              ∙ sym (rule l h)

      inside : v ≤ g.size
      inside = order_small g ok v (subst (λ (vs : List ℕ). Memᴰ v vs) (sym e) (Memᴰ-append_right pre (Memᴰ-head refl)))

      -- both phases are stored, and those of the variables before stay
      step-represented : (l : ℕ) → Memᴰ (var_of l) (pre ++ (v ∷ [])) → Here l → min_arrival_at (retimed_step cells w g.size v) g.size l ≡ min_arrival l
      unfolding var_of opposite negated literal
      step-represented l i h = go (Memᴰ-append_cases pre i)
        where
          apart : (vs : List ℕ) → Distinct (vs ++ (v ∷ post)) → ¬ Memᴰ v vs
          apart [] d m = Memᴰ-not-nil m
          apart (x ∷ vs) d (Memᴰ-head q) = d.0 (Memᴰ-cast (sym q) (Memᴰ-append_right vs (Memᴰ-head refl)))
          apart (x ∷ vs) d (Memᴰ-tail m) = apart vs d.1 m

          this : l / 2 ≡ v → (t : Bool) → eqb (l % 2) 1 ≡ t → min_arrival_at (retimed_step cells w g.size v) g.size l ≡ min_arrival l
          this p true q =
              let is : l ≡ 2 * v + 1 = omega (arith, eqb-true (l % 2) 1 q) in
              let o : opposite l ≡ 2 * v = ap (λ (b : Bool). literal (not b) (l / 2)) q ∙ (let z : 2 * (l / 2) ≡ 2 * v = omega arith in z) in
              ap (min_arrival_at (retimed_step cells w g.size v) g.size) is
              ∙ step-negative cells w g.size v r.capacity inside
              ∙ ap₂ (λ (x y : ℕ). stored cells w g.size v r.capacity inside x y) (sym is) (sym o)
              ∙ stored-represented l p h
          this p false q =
              let n : (l % 2 ≡ 1) → ⊥ = eqb-false (l % 2) 1 q in
              let is : l ≡ 2 * v = omega arith in
              let o : opposite l ≡ 2 * v + 1 = ap (λ (b : Bool). literal (not b) (l / 2)) q ∙ (let z : 2 * (l / 2) + 1 ≡ 2 * v + 1 = omega arith in z) in
              ap (min_arrival_at (retimed_step cells w g.size v) g.size) is
              ∙ step-positive cells w g.size v r.capacity inside
              ∙ ap₂ (λ (x y : ℕ). stored cells w g.size v r.capacity inside x y) (sym is) (sym o)
              ∙ stored-represented l p h

          go : Memᴰ (var_of l) pre ⊎ Memᴰ (var_of l) (v ∷ []) → min_arrival_at (retimed_step cells w g.size v) g.size l ≡ min_arrival l
          go (inl a) = step_other cells w g.size v r.capacity inside l (λ q. apart pre (subst Distinct e once) (Memᴰ-cast (sym q) a)) ∙ known l a h
          go (inr a) = this (Memᴰ-eq_of_singleton a) (eqb (l % 2) 1) refl

    -- ---- all steps

    module _ (w : List ℕ) (r : Ready w cells g) where
      abbrev up : ℕ → List ℕ
      up i = retimed_up cells w g.size i

      up_represented : (i : ℕ) → i ≤ length (topological_order g)
          → MinsKept g.size w (up i) × ((l : ℕ) → Memᴰ (var_of l) (take i (topological_order g)) → Here l → min_arrival_at (up i) g.size l ≡ min_arrival l)
      unfolding retimed_up
      up_represented zero h = (kept_same (lists_to g.size) (output_addr g.size 0) w, λ l m k. absurd (Memᴰ-not-nil m))
      up_represented (suc i) h =
          let ih = up_represented i (omega arith) in
          let v = get_or (topological_order g) i 0 in
          let r' = ready-kept cells w (up i) ih.0 few r in
          let is : slot_at (up i) g.size i ≡ v = r'.slots i h in
          let e : topological_order g ≡ take i (topological_order g) ++ (v ∷ drop (suc i) (topological_order g)) =
          sym (take-append-drop i (topological_order g)) ∙ ap (λ (vs : List ℕ). take i (topological_order g) ++ vs) (drop-cons (topological_order g) i 0 h) in
          let b = inside (up i) r' (take i (topological_order g)) v (drop (suc i) (topological_order g)) e ih.1 in (
            subst (λ (u : ℕ). MinsKept g.size w (retimed_step cells (up i) g.size u)) (sym is)
                (kept_on (lists_to g.size) (output_addr g.size 0) w (up i) (retimed_step cells (up i) g.size v) ih.0 (step_kept cells (up i) g.size v r'.capacity b)),
            (λ l m k.
                ap (λ (u : ℕ). min_arrival_at (retimed_step cells (up i) g.size u) g.size l) is
                ∙ step-represented (up i) r' (take i (topological_order g)) v (drop (suc i) (topological_order g)) e ih.1 l (subst (λ (vs : List ℕ). Memᴰ (var_of l) vs) (take-suc (topological_order g) i 0 h) m) k),
          )

      -- the pass leaves the minimum arrivals, and all words outside theirs
      pub retime_kept : MinsKept g.size w (retimed_up cells w g.size (length (topological_order g)))
      retime_kept = (up_represented (length (topological_order g)) (omega arith)).0

      pub retime_mins : (l : ℕ) → absent (chosen cells g l).source ≡ false → min_arrival_at (retimed_up cells w g.size (length (topological_order g))) g.size l ≡ min_arrival_of cells g l
      retime_mins l h =
          (up_represented (length (topological_order g)) (omega arith)).1 l (subst (λ (vs : List ℕ). Memᴰ (var_of l) vs) (sym (take-length (topological_order g))) (ordered l h)) h
