-- Of every cover: what feeds a phase without an inverter is ordered before it, so a statement can be proved along what feeds; and a cover has
-- arrivals by the rule, and on the phases that it needs no others. The order of ordering has no number twice: that is all that is asked of the
-- graph here.
use Rattle.base.specs.{ℕ, zero, suc, ◌+◌, ◌*◌, ◌≤◌, not-suc-le-zero, arith, ◌≡◌, refl, sym, ◌∙◌, ap, subst, List, [], ◌∷◌, ◌++◌, map}
use Rattle.base.specs.{append_assoc, Memᴰ, Memᴰ-head, Memᴰ-tail, Memᴰ-not-nil, Memᴰ-eq_of_singleton}
use Rattle.base.specs.{Memᴰ-append_left, Memᴰ-cast, length}
use Rattle.model.specs.{find, order_from, topological_order, var_of, negated, opposite, node_cuts, cuts_of, feeds, cell_of, latest, IsMatch, IsInputSource}
use Rattle.model.specs.{Allowed, Needed, fed, directly, through, arrival_by, Distinct, Timed}
use Rattle.model.specs.Graph.{Graph}
use Rattle.model.specs.Cover.{Cover}
use Rattle.model.specs.declared.Cell.{Cell}
use Rattle.model.specs.declared.Source.{Source}
use Rattle.model.specs.declared.Source.TheVariants.{Input, Cell as Matched, Inverter as Inverted, Nothing}
use Rattle.theory_graph.proofs.{by_eqb, map_same, opposite-var, opposite_neg, opposite-back, along, node-input, cuts_known, cuts_entry}
use Rattle.theory_graph.proofs.{cuts-none, leaves-before, by_bool, by_nat}
use Rattle.theory_cover.proofs.Matches.{cut_for, cut-listed, matched_leaf}

-- a source that is no inverter
abbrev pub Straight : Source → Type 0
Straight Input = Unit {0}
Straight Nothing = ⊥
Straight (Matched m) = Unit {0}
Straight (Inverted c) = ⊥

module _ (cells : List Cell) (g : Graph) (once : Distinct (topological_order g)) (outs : List ℕ) (c : Cover cells g outs) where
  abbrev Needs : ℕ → Type 0
  Needs l = Needed cells g outs c.source l

  -- the phase that an inverter is fed by has no inverter itself: "No circle"
  pub fed-straight : (l i : ℕ) → Needs l → c.source l ≡ Inverted i → Needs (opposite l) × Straight (c.source (opposite l))
  unfolding feeds
  fed-straight l i n e = (n', go (c.source (opposite l)) refl)
    where
      feeding : Memᴰ (opposite l) (feeds cells (cuts_of g) l (c.source l))
      feeding = subst (λ (s : Source). Memᴰ (opposite l) (feeds cells (cuts_of g) l s)) (sym e) (Memᴰ-head refl)

      n' : Needs (opposite l)
      n' = fed n feeding

      go : (s : Source) → c.source (opposite l) ≡ s → Straight s
      go Input h = tt
      go Nothing h = subst (λ (s : Source). Allowed cells g (opposite l) s) h (c.allowed (opposite l) n')
      go (Matched m) h = tt
      go (Inverted j) h = absurd (c.no_cycle l n (through (directly (rw h (Memᴰ-head (sym (opposite-back l))))) feeding))

  -- what is never ordered has no source but inverters
  unordered-straight : (l : ℕ) → ¬ Memᴰ (var_of l) (topological_order g) → Needs l → ¬ Straight (c.source l)
  unfolding topological_order
  unordered-straight l h n = go (c.source l) refl
    where
      go : (s : Source) → c.source l ≡ s → ¬ Straight s
      go Input s t = h (Memᴰ-tail
          (Memᴰ-append_left (order_from (length g.ands) g.ands (0 ∷ g.inputs)) (subst (Allowed cells g l) s (c.allowed l n)).is_input))
      go Nothing s t = t
      go (Matched m) s t = Memᴰ-not-nil (rw (cuts-none g (var_of l) h) at (cut-listed cells g l m (rw s at (c.allowed l n))))
      go (Inverted i) s t = t

  pub unordered_never : (l : ℕ) → ¬ Memᴰ (var_of l) (topological_order g) → ¬ Needs l
  unordered_never l h n = go (c.source l) refl
    where
      go : (s : Source) → c.source l ≡ s → ⊥
      go Input s = unordered-straight l h n (subst Straight (sym s) tt)
      go Nothing s = subst (Allowed cells g l) s (c.allowed l n)
      go (Matched m) s = unordered-straight l h n (subst Straight (sym s) tt)
      go (Inverted i) s =
          let f = fed-straight l i n s in
          unordered-straight (opposite l) (λ m. h (Memᴰ-cast (sym (opposite-var l)) m)) f.0 f.1

  -- ---- inputs' own nets

  -- an input has only the cut of it alone
  input-cut : (v : ℕ) → Memᴰ v g.inputs → (d : List ℕ) → Memᴰ d (cuts_of g v) → d ≡ v ∷ []
  unfolding node_cuts
  input-cut = along (λ u. Memᴰ u g.inputs → (d : List ℕ) → Memᴰ d (cuts_of g u) → d ≡ u ∷ []) (topological_order g)
      (λ u h i d m. absurd (Memᴰ-not-nil (rw (cuts-none g u h) at m))) (λ pre u post e _ i d m. Memᴰ-eq_of_singleton
      (rw (cuts_entry g pre u post e once ∙ ap (node_cuts (λ w. find [] w (cuts_known g pre)) u) (node-input g u once i)) at m))

  straight-input : (l : ℕ) → Memᴰ (var_of l) g.inputs → Needs l → Straight (c.source l) → c.source l ≡ Input
  straight-input l i n = go (c.source l) refl
    where
      go : (s : Source) → c.source l ≡ s → Straight s → s ≡ Input
      go Input s t = refl
      go Nothing s t = absurd t
      go (Matched m) s t =
          let k : IsMatch cells g l m = subst (Allowed cells g l) s (c.allowed l n) in
          absurd (k.nontrivial (input-cut (var_of l) i (cut_for g l m) (cut-listed cells g l m k)))
      go (Inverted j) s t = absurd t

  -- no cover has another source for an input's positive phase than its own net: it has no match, and two inverters are a cycle
  pub own-only : (l : ℕ) → IsInputSource g l → Needs l → c.source l ≡ Input
  own-only l o n = go (c.source l) refl
    where
      go : (s : Source) → c.source l ≡ s → c.source l ≡ Input
      go Input s = s
      go Nothing s = absurd (subst (Allowed cells g l) s (c.allowed l n))
      go (Matched m) s = straight-input l o.is_input n (subst Straight (sym s) tt)
      go (Inverted i) s =
          let f = fed-straight l i n s in
          let e : c.source (opposite l) ≡ Input = straight-input (opposite l) (Memᴰ-cast (opposite-var l) o.is_input) f.0 f.1 in
          let p : IsInputSource g (opposite l) = rw e at (c.allowed (opposite l) f.0) in
          absurd (by_bool (negated l) (λ e. rw e at o.positive) (λ q. rw q at (rw (opposite_neg l) at p.positive)))

  -- ---- what feeds a phase

  -- what feeds a phase without an inverter is ordered before its variable
  feeds-before : (pre : List ℕ) (v : ℕ) (post : List ℕ) → topological_order g ≡ pre ++ (v ∷ post) → (l : ℕ) → var_of l ≡ v → Needs l → Straight (c.source l)
      → (x : ℕ) → Memᴰ x (feeds cells (cuts_of g) l (c.source l)) → ¬ Memᴰ (var_of x) (v ∷ post)
  unfolding feeds
  feeds-before pre v post e l p n t x i = go (c.source l) refl t i
    where
      go : (s : Source) → c.source l ≡ s → Straight s → Memᴰ x (feeds cells (cuts_of g) l s) → ¬ Memᴰ (var_of x) (v ∷ post)
      go Input s u j = absurd (Memᴰ-not-nil j)
      go Nothing s u j = absurd u
      go (Matched m) s u j =
          let k : IsMatch cells g l m = subst (Allowed cells g l) s (c.allowed l n) in
          leaves-before g pre v post e once (cut_for g l m) (subst (λ (w : ℕ). Memᴰ (cut_for g l m) (cuts_of g w)) p (cut-listed cells g l m k))
          (λ a. k.nontrivial (a ∙ ap (λ (w : ℕ). w ∷ []) (sym p))) (var_of x) (matched_leaf cells g l m x k j)
      go (Inverted i) s u j = absurd u

  -- a phase with an inverter is fed by its opposite, which has none
  fed-opposite : (v l i : ℕ) → var_of l ≡ v → Needs l → c.source l ≡ Inverted i → (x : ℕ) → Memᴰ x (feeds cells (cuts_of g) l (c.source l))
      → (var_of x ≡ v) × Needs x × Straight (c.source x)
  unfolding feeds
  fed-opposite v l i p n s x j =
      let q : x ≡ opposite l = Memᴰ-eq_of_singleton (subst (λ (r : Source). Memᴰ x (feeds cells (cuts_of g) l r)) s j) in
      (ap var_of q ∙ opposite-var l ∙ p, fed n j, subst (λ (y : ℕ). Straight (c.source y)) (sym q) (fed-straight l i n s).1)

  -- a phase that a cover needs has no inverter, or is fed by one that has none
  inverted_or_direct : (P : Type 0) (l : ℕ) → Needs l → (Straight (c.source l) → P) → ((i : ℕ) → c.source l ≡ Inverted i → P) → P
  inverted_or_direct P l n straight inverted = go (c.source l) refl
    where
      go : (s : Source) → c.source l ≡ s → P
      go Input s = straight (subst Straight (sym s) tt)
      go Nothing s = absurd (subst (Allowed cells g l) s (c.allowed l n))
      go (Matched m) s = straight (subst Straight (sym s) tt)
      go (Inverted i) s = inverted i s

  -- Induction along what feeds: each phase that a cover needs after those that it is fed by.
  pub by_feeding : (P : ℕ → Type 0) → ((l : ℕ) → Needs l → ((x : ℕ) → Memᴰ x (feeds cells (cuts_of g) l (c.source l)) → P x) → P l) → (l : ℕ) → Needs l → P l
  by_feeding P step l n = along (λ v. (x : ℕ) → var_of x ≡ v → Needs x → P x) (topological_order g)
      (λ u h x p k. absurd (unordered_never x (λ m. h (Memᴰ-cast (sym p) m)) k)) visit (var_of l) l refl n
    where
      visit : (pre : List ℕ) (v : ℕ) (post : List ℕ) → topological_order g ≡ pre ++ (v ∷ post) → ((u : ℕ) → ¬ Memᴰ u (v ∷ post) → (x : ℕ) → var_of x ≡ u → Needs x → P x)
          → (x : ℕ) → var_of x ≡ v → Needs x → P x
      visit pre v post e ih x p k = inverted_or_direct (P x) x k (plain x p k) (λ i s. step x k (λ z j. let o = fed-opposite v x i p k s z j in plain z o.0 o.1 o.2))
        where
          plain : (y : ℕ) → var_of y ≡ v → Needs y → Straight (c.source y) → P y
          plain y q m t = step y m (λ z i. ih (var_of z) (feeds-before pre v post e y q m t z i) z refl (fed m i))

  -- ---- arrivals

  -- the arrivals of the phases that feed a phase decide its own
  same-arrival : (f h : ℕ → ℕ) (l : ℕ) → ((x : ℕ) → Memᴰ x (feeds cells (cuts_of g) l (c.source l)) → f x ≡ h x)
      → arrival_by cells g f l (c.source l) ≡ arrival_by cells g h l (c.source l)
  unfolding arrival_by
  same-arrival f h l e = go (c.source l) e
    where
      by_pins : (s : Source) → ((x : ℕ) → Memᴰ x (feeds cells (cuts_of g) l s) → f x ≡ h x)
          → latest (map f (feeds cells (cuts_of g) l s)) (cell_of cells s).delays ≡ latest (map h (feeds cells (cuts_of g) l s)) (cell_of cells s).delays
      by_pins s k = ap (λ (ts : List ℕ). latest ts (cell_of cells s).delays) (map_same f h (feeds cells (cuts_of g) l s) k)

      go : (s : Source) → ((x : ℕ) → Memᴰ x (feeds cells (cuts_of g) l s) → f x ≡ h x) → arrival_by cells g f l s ≡ arrival_by cells g h l s
      go Input k = refl
      go Nothing k = refl
      go (Matched m) k = by_pins (Matched m) k
      go (Inverted i) k = by_pins (Inverted i) k

  -- by the rule so many times over, from 0
  time : ℕ → ℕ → ℕ
  time zero l = 0
  time (suc k) l = arrival_by cells g (time k) l (c.source l)

  again : (k l : ℕ) → ((x : ℕ) → Memᴰ x (feeds cells (cuts_of g) l (c.source l)) → time k x ≡ time (suc k) x) → time (suc k) l ≡ time (suc (suc k)) l
  unfolding time
  again k l e = same-arrival (time k) (time (suc k)) l e

  -- after two rounds for each of n variables the phases of a variable stay as they are
  Settled : ℕ → ℕ → Type 0
  Settled n u = (l : ℕ) → var_of l ≡ u → Needs l → (k : ℕ) → 2 * n ≤ k → time k l ≡ time (suc k) l

  settled-next : (n : ℕ) (pre : List ℕ) (v : ℕ) (post : List ℕ) → topological_order g ≡ pre ++ (v ∷ post) → ((u : ℕ) → ¬ Memᴰ u (v ∷ post) → Settled n u) → Settled (suc n) v
  unfolding Settled
  settled-next n pre v post e known l p need k h = inverted_or_direct (time k l ≡ time (suc k) l) l need (λ t. plain l p need t k (omega arith)) (λ i s.
      by_nat k (λ q. rw q (absurd (let z : ⊥ = omega (arith, rw q at h) in z))) (λ j r. rw r
      (again j l (λ x m. let o = fed-opposite v l i p need s x m in plain x o.0 o.1 o.2 j (omega (arith, rw r at h))))))
    where
      plain : (y : ℕ) → var_of y ≡ v → Needs y → Straight (c.source y) → (j : ℕ) → suc (2 * n) ≤ j → time j y ≡ time (suc j) y
      plain y q m t zero a = absurd (not-suc-le-zero a)
      plain y q m t (suc j) a = again j y (λ x i. known (var_of x) (feeds-before pre v post e y q m t x i) x refl (fed m i) j (omega arith))

  settle : (n : ℕ) (pre post : List ℕ) → topological_order g ≡ pre ++ post → ((u : ℕ) → ¬ Memᴰ u post → Settled n u) → (u : ℕ) → Settled (n + length post) u
  unfolding Settled
  settle n pre [] e known u l p need k h = known u Memᴰ-not-nil l p need k (omega arith)
  settle n pre (v ∷ post) e known u l p need k h =
      let later : (x : ℕ) → Settled n x → Settled (suc n) x = λ x s y q m j a. s y q m j (omega arith) in
      settle (suc n) (pre ++ (v ∷ [])) post (e ∙ sym (append_assoc pre (v ∷ []) post))
      (λ x d. by_eqb x v (λ s. rw s (settled-next n pre v post e known)) (λ s. later x (known x (not_in s d)))) u l p need k (omega arith)
    where
      not_in : {x : ℕ} → ¬ (x ≡ v) → ¬ Memᴰ x post → ¬ Memᴰ x (v ∷ post)
      not_in a b (Memᴰ-head q) = a q
      not_in a b (Memᴰ-tail m) = b m

  -- a cover has arrivals, on the phases that it needs no others, and at inputs' own nets the inputs'
  pub covers-timed : Timed cells g outs c
  unfolding time Settled arrival_by
  covers-timed =
      let rounds : ℕ = 2 * length (topological_order g) in
      record {
        starts = λ at a l n o. a.timed l n ∙ ap (arrival_by cells g at l) (own-only l o n);
        has = (time rounds, record { timed = λ l n. settle 0 [] (topological_order g) refl (λ u h l p k. absurd (unordered_never l (λ m. h (Memᴰ-cast (sym p) m)) k)) (var_of l) l refl n rounds (omega arith) });
        alone = λ at bt a b. by_feeding (λ l. at l ≡ bt l) (λ l n e. a.timed l n ∙ same-arrival at bt l e ∙ sym (b.timed l n));
      }
