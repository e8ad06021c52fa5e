-- Covers do not know the order of the cell lines: a cover over one library is a cover over any other that holds its cells, with the same
-- needed phases and the same arrivals. So the earliest arrivals agree.
use Rattle.base.specs.{ℕ, zero, suc, ◌≤◌, ◌<◌, le_refl, le_antisymm, lt_of_not-le, dec_le, arith, ◌≡◌, refl, sym, ◌∙◌, ap, subst, ◌↔◌, false}
use Rattle.base.specs.{true≢false, List, [], ◌∷◌, Memᴰ, Memᴰ-head, Memᴰ-tail, Memᴰ-eq_of_singleton, length, get_or}
use Rattle.model.specs.{cell_at, no_cell, var_of, cuts_of, cut_at, orders, fed_nets, match_nets, feeds, cell_of, absent, chosen, Allowed, Needed}
use Rattle.model.specs.{output, fed, Feeds, directly, through, arrival_by, CoverArrivals, EarliestAt, SameCells}
use Rattle.model.specs.Graph.{Graph}
use Rattle.model.specs.Cover.{Cover}
use Rattle.model.specs.declared.Cell.{Cell}
use Rattle.model.specs.declared.Match.{Match}
use Rattle.model.specs.declared.Source.{Source}
use Rattle.model.specs.declared.Source.TheVariants.{Input, Cell as Matched, Inverter as Inverted, Nothing}
use Rattle.theory_graph.specs.AcceptedGraph.{Accepted}
use Rattle.theory_graph.proofs.{get_or_in, order-once, by_bool}
use Rattle.theory_cover.proofs.Demand3.{choice-earliest, covered_present, present_covered}
use Rattle.theory_cover.proofs.CoverSoundness.{chosen-cover, chosen-timed}

-- the line of a cell
pub record LineOf (c : Cell) (cells : List Cell) : Type 0 where
  pub line : ℕ
  pub here : line < length cells
  pub is : get_or cells line no_cell ≡ c

pub line_of_lem : (c : Cell) (cells : List Cell) → Memᴰ c cells → LineOf c cells
line_of_lem c (d ∷ cells) (Memᴰ-head e) = record { line = 0; here = omega arith; is = sym e }
line_of_lem c (d ∷ cells) (Memᴰ-tail m) =
    let r = line_of_lem c cells m in
    record { line = suc r.line; here = let h : r.line < length cells = r.here in omega arith; is = r.is }
line_of_lem c [] x' = elim x' [ ]

past_end_lem : (cells : List Cell) (k : ℕ) → length cells ≤ k → get_or cells k no_cell ≡ no_cell
past_end_lem [] k h = refl
past_end_lem (c ∷ cells) zero h = absurd (omega arith)
past_end_lem (c ∷ cells) (suc k) h = past_end_lem cells k (omega arith)

module _ (cells cells' : List Cell) (held : (c : Cell) → Memᴰ c cells → Memᴰ c cells') where
  -- where the cell of a line stands in the other library
  record Moved (k : ℕ) : Type 0 where
    line : ℕ
    same : cell_at cells' line ≡ cell_at cells k
    here : k < length cells → line < length cells'

  moved : (k : ℕ) → Moved k
  unfolding cell_at
  moved k = elim (dec_le (length cells) k) [
    | yes h ↦ record { line = length cells'; same = past_end_lem cells' (length cells') (le_refl (length cells')) ∙ sym (past_end_lem cells k h); here = λ b. absurd (omega arith) }
    | no h ↦
        let r = line_of_lem (get_or cells k no_cell) cells' (held (get_or cells k no_cell) (get_or_in cells k no_cell (lt_of_not-le h))) in
        record { line = r.line; same = r.is; here = λ b. r.here }
  ]

  match_to : Match → Match
  match_to m = record { cut = m.cut; cell = (moved m.cell).line; order = m.order; mask = m.mask }

  to : Source → Source
  to Input = Input
  to Nothing = Nothing
  to (Matched m) = Matched (match_to m)
  to (Inverted i) = Inverted (moved i).line

  module _ (g : Graph) where
    fed-same : (l : ℕ) (s : Source) → feeds cells' (cuts_of g) l (to s) ≡ feeds cells (cuts_of g) l s
    unfolding feeds to match_to match_nets
    fed-same l Input = refl
    fed-same l Nothing = refl
    fed-same l (Matched m) = ap (λ (c : Cell). fed_nets c.pins (get_or orders m.order []) m.mask (cut_at (cuts_of g) (var_of l) m.cut)) (moved m.cell).same
    fed-same l (Inverted i) = refl

    timed-same : (arrival : ℕ → ℕ) (l : ℕ) (s : Source) → arrival_by cells' g arrival l (to s) ≡ arrival_by cells g arrival l s
    unfolding arrival_by to cell_of match_to
    timed-same arrival l Input = refl
    timed-same arrival l Nothing = refl
    timed-same arrival l (Matched m) = cc (fed-same l (Matched m), (moved m.cell).same)
    timed-same arrival l (Inverted i) = cc (fed-same l (Inverted i), (moved i).same)

    allowed_same : (l : ℕ) (s : Source) → Allowed cells g l s → Allowed cells' g l (to s)
    unfolding to match_to
    allowed_same l Input a = a
    allowed_same l Nothing a = a
    allowed_same l (Matched m) a = record {
      has_cut = a.has_cut;
      nontrivial = a.nontrivial;
      has_cell = (moved m.cell).here a.has_cell;
      has_order = a.has_order;
      agrees = rw (moved m.cell).same a.agrees;
    }
    allowed_same l (Inverted i) a = record { has_cell = (moved i).here a.has_cell; inverts = rw (moved i).same a.inverts }

    module _ (outs : List ℕ) (c : Cover cells g outs) where
      src' : ℕ → Source
      src' l = to (c.source l)

      needed-back : (l : ℕ) → Needed cells' g outs src' l → Needed cells g outs c.source l
      unfolding src'
      needed-back l (output i) = output i
      needed-back x (fed {l = l} n i) = fed (needed-back l n) (subst (λ (fs : List ℕ). Memᴰ x fs) (fed-same l (c.source l)) i)

      needed-on : (l : ℕ) → Needed cells g outs c.source l → Needed cells' g outs src' l
      unfolding src'
      needed-on l (output i) = output i
      needed-on x (fed {l = l} n i) = fed (needed-on l n) (subst (λ (fs : List ℕ). Memᴰ x fs) (sym (fed-same l (c.source l))) i)

      feeds-back : (x l : ℕ) → Feeds cells' g src' x l → Feeds cells g c.source x l
      unfolding src'
      feeds-back x l (directly i) = directly (subst (λ (fs : List ℕ). Memᴰ x fs) (fed-same l (c.source l)) i)
      feeds-back x l (through {y = y} f i) = through (feeds-back x y f) (subst (λ (fs : List ℕ). Memᴰ y fs) (fed-same l (c.source l)) i)

      -- the same cover over the other library
      unfoldable carried : Cover cells' g outs
      unfolding src'
      carried = record {
        source = src';
        allowed = λ l n. allowed_same l (c.source l) (c.allowed l (needed-back l n));
        no_cycle = λ l n f. c.no_cycle l (needed-back l n) (feeds-back l l f);
      }

      carried_needs : (l : ℕ) → Needed cells g outs c.source l → Needed cells' g outs carried.source l
      unfolding carried
      carried_needs = needed-on

      -- with the same arrivals
      carried_times : (at : ℕ → ℕ) → CoverArrivals cells g outs c at → CoverArrivals cells' g outs carried at
      unfolding carried src'
      carried_times at h = record { timed = λ l n. h.timed l (needed-back l n) ∙ sym (timed-same at l (c.source l)) }

-- ---- what two libraries that hold the same cells agree on

earliest-on : (cells cells' : List Cell) (g : Graph) → SameCells cells cells' → (l t : ℕ) → EarliestAt cells g l t → EarliestAt cells' g l t
earliest-on cells cells' g s l t e = record {
  reached =
      let r = e.reached in
      (carried cells cells' (λ c. (s c).0) g (l ∷ []) r.0, r.1, carried_times cells cells' (λ c. (s c).0) g (l ∷ []) r.0 r.1 r.2, r.3);
  least = λ outs c at h n.
      e.least outs (carried cells' cells (λ x. (s x).1) g outs c) at (carried_times cells' cells (λ x. (s x).1) g outs c at h) (carried_needs cells' cells (λ x. (s x).1) g outs c l n);
}

pub swapped : (cells cells' : List Cell) → SameCells cells cells' → SameCells cells' cells
swapped cells cells' s c = ((s c).1, (s c).0)

pub earliest-same : (cells cells' : List Cell) (g : Graph) → SameCells cells cells' → (l t : ℕ) → EarliestAt cells g l t ↔ EarliestAt cells' g l t
earliest-same cells cells' g s l t = (earliest-on cells cells' g s l t, earliest-on cells' cells g (swapped cells cells' s) l t)

module _ (cells cells' : List Cell) (g : Graph) (ok : Accepted g) (s : SameCells cells cells') where
  present_on : (l : ℕ) → absent (chosen cells g l).source ≡ false → absent (chosen cells' g l).source ≡ false
  present_on l h = covered_present cells' g ok l (carried cells cells' (λ c. (s c).0) g (l ∷ []) (present_covered cells g ok l h))

-- the chosen arrival is the earliest
pub chosen-earliest : (cells : List Cell) (g : Graph) → Accepted g → (l : ℕ) → absent (chosen cells g l).source ≡ false → EarliestAt cells g l (chosen cells g l).arrival
unfolding chosen-cover
chosen-earliest cells g ok l h =
    let only : (x : ℕ) → Memᴰ x (l ∷ []) → absent (chosen cells g x).source ≡ false = λ x i. ap (λ (y : ℕ). absent (chosen cells g y).source) (Memᴰ-eq_of_singleton i) ∙ h in
    record {
      reached = (chosen-cover cells g (order-once g ok) (l ∷ []) only, (λ x. (chosen cells g x).arrival), chosen-timed cells g (order-once g ok) (l ∷ []) only, refl);
      least = λ outs c at t n. (choice-earliest cells g ok outs c at t l n).1;
    }

-- there is one earliest arrival
pub earliest-one : (cells : List Cell) (g : Graph) (l t u : ℕ) → EarliestAt cells g l t → EarliestAt cells g l u → t ≡ u
earliest-one cells g l t u a b = le_antisymm (below_it t u a b) (below_it u t b a)
  where
    below_it : (t u : ℕ) → EarliestAt cells g l t → EarliestAt cells g l u → t ≤ u
    below_it t u a b = let r = b.reached in rw (← r.3) (a.least (l ∷ []) r.0 r.1 r.2 (output (Memᴰ-head refl)))

module _ (cells cells' : List Cell) (g : Graph) (ok : Accepted g) (s : SameCells cells cells') where
  pub absent-same : (l : ℕ) → absent (chosen cells g l).source ≡ absent (chosen cells' g l).source
  absent-same l = by_bool (absent (chosen cells g l).source) (λ p. rw p (by_bool (absent (chosen cells' g l).source) (λ q. rw q)
      (λ e. rw e (absurd (true≢false (sym p ∙ present_on cells' cells g ok (swapped cells cells' s) l e)))))) (λ r. rw r (by_bool
      (absent (chosen cells' g l).source) (λ w. rw w (absurd (true≢false (sym w ∙ present_on cells cells' g ok s l r)))) (λ z. rw z)))

  pub arrival-same : (l : ℕ) → absent (chosen cells g l).source ≡ false → (chosen cells g l).arrival ≡ (chosen cells' g l).arrival
  arrival-same l h = earliest-one cells g l (chosen cells g l).arrival (chosen cells' g l).arrival (chosen-earliest cells g ok l h)
      ((earliest-same cells cells' g s l (chosen cells' g l).arrival).1 (chosen-earliest cells' g ok l (sym (absent-same l) ∙ h)))
