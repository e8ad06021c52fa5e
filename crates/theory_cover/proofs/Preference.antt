-- The choice by 01's order of preference: the chosen source of an ordered phase is allowed and timed by the rule, and no allowed source whose
-- pins have sources comes before it.
use Rattle.base.specs.{ℕ, suc, ◌+◌, ◌^◌, ◌≤◌, ◌<◌, le_refl, zero-add, arith, ◌≡◌, refl, sym, ◌∙◌, ap, subst, Bool, true, false, not, cond}
use Rattle.base.specs.{◌&&◌, List, [], ◌∷◌, ◌++◌, map, Memᴰ, Memᴰ-head, Memᴰ-tail, T, ltb, ltb→lt, nltb→le, length, get_or}
use Rattle.model.specs.{keep, below, same, orders, cell_at, is_inverter, no_cell, topological_order, var_of, negated, opposite, cuts_of, cut_table}
use Rattle.model.specs.{phase_table, fits, Phases, feeds, latest, absent, earlier, choose, match_phase, cell_matches, cut_matches, cut_phases}
use Rattle.model.specs.{match_phases, inverter_phases, uninverted, chosen, rank, preference, IsMatch, IsInputSource, IsInverting, Allowed, arrival_by}
use Rattle.model.specs.{Distinct, Preferred}
use Rattle.model.specs.Graph.{Graph}
use Rattle.model.specs.declared.Cell.{Cell}
use Rattle.model.specs.declared.Match.{Match}
use Rattle.model.specs.declared.Phase.{Phase}
use Rattle.model.specs.declared.Source.{Source}
use Rattle.model.specs.declared.Source.TheVariants.{Input, Cell as Matched, Inverter as Inverted, Nothing}
use Rattle.theory_graph.specs.AcceptedGraph.{Accepted}
use Rattle.theory_graph.proofs.{map_out, node-input, order-once, along, by_bool}
use Rattle.theory_cover.proofs.PairCovers.{UpTo, short, less, even, up_refl, up_trans, up_head, up_cons, up_not-after, Pairwise}
use Rattle.theory_cover.proofs.PairCovers.{pairwise_append, pairwise_keep, pairwise_map, pairwise_each, below-ascends}
use Rattle.theory_cover.proofs.Matches.{cell_matches_out, cut_matches_out, cut_phases_out, match_phases_out, cut_for, match_tried}
use Rattle.theory_cover.proofs.Matches.{match_phase_in, match_phase_out, inverted_phase, inverter_in, inverter_out}
use Rattle.theory_cover.proofs.CoverFacts.{Straight}
use Rattle.theory_cover.proofs.EarliestArrival.{latest-one, arrival-matched, arrival-inverted, match_uninverted}
use Rattle.theory_cover.proofs.CoverSoundness.{Between, the_first, the_second, earlier-between, choose_in, match_known, match_times, own_fine}
use Rattle.theory_cover.proofs.CoverSoundness.{chosen_fine}
use Rattle.theory_cover.proofs.ChoiceRun.{phases_known, own, chosen_entry, opposite_entry}

-- ---- the first of the earliest is the least, in a list that ascends in rank

-- the phases that have a source ascend in rank
abbrev pub InRank : Phase → Phase → Type 0
InRank p q = absent p.source ≡ false → absent q.source ≡ false → UpTo (rank p.source) (rank q.source)

abbrev pub Ascending : List Phase → Type 0
Ascending = Pairwise InRank

-- a phase that has a source and is not preferred less than another
pub record Least (p w : Phase) : Type 0 where
  pub present : absent p.source ≡ false
  pub up_to : UpTo (preference p) (preference w)

pub least_self : (p : Phase) → absent p.source ≡ false → Least p p
least_self p h = record { present = h; up_to = up_refl (preference p) }

pub least_then : {p q w : Phase} → Least p q → UpTo (preference q) (preference w) → Least p w
least_then a b = record { present = a.present; up_to = up_trans a.up_to b }

first-least : (a b : Phase) → absent a.source ≡ false → Least (earlier a b) a
unfolding earlier preference
first-least a b h = rw h (by_bool (absent b.source) (λ e. rw e (least_self a h)) (λ q. rw q (by_bool (ltb b.arrival a.arrival)
    (λ p. rw p (record { present = q; up_to = less ((rw p at (ltb→lt b.arrival a.arrival)) tt) })) (λ r. rw r (least_self a h)))))

second-least : (a b w : Phase) → Least b w → (absent a.source ≡ false → UpTo (rank a.source) (rank w.source)) → Least (earlier a b) w
unfolding earlier preference
second-least a b w h r = rw h.present (go (absent a.source) refl (ltb b.arrival a.arrival) (nltb→le b.arrival a.arrival))
  where
    go : (x : Bool) → absent a.source ≡ x → (z : Bool) → (T (not z) → a.arrival ≤ b.arrival) → Least (cond x b (cond z b a)) w
    go true e z k = h
    go false e true k = h
    go false e false k = record { present = e; up_to = up_cons (omega (arith, up_head h.up_to, k tt)) (r e) }

pub choose-least : (ws : List Phase) → Ascending ws → (w : Phase) → Memᴰ w ws → absent w.source ≡ false → Least (choose ws) w
unfolding choose
choose-least (x ∷ ws) asc w (Memᴰ-head e) h = subst (Least (earlier x (choose ws))) (sym e) (first-least x (choose ws) (ap (λ (y : Phase). absent y.source) (sym e) ∙ h))
choose-least (x ∷ ws) asc w (Memᴰ-tail m) h = second-least x (choose ws) w (choose-least ws asc.1 w m h) (λ p. asc.0 w m p h)
choose-least [] asc w x3 h = elim x3 [ ]

-- ---- what the choice tries ascends in rank

-- a match that is not preferred less than another
abbrev UpToMatch : Match → Match → Type 0
UpToMatch a b = UpTo (rank (Matched a)) (rank (Matched b))

-- by "cut, cell line, order number, mask, lowest first"
by_cut_lem : (a b : Match) → a.cut < b.cut → UpToMatch a b
unfolding rank
by_cut_lem a b h = even refl (less h)

by_line_lem : (a b : Match) → a.cut ≡ b.cut → a.cell < b.cell → UpToMatch a b
unfolding rank
by_line_lem a b e h = even refl (even e (less h))

cell_matches_ascend : (c : Cell) (line k leaves f : ℕ) → Pairwise UpToMatch (cell_matches c line k leaves f)
unfolding cell_matches rank
cell_matches_ascend c line k leaves f =
    let across : (x y : ℕ) → x < y → (a b : Match) → Memᴰ a (at x) → Memᴰ b (at y) → UpToMatch a b = λ x y h a b m n. rw
    (map_out (one x) (masks x) m).2 (rw (map_out (one y) (masks y) n).2 (even refl (even refl (even refl (less h))))) in
    pairwise_each UpToMatch (λ (a b : ℕ). a < b) at across (λ order.
    pairwise_map UpToMatch (λ (a b : ℕ). a < b) (one order) (λ x y h. even refl (even refl (even refl (even refl (less h)))))
    (masks order) (pairwise_keep (λ (a b : ℕ). a < b) (λ (mask : ℕ). fits c (get_or orders order []) mask leaves f) (below (2 ^ c.pins)) (below-ascends (2 ^ c.pins))))
    (below 24) (below-ascends 24)
  where
    one : ℕ → ℕ → Match
    one order mask = record { cut = k; cell = line; order = order; mask = mask }

    masks : ℕ → List ℕ
    masks order = keep (λ (mask : ℕ). fits c (get_or orders order []) mask leaves f) (below (2 ^ c.pins))

    at : ℕ → List Match
    at order = map (one order) (masks order)

cut_matches_ascend : (cells : List Cell) (line k leaves f : ℕ) → Pairwise UpToMatch (cut_matches cells line k leaves f)
unfolding cut_matches
cut_matches_ascend [] line k leaves f = tt
cut_matches_ascend (c ∷ cs) line k leaves f =
    pairwise_append UpToMatch (cell_matches c line k leaves f) (cut_matches cs (suc line) k leaves f) (cell_matches_ascend c line k leaves f)
    (cut_matches_ascend cs (suc line) k leaves f) (λ a b m n. let p = cell_matches_out c line k leaves f a m in let q = cut_matches_out cs
    (suc line) k leaves f b n in let h : suc line + q.place ≡ b.cell = q.is_place in let s : a.cell ≡ line = p.1 in by_line_lem a b
    (p.0 ∙ sym q.is_cut) (omega arith))

module _ (cells : List Cell) (g : Graph) (known : ℕ → Phases) (v : ℕ) (neg : Bool) where
  -- the phases of two matches that have sources are ranked as the matches
  matched-rank : (c d : List ℕ) (a b : Match) → UpToMatch a b → absent (match_phase cells known c a).source ≡ false → absent (match_phase cells known d b).source ≡ false
      → UpTo (rank (match_phase cells known c a).source) (rank (match_phase cells known d b).source)
  matched-rank c d a b h p q = rw (match_phase_out cells known c a p).1 (rw (match_phase_out cells known d b q).1 h)

  pub match_phases_ascend : (first : ℕ) (cuts : List (List ℕ)) → Ascending (match_phases cells g known v neg first cuts)
  unfolding match_phases
  match_phases_ascend first [] = tt
  match_phases_ascend first (cut ∷ cuts) = pairwise_append InRank (cut_phases cells g known v neg first cut)
      (match_phases cells g known v neg (suc first) cuts) (unfold cut_phases in let found = cut_matches cells 0 first (length cut)
      (phase_table neg (cut_table g cut v)) in by_bool (same cut (v ∷ [])) (λ e. rw e tt) (λ q. rw q (pairwise_map InRank UpToMatch
      (match_phase cells known cut) (λ a b h. matched-rank cut cut a b h) found
      (cut_matches_ascend cells 0 first (length cut) (phase_table neg (cut_table g cut v)))))) (match_phases_ascend
      (suc first) cuts) (λ x y m n.
      let p = (cut_phases_out cells g known v neg first cut x m).1 in let q = match_phases_out cells g known v neg (suc first) cuts y n in
      let a : p.0.cut ≡ first = p.1.is_cut in let b : suc first + q.on_cut.place ≡ q.match.cut = q.on_cut.is_place in rw p.2
      (rw q.is_phase (matched-rank cut (get_or cuts q.on_cut.place []) p.0 q.match (by_cut_lem p.0 q.match (omega arith)))))

inverters_ascend : (cells : List Cell) (first : ℕ) (other : Phase) → Ascending (inverter_phases cells first other)
unfolding inverter_phases rank
inverters_ascend [] first other = tt
inverters_ascend (c ∷ cs) first other = go (is_inverter c && not (absent other.source)) (inverters_ascend cs (suc first) other)
  where
    go : (b : Bool) → Ascending (inverter_phases cs (suc first) other) → Ascending (cond b (inverted_phase c first other ∷ inverter_phases cs (suc first) other) (inverter_phases cs (suc first) other))
    go true later = (
      (λ q m a b.
          let r = inverter_out cs (suc first) other q m in
          subst (λ (w : Phase). UpTo (rank (Inverted first)) (rank w.source)) (sym r.is_phase) (even refl (less (omega arith)))),
      later,
    )
    go false later = later

-- "then a matched cell before the inverter"
pub straight_up : (s : Source) → Straight s → (i : ℕ) → UpTo (rank s) (rank (Inverted i))
unfolding rank
straight_up Input t i = short
straight_up Nothing t i = absurd t
straight_up (Matched m) t i = less (le_refl 1)
straight_up (Inverted c) t i = absurd t

pub joined_ascend : (cells : List Cell) (p other : Phase) → (absent p.source ≡ false → Straight p.source) → Ascending (p ∷ inverter_phases cells 0 other)
joined_ascend cells p other t = (
  (λ q m a b.
      let r = inverter_out cells 0 other q m in
      subst (λ (w : Phase). UpTo (rank p.source) (rank w.source)) (sym r.is_phase) (straight_up p.source (t a) (0 + r.place))),
  inverters_ascend cells 0 other,
)

-- ---- the chosen source is the least

module _ (cells : List Cell) (g : Graph) (once : Distinct (topological_order g)) (pre : List ℕ) (l : ℕ) (post : List ℕ) (e : topological_order g ≡ pre ++ (var_of l ∷ post)) where
  -- phase l and the opposite one without inverters, in the variable's turn
  abbrev mine : Phase
  mine = own cells g pre (var_of l) (negated l)

  abbrev other : Phase
  other = own cells g pre (var_of l) (not (negated l))

  abbrev tries : List Phase
  tries = mine ∷ inverter_phases cells 0 other

  -- source s by the rule
  abbrev ruled : Source → Phase
  ruled s = record { source = s; arrival = arrival_by cells g (λ x. (chosen cells g x).arrival) l s }

  mine_straight : absent mine.source ≡ false → Straight mine.source
  mine_straight h = (own_fine cells g once pre (var_of l) post e l (negated l) refl refl h).1

  tried-least : (w : Phase) → Memᴰ w tries → absent w.source ≡ false → Least (chosen cells g l) w
  tried-least w m h =
      rw (chosen_entry cells g pre (var_of l) post e once l refl) (choose-least tries (joined_ascend cells mine other mine_straight) w m h)

  mine_least : absent mine.source ≡ false → Least (chosen cells g l) mine
  mine_least h = tried-least mine (Memᴰ-head refl) h

  -- "for an input's positive phase its own net"
  own-least : IsInputSource g l → Least (chosen cells g l) (ruled Input)
  unfolding uninverted absent arrival_by feeds latest
  own-least o =
      let is-net : mine ≡ record { source = Input; arrival = g.input_arrival (var_of l) } = ap
      (uninverted cells g (phases_known cells g pre) (var_of l) (cuts_of g (var_of l)) (negated l)) (node-input g (var_of l) once o.is_input)
      ∙ by_bool (negated l) (λ e. rw e (absurd (rw e at o.positive))) (λ q. rw q) in
      subst (Least (chosen cells g l)) is-net (mine_least (ap (λ (p : Phase). absent p.source) is-net))

  match_least : (m : Match) → IsMatch cells g l m → ((x : ℕ) → Memᴰ x (feeds cells (cuts_of g) l (Matched m)) → absent (chosen cells g x).source ≡ false)
      → Least (chosen cells g l) (ruled (Matched m))
  unfolding feeds absent
  match_least m h pins =
      let by = choose-least tried (match_phases_ascend cells g known (var_of l) (negated l) 0 (cuts_of g (var_of l))) (ruled (Matched m))
      (subst (λ (p : Phase). Memᴰ p tried) by_rule (match_tried cells g known l m h)) refl in
      least_then (mine_least (rw best by.present)) (rw best by.up_to)
    where
      known : ℕ → Phases
      known = phases_known cells g pre

      tried : List Phase
      tried = match_phases cells g known (var_of l) (negated l) 0 (cuts_of g (var_of l))

      best : mine ≡ choose tried
      best = match_uninverted cells g once pre l post e m h known

      by_rule : match_phase cells known (cut_for g l m) m ≡ ruled (Matched m)
      by_rule = cc (
        match_phase_in cells known (cut_for g l m) m (λ x i.
            ap (λ (p : Phase). absent p.source) (sym (match_known cells g once pre l post e m h x i))
            ∙ pins x i),
        match_times cells g once pre l post e m h,
        arrival-matched cells g (λ x. (chosen cells g x).arrival) l m,
      )

  -- the opposite phase keeps its own source, or has an inverter that this phase feeds
  inverter-least : (i : ℕ) → IsInverting cells i → absent (chosen cells g (opposite l)).source ≡ false → Least (chosen cells g l) (ruled (Inverted i))
  unfolding choose absent cell_at preference
  inverter-least i h pin =
      let entry = opposite_entry cells g pre (var_of l) post e once l refl in
      go (earlier other inv) (earlier-between other inv (cc entry)) entry (cc entry)
    where
      inv : Phase
      inv = choose (inverter_phases cells 0 mine)

      time : (w : Phase) → chosen cells g (opposite l) ≡ w → w.arrival + get_or (get_or cells i no_cell).delays 0 0 ≡ (ruled (Inverted i)).arrival
      time w q = cc (latest-one w.arrival (get_or cells i no_cell).delays, arrival-inverted cells g (λ x. (chosen cells g x).arrival) l i)

      go : (w : Phase) → Between other inv w → chosen cells g (opposite l) ≡ w → absent w.source ≡ false → Least (chosen cells g l) (ruled (Inverted i))
      go w (the_first a) q k = rw (← time other q) (tried-least (inverted_phase (get_or cells i no_cell) i other)
          (Memᴰ-tail (inverter_in cells 0 i i other (zero-add i) h.has_cell h.inverts a)) refl)
      go w (the_second a) q k =
          let r = inverter_out cells 0 mine inv (choose_in (inverter_phases cells 0 mine) k) in
          least_then (mine_least r.present) (up_cons (omega (arith, ap (λ (p : Phase). p.arrival) r.is_phase, time inv q))
          (straight_up mine.source (mine_straight r.present) i))

  source-least : (s : Source) → Allowed cells g l s → ((x : ℕ) → Memᴰ x (feeds cells (cuts_of g) l s) → absent (chosen cells g x).source ≡ false)
      → Least (chosen cells g l) (ruled s)
  unfolding feeds
  source-least Input a pins = own-least a
  source-least Nothing a pins = absurd a
  source-least (Matched m) a pins = match_least m a pins
  source-least (Inverted i) a pins = inverter-least i a (pins (opposite l) (Memᴰ-head refl))

  preferred-step : Preferred cells g l
  preferred-step = record {
    allowed = λ h. (chosen_fine cells g once l h).0.allowed;
    timed = λ h. (chosen_fine cells g once l h).0.timed;
    first = λ s a pins. let r = source-least s a pins in (r.present, up_not-after r.up_to);
  }

-- the choice of an ordered phase is the first by 01's order of preference
pub choice-preferred : (cells : List Cell) (g : Graph) → Accepted g → (l : ℕ) → Memᴰ (var_of l) (topological_order g) → Preferred cells g l
choice-preferred cells g ok l = along (λ v. (x : ℕ) → var_of x ≡ v → Memᴰ v (topological_order g) → Preferred cells g x) (topological_order g)
    (λ u h x p m. absurd (h m)) (λ pre v post e ih x p m. preferred-step cells g (order-once g ok) pre x post (rw p e)) (var_of l) l refl
