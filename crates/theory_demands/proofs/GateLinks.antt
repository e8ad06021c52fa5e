-- The gate lines of the printed netlist are the needed phases, inputs' own nets apart, in their order.
use Rattle.base.specs.{ℕ, zero, suc, ◌+◌, ◌*◌, ◌/◌, ◌%◌, ◌≤◌, ◌<◌, arith, ◌≡◌, refl, sym, ◌∙◌, ap, ap₂, subst, inl, inr, Bool, true, false}
use Rattle.base.specs.{not, cond, true≢false, List, [], ◌∷◌, ◌++◌, map, map-append, Memᴰ, Memᴰ-head, Memᴰ-tail, eqb, length}
use Rattle.base.specs.{take, drop}
use Rattle.model.specs.{elem, keep, each, from, below, cell_at, cell_of_pair, pair_at, var_of, negated, absent, chosen, IsInputSource, Net, of_phase}
use Rattle.model.specs.{of_pair, Gate, is_input_source, needed, net_name, label, drives, InOrder, OneLine, TwoLines, LinesOf, none, two, Gated}
use Rattle.model.specs.Graph.{Graph}
use Rattle.model.specs.Demands.{Before, one}
use Rattle.model.specs.declared.Cell.{Cell}
use Rattle.model.specs.declared.Figures.{Figures}
use Rattle.theory_graph.proofs.{keep_out, by_eqb, map-map, from_low, order-once, by_bool}
use Rattle.theory_graph.specs.AcceptedGraph.{Accepted}
use Rattle.theory_cover.proofs.{own-chosen}
use Rattle.theory_text.proofs.{line_of, blif_of}
use Rattle.theory_demands.proofs.RefusalRanks.{OfPair, single, double, Fitting}
use Rattle.theory_demands.proofs.PhaseNets.{map-take, map-drop, map-run, splice-parts, inner_cell, fed_pin, cell_gate, inner_gate}
use Rattle.theory_demands.proofs.PhaseNets.{root_gate, gates_single, gates_double, single_bound, double_long, inner_bound, root-bound}
use Rattle.theory_demands.proofs.ChosenGates.{source_of, number_at, fed_at, NeedsOf, gates_at, chosen_gates, gate_nets, gates_are, Gates}
use Rattle.theory_demands.proofs.ChosenGates.{net_out, of_cell, number_of_lem, own-source}
use Rattle.theory_demands.proofs.PairsFormed.{phase-driven, driven-phase}

-- ---- the order

-- a lower literal is of a lower variable, or the positive one of the same
lower-before : (l k : ℕ) → l < k → Before l k
unfolding var_of negated
lower-before l k h = by_eqb (l / 2) (k / 2) same (λ d. inl (omega arith))
  where
    same : l / 2 ≡ k / 2 → Before l k
    same e = inr (e, ap (λ (r : ℕ). eqb r 1) (let q : l % 2 ≡ 0 = omega arith in q), ap (λ (r : ℕ). eqb r 1) (let q : k % 2 ≡ 1 = omega arith in q))

from-ordered : (n i : ℕ) → InOrder (from i n)
unfolding from
from-ordered zero i = tt
from-ordered (suc n) i = ((λ k m. lower-before i k (from_low n (suc i) k m)), from-ordered n (suc i))

keep-ordered : (p : ℕ → Bool) (xs : List ℕ) → InOrder xs → InOrder (keep p xs)
unfolding keep
keep-ordered p [] h = tt
keep-ordered p (x ∷ xs) h = by_bool (p x) (λ e. rw e ((λ k m. h.0 k (keep_out p xs m).0), (keep-ordered p xs h.1)))
    (λ q. rw q (keep-ordered p xs h.1))

-- the lines of a phase's gates
module _ (listed cells : List Cell) (fit : Fitting listed cells) (k : ℕ) (ins : List ℕ) (l : ℕ) (pins : length ins ≡ (cell_at cells k).pins) where
  abbrev nets : List (List ℕ)
  nets = map net_name ins

  net-names : map label (map of_phase ins) ≡ nets
  unfolding label
  net-names = map-map label of_phase ins

  one_line_lem : k < length listed → cell_at cells k ≡ cell_at listed k → OneLine listed k nets l (line_of (cell_gate listed k ins l))
  unfolding label line_of
  one_line_lem h e =
      let b = (single_bound listed cells fit k ins l pins h e).bound in
      record { is_listed = h; cell = refl; net = b.is_driven; fed = b.is_fed ∙ net-names }

  two-lines : length listed ≤ k → OfPair listed (pair_at listed k) → cell_at cells k ≡ cell_of_pair listed (pair_at listed k)
      → TwoLines listed k nets l (line_of (inner_gate listed k ins l)) (line_of (root_gate listed k ins l))
  unfolding label line_of
  two-lines h p e =
      let b = (inner_bound listed cells fit k ins l pins p e).bound in
      let r = (root-bound listed cells fit k ins l pins p e).bound in
      let c = double_long listed cells fit k ins l pins p e in
      let has_pin = p.has_pin in
      let some = p.some_pin in
      record {
        is_pair = h;
        inner_cell = refl;
        root_cell = refl;
        inner_net = b.is_driven;
        root_net = r.is_driven;
        inner_fed = b.is_fed ∙ map-run label (fed_pin listed k ins l) (inner_cell listed k ins l).pins (map of_phase ins)
            ∙ ap (λ (xs : List (List ℕ)). take (inner_cell listed k ins l).pins (drop (fed_pin listed k ins l) xs)) net-names;
        root_fed = r.is_fed
            ∙ ap (map label) (splice-parts (fed_pin listed k ins l) (inner_cell listed k ins l).pins (λ (_ : List Net). of_pair l) (map of_phase ins) (omega (arith, c, has_pin, some)))
            ∙ map-append label (take (fed_pin listed k ins l) (map of_phase ins)) (of_pair l ∷ drop (fed_pin listed k ins l + (inner_cell listed k ins l).pins) (map of_phase ins))
            ∙ ap₂ (λ (xs ys : List (List ℕ)). xs ++ (label (of_pair l) ∷ ys)) (map-take label (fed_pin listed k ins l) (map of_phase ins))
            (map-drop label (fed_pin listed k ins l + (inner_cell listed k ins l).pins) (map of_phase ins))
            ∙ (ap (λ (xs : List (List ℕ)). take (fed_pin listed k ins l) xs ++ ((115 ∷ net_name l) ∷ drop (fed_pin listed k ins l + (inner_cell listed k ins l).pins) xs)) net-names);
      }

module _ (listed cells : List Cell) (fit : Fitting listed cells) (g : Graph) (ok : Accepted g)
    (present-outputs : (l : ℕ) → Memᴰ l g.outputs → absent (chosen cells g l).source ≡ false) where
  -- an input's own net is chosen for it
  own_is : (l : ℕ) → IsInputSource g l → is_input_source (source_of cells g l) ≡ true
  unfolding is_input_source
  own_is l o = ap is_input_source (own-chosen cells g (order-once g ok) l o)

  abbrev Lines : List ℕ → List Gate → Type 0
  Lines ls ts = LinesOf listed (number_at cells g) (λ l. map net_name (fed_at cells g l)) ls (map line_of ts)

  lines_of : (ls : List ℕ) → ((l : ℕ) → Memᴰ l ls → Gates listed cells fit g ok present-outputs l) → Lines ls (each (gates_at listed cells g) ls)
  unfolding each
  lines_of [] h = none
  lines_of (l ∷ ls) h = elim (number_of_lem listed cells fit g ok present-outputs l q) [
    | single b e ↦ rw (gates_single listed k (fed_at cells g l) l b)
        (one (one_line_lem listed cells fit k (fed_at cells g l) l pins b e) (lines_of ls (λ x m. h x (Memᴰ-tail m))))
    | double p r z ↦ rw (gates_double listed k (fed_at cells g l) l p)
        (two (two-lines listed cells fit k (fed_at cells g l) l pins p r z) (lines_of ls (λ x m. h x (Memᴰ-tail m))))
  ]
    where
      q : Gates listed cells fit g ok present-outputs l
      q = h l (Memᴰ-head refl)

      k : ℕ
      k = number_at cells g l

      pins : length (fed_at cells g l) ≡ (cell_at cells k).pins
      pins = (of_cell listed cells fit g ok present-outputs l q).pins

  pub gates-gated : (f : Figures) → Gated listed cells g f (blif_of g (chosen_gates listed cells g))
  unfolding blif_of
  gates-gated f = record {
    nets = λ l. (
      (λ x. let h = driven-phase listed cells fit g ok present-outputs l x in (h.needs, (λ o. true≢false (sym (own_is l o) ∙ h.not_input_source)))),
      (λ h. is-driven l h.0 h.1),
    );
    order = (
      gate_nets cells g,
      unfold below in keep-ordered (λ (l : ℕ). cond (elem l (needed cells g (chosen cells g))) (not (is_input_source (source_of cells g l))) false)
          (below (2 * suc g.size)) (from-ordered (2 * suc g.size) 0),
      subst (Lines (gate_nets cells g)) (sym (gates_are listed cells g)) (lines_of (gate_nets cells g) (net_out listed cells fit g ok present-outputs)),
    );
  }
    where
      is-driven : (l : ℕ) → NeedsOf cells g l → ¬ IsInputSource g l → Memᴰ (net_name l) (map drives (map line_of (chosen_gates listed cells g)))
      is-driven l n o = by_bool (is_input_source (source_of cells g l)) (λ e. absurd (o (own-source listed cells fit g ok present-outputs l n e)))
          (λ q. phase-driven listed cells fit g ok present-outputs l (record { needs = n; not_input_source = q }))
