-- Demand 3 of an accepted graph: the choice is earliest, gives Nothing exactly where there is no cover, and is itself a cover; refusal 17 names
-- the lowest output without a cover, and else the netlist of the choice is printed.
use Rattle.base.specs.{ℕ, zero, suc, ◌+◌, ◌≤◌, ◌<◌, add-zero, add-suc, suc-add, zero-add, not-suc-le-zero, le_of_suc-le-suc, le_antisymm}
use Rattle.base.specs.{lt_of_not-le, dec_le, arith, ◌≡◌, refl, sym, ◌∙◌, ap, subst, ◌↔◌, Bool, true, false, cond, true≢false, List, [], ◌∷◌}
use Rattle.base.specs.{Memᴰ, Memᴰ-head, Memᴰ-eq_of_singleton, T, length, get_or}
use Rattle.model.specs.{lowest, over_limit, absent, chosen, Needed, output, CoverArrivals, refused, mapped, map_graph, uncovered, printed}
use Rattle.model.specs.{map_chosen, map_cut, map_ordered, Timed, LowestUncovered, ChosenCover, choice_text, choice_figures}
use Rattle.model.specs.Graph.{Graph}
use Rattle.model.specs.Cover.{Cover}
use Rattle.model.specs.declared.Cell.{Cell}
use Rattle.model.specs.declared.Phase.{Phase}
use Rattle.theory_graph.specs.AcceptedGraph.{Accepted}
use Rattle.theory_graph.proofs.{get_or_in, order-once}
use Rattle.theory_cover.proofs.CoverFacts.{covers-timed}
use Rattle.theory_cover.proofs.EarliestArrival.{earliest}
use Rattle.theory_cover.proofs.CoverSoundness.{chosen-cover, chosen-timed, nothing_iff}

-- the first output that is chosen nothing
record First (phase : ℕ → Phase) (ls : List ℕ) (j : ℕ) : Type 0 where
  here : j < length ls
  none-at : absent (phase (get_or ls j 0)).source ≡ true
  before : (i : ℕ) → i < j → absent (phase (get_or ls i 0)).source ≡ false

data Starts (phase : ℕ → Phase) (k : ℕ) (ls : List ℕ) : List ℕ → Type 0 where
  nowhere : ((i : ℕ) → i < length ls → absent (phase (get_or ls i 0)).source ≡ false) → Starts phase k ls []
  at : (j : ℕ) (rest : List ℕ) → First phase ls j → Starts phase k ls ((k + j) ∷ rest)

starts : (phase : ℕ → Phase) (k : ℕ) (ls : List ℕ) → Starts phase k ls (uncovered phase k ls)
unfolding uncovered
starts phase k [] = nowhere (λ i h. absurd (not-suc-le-zero h))
starts phase k (l ∷ ls) = go (absent (phase l).source) refl (uncovered phase (suc k) ls) (starts phase (suc k) ls)
  where
    step : (n : ℕ) → absent (phase l).source ≡ false → ((i : ℕ) → i < n → absent (phase (get_or ls i 0)).source ≡ false)
        → (i : ℕ) → i < suc n → absent (phase (get_or (l ∷ ls) i 0)).source ≡ false
    step n e p zero q = e
    step n e p (suc i) q = p i (le_of_suc-le-suc q)

    go : (b : Bool) → absent (phase l).source ≡ b → (us : List ℕ) → Starts phase (suc k) ls us → Starts phase k (l ∷ ls) (cond b (k ∷ us) us)
    go true e us s = subst (λ (n : ℕ). Starts phase k (l ∷ ls) (n ∷ us)) (add-zero k)
        (at 0 us (record { here = omega arith; none-at = e; before = λ i h. absurd (not-suc-le-zero h) }))
    go false e us (nowhere h) = nowhere (step (length ls) e h)
    go false e us (at j rest f) = rw (← add-suc k j ∙ sym (suc-add k j)) (at (suc j) rest
        (record { here = let h : j < length ls = f.here in omega arith; none-at = f.none-at; before = step j e f.before }))

module _ (cells : List Cell) (g : Graph) (ok : Accepted g) where
  -- a phase that a cover needs is chosen a source, and none is earlier in the cover
  pub choice-earliest : (outs : List ℕ) (c : Cover cells g outs) (at : ℕ → ℕ) → CoverArrivals cells g outs c at → (l : ℕ) → Needed cells g outs c.source l
      → (absent (chosen cells g l).source ≡ false) × ((chosen cells g l).arrival ≤ at l)
  choice-earliest outs c times t l n = let b = earliest cells g (order-once g ok) outs c times t l n in (b.present, b.early)

  -- every cover has arrivals, and no others
  pub cover-timed : (outs : List ℕ) (c : Cover cells g outs) → Timed cells g outs c
  cover-timed = covers-timed cells g (order-once g ok)

  -- "refusal 17 comes exactly when some output has no cover": the choice gives a phase Nothing exactly where it has none
  pub choice-nothing : (l : ℕ) → T (absent (chosen cells g l).source) ↔ (¬ Cover cells g (l ∷ []))
  choice-nothing l = nothing_iff cells g (order-once g ok) l

  -- what has a cover is chosen a source, and the other way round
  pub covered_present : (l : ℕ) → Cover cells g (l ∷ []) → absent (chosen cells g l).source ≡ false
  covered_present l c = let t = (cover-timed (l ∷ []) c).has in (choice-earliest (l ∷ []) c t.0 t.1 l (output (Memᴰ-head refl))).0

  pub present_covered : (l : ℕ) → absent (chosen cells g l).source ≡ false → Cover cells g (l ∷ [])
  present_covered l e = chosen-cover cells g (order-once g ok) (l ∷ []) (λ x i. ap (λ (y : ℕ). absent (chosen cells g y).source) (Memᴰ-eq_of_singleton i) ∙ e)

  -- where every output has a cover, the chosen sources and arrivals are a cover of the outputs
  pub choice-cover : ((l : ℕ) → Memᴰ l g.outputs → Cover cells g (l ∷ [])) → ChosenCover cells g
  unfolding chosen-cover
  choice-cover h = record {
    cover = chosen-cover cells g (order-once g ok) g.outputs (λ l i. covered_present l (h l i));
    sources = λ l. refl;
    arrivals = chosen-timed cells g (order-once g ok) g.outputs (λ l i. covered_present l (h l i));
  }

  module _ (listed : List Cell) where
    lowest-from : (k : ℕ) (us : List ℕ) → Starts (chosen cells g) 0 g.outputs us → (printed listed cells g (chosen cells g) us ≡ refused 17 k) ↔ LowestUncovered cells g k
    unfolding printed
    lowest-from k us (nowhere h) = (
      (λ e. let z : ◌≡◌ {A = ℕ} 0 1 = cc in absurd (omega arith)),
      (λ p. absurd (p.has_none (present_covered (get_or g.outputs k 0) (h k p.is_output)))),
    )
    lowest-from k us (at j rest f) =
        let here : LowestUncovered cells g j = record {
          is_output = f.here;
          has_none = (choice-nothing (get_or g.outputs j 0)).0 (subst T (sym f.none-at) tt);
          before = λ i h. present_covered (get_or g.outputs i 0) (f.before i h);
        } in (
          (λ e. let q : 0 + j ≡ k = cc in subst (LowestUncovered cells g) (sym (zero-add j) ∙ q) here),
          (λ p. ap (refused 17) (zero-add j ∙ (le_antisymm (elim
              (dec_le j k) [ yes h ↦ h | no h ↦ absurd (p.has_none (present_covered (get_or g.outputs k 0) (f.before k (lt_of_not-le h)))) ])
              (elim (dec_le k j) [ yes h ↦ h | no h ↦ absurd (here.has_none (p.before j (lt_of_not-le h))) ])))),
        )

    printed-from : (us : List ℕ) → Starts (chosen cells g) 0 g.outputs us → ((l : ℕ) → Memᴰ l g.outputs → Cover cells g (l ∷ []))
        → printed listed cells g (chosen cells g) us ≡ mapped (choice_text listed cells g) (choice_figures listed cells g)
    unfolding printed
    printed-from us (nowhere h) c = refl
    printed-from us (at j rest f) c =
        absurd (true≢false (sym f.none-at ∙ covered_present (get_or g.outputs j 0) (c (get_or g.outputs j 0) (get_or_in g.outputs j 0 f.here))))

    module _ (few : over_limit g ≡ []) where
      -- an accepted graph with few cuts is answered from the choice
      pub mapped-choice : map_graph listed cells g ≡ printed listed cells g (chosen cells g) (uncovered (chosen cells g) 0 g.outputs)
      unfolding map_graph map_ordered map_cut map_chosen chosen lowest
      mapped-choice = ap (λ (us : List ℕ). map_ordered listed cells g (lowest us)) ok.ordered ∙ ap (map_cut listed cells g) few

      -- "refusal 17 comes exactly when some output has no cover, and names the lowest"
      pub seventeen_iff : (k : ℕ) → (map_graph listed cells g ≡ refused 17 k) ↔ LowestUncovered cells g k
      seventeen_iff k =
          let r = lowest-from k (uncovered (chosen cells g) 0 g.outputs) (starts (chosen cells g) 0 g.outputs) in
          ((λ e. r.0 (sym mapped-choice ∙ e)), (λ p. mapped-choice ∙ r.1 p))

      -- "else the netlist of the cover that 01's choice gives is printed"
      pub choice-printed : ((l : ℕ) → Memᴰ l g.outputs → Cover cells g (l ∷ [])) → map_graph listed cells g ≡ mapped (choice_text listed cells g) (choice_figures listed cells g)
      choice-printed c = mapped-choice ∙ printed-from (uncovered (chosen cells g) 0 g.outputs) (starts (chosen cells g) 0 g.outputs) c
