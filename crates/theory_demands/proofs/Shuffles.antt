-- Two accepted libraries of the same cell lines, in any orders, agree on every earliest arrival, on 16 and 17, and on what they print of
-- arrivals.
use Rattle.base.specs.{ℕ, suc, arith, ◌≡◌, refl, sym, ◌∙◌, ap, ap₂, subst, ◌⊎◌, inl, inr, ◌↔◌, Bool, true, false, cond, List, [], ◌∷◌, ◌++◌}
use Rattle.base.specs.{map, leb, length}
use Rattle.model.specs.{lowest, unordered, over_limit, absent, chosen, Outcome, refused, mapped, map_graph, map_ordered, map_cut, map_chosen}
use Rattle.model.specs.{printed, uncovered, figures_of, largest, timed_by, min_arrival_of, timing_lines, followed, Call, Design, map_texts, within}
use Rattle.model.specs.{choice_text, choice_figures, EarliestAt, SameCells, on_library, Shuffled, Agree, Shuffles}
use Rattle.model.specs.Graph.{Graph}
use Rattle.model.specs.declared.Cell.{Cell}
use Rattle.model.specs.declared.Phase.{Phase}
use Rattle.model.specs.declared.Figures.{Figures}
use Rattle.theory_graph.specs.AcceptedGraph.{Accepted}
use Rattle.theory_graph.proofs.{map_same, by_bool, by_list}
use Rattle.theory_cover.proofs.{choice-earliest, cover-timed, earliest-same, chosen-earliest, earliest-one, absent-same, arrival-same}
use Rattle.theory_cover.proofs.{pairs-same}
use Rattle.theory_text.proofs.{holds-once, texts-read, design-accepted, lines-cells, outcome-is, printed-choice, refused_never}
use Rattle.theory_demands.proofs.CallDemands.{nets-chosen}

-- ---- the outcome, by what the choice leaves uncovered

number_of : Outcome → ℕ
number_of (refused n k) = n
number_of (mapped t f) = 0

uncovered-same : (p q : ℕ → Phase) → ((l : ℕ) → absent (p l).source ≡ absent (q l).source) → (k : ℕ) (ls : List ℕ) → uncovered p k ls ≡ uncovered q k ls
unfolding uncovered
uncovered-same p q e k [] = refl
uncovered-same p q e k (l ∷ ls) = cc (e l, uncovered-same p q e (suc k) ls)

-- 16 and 17 are no matter of what is printed otherwise
module _ (listed listed' cells cells' : List Cell) (r r' : Bool) (g : Graph) (ordered : unordered g ≡ []) (bytes n k : ℕ) (early : (n ≡ 16) ⊎ (n ≡ 17))
    (same : uncovered (chosen cells g) 0 g.outputs ≡ uncovered (chosen cells' g) 0 g.outputs) where
  abbrev ends : Outcome → Outcome
  ends o = within bytes (followed r cells g o)

  abbrev ends' : Outcome → Outcome
  ends' o = within bytes (followed r' cells' g o)

  never : (q : Bool) (t : List ℕ) (f : Figures) → ¬ (within bytes (followed q cells g (mapped t f)) ≡ refused n k)
  unfolding followed within number_of
  never q t f = by_bool q (λ p. rw p (go after (leb (length after) bytes))) (λ e. rw e (go t (leb (length t) bytes)))
    where
      after : List ℕ
      after = t ++ timing_lines (min_arrival_of cells g) (λ (l : ℕ). (chosen cells g l).arrival) 0 g.outputs

      go : (u : List ℕ) (b : Bool) → ¬ (cond b (mapped u f) (refused 18 (length u)) ≡ refused n k)
      go u true e = refused_never (sym e)
      go u false e = elim early [ inl a ↦ omega (arith, sym (ap number_of e)) | inr b ↦ omega (arith, sym (ap number_of e)) ]

  refused-on : ends (map_graph listed cells g) ≡ refused n k → ends' (map_graph listed' cells' g) ≡ refused n k
  unfolding map_graph map_ordered map_cut map_chosen printed chosen lowest within followed
  refused-on e = ap (λ (us : List ℕ). ends' (map_ordered listed' cells' g (lowest us))) ordered
      ∙ by_list (over_limit g) (λ c. cc (outs (uncovered (chosen cells' g) 0 g.outputs) (cc (same, ordered)))) (λ v vs q. cc)
    where
      outs : (us : List ℕ) → ends (printed listed cells g (chosen cells g) us) ≡ refused n k → ends' (printed listed' cells' g (chosen cells' g) us) ≡ refused n k
      outs [] h = absurd (never r (choice_text listed cells g) (choice_figures listed cells g) h)
      outs (u ∷ us) h = h

-- ---- the two libraries

module _ (c : Call) (library : List ℕ) (d d' : Design) (s : Shuffled c library d d') where
  graphs : d.graph ≡ d'.graph
  graphs =
      let a = texts-read c d s.design in
      let b = texts-read (on_library c library) d' s.design' in
      sym a.is_timed ∙ ap₂ timed_by (holds-once (cc (a.is_graph, b.is_graph))) (holds-once (cc (a.is_input_arrival, b.is_input_arrival))) ∙ b.is_timed

  -- "Where pairs are formed, both libraries form theirs"
  cells : SameCells d.cells d'.cells
  cells = rw (← (texts-read c d s.design).are_cells) (rw (← (texts-read (on_library c library) d' s.design').are_cells)
      (pairs-same c.paired d.listed d'.listed (lines-cells c.library library d.listed d'.listed
      (texts-read c d s.design).is_library (texts-read (on_library c library) d' s.design').is_library s.lines)))

  ok : Accepted d.graph
  ok = design-accepted c d s.design s.ordered

  open_same : uncovered (chosen d.cells d.graph) 0 d.graph.outputs ≡ uncovered (chosen d'.cells d.graph) 0 d.graph.outputs
  open_same = uncovered-same (chosen d.cells d.graph) (chosen d'.cells d.graph) (absent-same d.cells d'.cells d.graph ok cells) 0 d.graph.outputs

  abbrev outcome_of : Design → Graph → Outcome
  outcome_of x g = within c.bytes (followed x.ranged x.cells g (map_graph x.listed x.cells g))

  is : map_texts c ≡ outcome_of d d.graph
  is = outcome-is c d s.design

  is' : map_texts (on_library c library) ≡ outcome_of d' d.graph
  is' = outcome-is (on_library c library) d' s.design' ∙ ap (outcome_of d') (sym graphs)

  refusals : (n : ℕ) → (n ≡ 16) ⊎ (n ≡ 17) → (k : ℕ) → (map_texts c ≡ refused n k) ↔ (map_texts (on_library c library) ≡ refused n k)
  refusals n early k = (
    (λ e. is' ∙ refused-on d.listed d'.listed d.cells d'.cells d.ranged d'.ranged d.graph s.ordered c.bytes n k early open_same (sym is ∙ e)),
    (λ e. is ∙ refused-on d'.listed d.listed d'.cells d.cells d'.ranged d.ranged d.graph s.ordered c.bytes n k early (sym open_same) (sym is' ∙ e)),
  )

  -- a phase that both choose a source for arrives at the same time in both
  times : (l : ℕ) → absent (chosen d.cells d.graph l).source ≡ false → (chosen d.cells d.graph l).arrival ≡ (chosen d'.cells d'.graph l).arrival
  times l h = arrival-same d.cells d'.cells d.graph ok cells l h ∙ ap (λ (g : Graph). (chosen d'.cells g l).arrival) graphs

  earliest-both : (l t : ℕ) → EarliestAt d.cells d.graph l t ↔ EarliestAt d'.cells d'.graph l t
  earliest-both l t = subst (λ (g : Graph). EarliestAt d.cells d.graph l t ↔ EarliestAt d'.cells g l t) graphs (earliest-same d.cells d'.cells d.graph cells l t)

  agree : Agree c library d d'
  unfolding figures_of
  agree = record {
    graphs = graphs;
    earliest = earliest-both;
    reachable = λ outs v l n.
        let t = (cover-timed d.cells d.graph ok outs v).has in
        ((chosen d.cells d.graph l).arrival, chosen-earliest d.cells d.graph ok l (choice-earliest d.cells d.graph ok outs v t.0 t.1 l n).0);
    one = λ l t u a b. earliest-one d.cells d.graph l t u a ((earliest-both l u).1 b);
    sixteen = refusals 16 (inl refl);
    seventeen = refusals 17 (inr refl);
    arrival = λ t t' f f' e e'.
        let a = (printed-choice c d s.design t f e).choice in
        let b = (printed-choice (on_library c library) d' s.design' t' f' e').choice in
        ap (λ (x : Figures). x.arrival) a.are_figures
        ∙ ap largest (map_same (λ (l : ℕ). (chosen d.cells d.graph l).arrival) (λ (l : ℕ). (chosen d'.cells d'.graph l).arrival) d.graph.outputs
        (λ l m. times l (a.covered l m)))
        ∙ ap (λ (g : Graph). largest (map (λ (l : ℕ). (chosen d'.cells d'.graph l).arrival) g.outputs)) graphs
        ∙ sym (ap (λ (x : Figures). x.arrival) b.are_figures);
    nets = λ t t' f f' n n' p p' at at' h h' l m m'.
        let a = nets-chosen c t f d n p at h l m in
        let b = nets-chosen (on_library c library) t' f' d' n' p' at' h' l m' in
        a.time ∙ times l a.present ∙ sym b.time;
  }

-- "two accepted libraries holding the same cell lines in any orders agree"
pub demand_shuffles : (c : Call) → Shuffles c
demand_shuffles = agree
