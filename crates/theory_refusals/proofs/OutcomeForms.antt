-- The outcome of a call is refused exactly by the conditions of `Outcomes`.
use Rattle.base.specs.{ℕ, arith, ◌≡◌, refl, sym, ◌∙◌, ap, ap₂, subst, ◌⊎◌, inl, inr, ◌↔◌, ⊎_elim, Bool, true, false, Option, None, Some}
use Rattle.base.specs.{List, [], ◌∷◌, ◌++◌, T, leb, length}
use Rattle.model.specs.{lowest, holds, fault, first_of, unordered, and_vars, over_limit, timed_by, Outcome, refused, mapped, map_graph, map_ordered}
use Rattle.model.specs.{map_cut, map_chosen, printed, uncovered, gates, figures_of, netlist_text, min_arrival_of, timing_lines, followed, chosen, Call}
use Rattle.model.specs.{Design, read_texts, map_texts, map_design, within, Distinct, Mappable, OrderOfAll, FirstOverLimit}
use Rattle.model.specs.Graph.{Graph}
use Rattle.model.specs.declared.Cell.{Cell}
use Rattle.model.specs.declared.Phase.{Phase}
use Rattle.model.specs.declared.Figures.{Figures}
use Rattle.promises.specs.{ToDesign, TextsFault, LowestUnordered, NoneOverLimit}
use Rattle.promises.specs.Outcomes.{Outcomes}
use Rattle.theory_graph.specs.{distinct}
use Rattle.theory_graph.proofs.{by_bool, by_read}
use Rattle.theory_order.proofs.{unordered-none_iff, unordered-lowest_iff, over_limit_first_iff, over_limit_none_iff}
use Rattle.theory_text.proofs.{graph-known, once-distinct, texts-read, design-accepted, outcome-is, refused_never}
use Rattle.theory_refusals.proofs.TextForms.{texts_exactly}

number_in : Outcome → ℕ
number_in (refused n k) = n
number_in (mapped t f) = 0

place_in : Outcome → ℕ
place_in (refused n k) = k
place_in (mapped t f) = 0

same_number : {n k m j : ℕ} → refused n k ≡ refused m j → n ≡ m
unfolding number_in
same_number e = ap number_in e

same_place : {n k m j : ℕ} → refused n k ≡ refused m j → k ≡ j
unfolding place_in
same_place e = ap place_in e

-- ---- the numbers behind 16

module _ (bytes : ℕ) (ranged : Bool) (listed cells : List Cell) (g : Graph) where
  abbrev ends : Outcome → Outcome
  ends o = within bytes (followed ranged cells g o)

  ends-refused : (n k : ℕ) → ends (refused n k) ≡ refused n k
  unfolding within followed
  ends-refused n k = refl

  within-number : (t : List ℕ) (f : Figures) (n k : ℕ) → within bytes (mapped t f) ≡ refused n k → n ≡ 18
  unfolding within
  within-number t f n k e = by_bool (leb (length t) bytes) (λ q. absurd (refused_never (sym (rw q at e))))
      (λ p. sym (same_number (rw p at e)))

  mapped-number : (r : Bool) (t : List ℕ) (f : Figures) (n k : ℕ) → within bytes (followed r cells g (mapped t f)) ≡ refused n k → n ≡ 18
  unfolding followed
  mapped-number true t f n k e = within-number (t ++ timing_lines (min_arrival_of cells g) (λ (l : ℕ). (chosen cells g l).arrival) 0 g.outputs) f n k e
  mapped-number false t f n k e = within-number t f n k e

  printed-number : (phase : ℕ → Phase) (us : List ℕ) (n k : ℕ) → ends (printed listed cells g phase us) ≡ refused n k → (n ≡ 17) ⊎ (n ≡ 18)
  unfolding printed
  printed-number phase (u ∷ us) n k e = inl (sym (same_number (sym (ends-refused 17 u) ∙ e)))
  printed-number phase [] n k e =
      let ts = gates listed cells g phase in inr (mapped-number ranged (netlist_text g ts (figures_of g phase ts)) (figures_of g phase ts) n k e)

  cut-number : (vs : List ℕ) (n k : ℕ) → ends (map_cut listed cells g vs) ≡ refused n k → (n ≡ 16) ⊎ (n ≡ 17) ⊎ (n ≡ 18)
  unfolding map_cut map_chosen chosen
  cut-number (v ∷ vs) n k e = inl (sym (same_number (sym (ends-refused 16 v) ∙ e)))
  cut-number [] n k e = inr (printed-number (chosen cells g) (uncovered (chosen cells g) 0 g.outputs) n k e)

  ordered-number : (o : Option ℕ) (n k : ℕ) → ends (map_ordered listed cells g o) ≡ refused n k → (n ≡ 15) ⊎ (n ≡ 16) ⊎ (n ≡ 17) ⊎ (n ≡ 18)
  unfolding map_ordered
  ordered-number (Some v) n k e = inl (sym (same_number (sym (ends-refused 15 v) ∙ e)))
  ordered-number None n k e = inr (cut-number (over_limit g) n k e)

  -- 15
  fifteen-is : (o : Option ℕ) (v : ℕ) → (ends (map_ordered listed cells g o) ≡ refused 15 v) ↔ (o ≡ Some v)
  unfolding map_ordered
  fifteen-is (Some u) v = ((λ e. ap Some (same_place (sym (ends-refused 15 u) ∙ e))), λ q. ap (λ (x : Option ℕ). ends (map_ordered listed cells g x)) q ∙ ends-refused 15 v)
  fifteen-is None v = (
    (λ e. absurd (⊎_elim (λ q. omega arith) (⊎_elim (λ p. omega arith) (λ r. omega arith))
        (cut-number (over_limit g) 15 v e))),
    λ q. ap (λ (x : Option ℕ). ends (map_ordered listed cells g x)) q ∙ ends-refused 15 v,
  )

  -- 16
  sixteen-is : (vs : List ℕ) (v : ℕ) → (ends (map_cut listed cells g vs) ≡ refused 16 v) ↔ (first_of vs ≡ Some v)
  unfolding map_cut map_chosen chosen first_of
  sixteen-is (u ∷ us) v = ((λ e. ap Some (same_place (sym (ends-refused 16 u) ∙ e))), λ q. let z : u ≡ v = cc in ends-refused 16 u ∙ ap (refused 16) z)
  sixteen-is [] v = (
    (λ e. absurd (⊎_elim (λ q. omega arith) (λ p. omega arith) (printed-number (chosen cells g)
        (uncovered (chosen cells g) 0 g.outputs) 16 v e))),
    λ q. absurd (let z : false ≡ true = cc in mathlib.Core.Bool.false≢true z),
  )

-- ---- a design's graph defines nothing twice

design-once : (c : Call) (d : Design) → read_texts c ≡ holds d → T (distinct (0 ∷ d.graph.inputs ++ and_vars d.graph))
unfolding timed_by
design-once c d e =
    let t = texts-read c d e in
    once-distinct (0 ∷ d.graph.inputs ++ and_vars d.graph)
    (subst (λ (g : Graph). Distinct (0 ∷ g.inputs ++ and_vars g)) t.is_timed (graph-known c.graph t.header t.meant t.is_header t.is_graph).once)

module _ (c : Call) where
  read : (d : Design) → ToDesign c d → read_texts c ≡ holds d
  read d x = ((texts_exactly c).accepts d).1 x

  of_texts_lem : (n k : ℕ) → TextsFault c n k → map_texts c ≡ refused n k
  unfolding map_texts map_design
  of_texts_lem n k x = ap (map_design c.bytes) (((texts_exactly c).refuses n k).1 x)

  fifteen : (d : Design) → ToDesign c d → (v : ℕ) → (map_texts c ≡ refused 15 v) ↔ LowestUnordered d.graph v
  unfolding map_graph
  fifteen d x v =
      let is = outcome-is c d (read d x) in
      let f = fifteen-is c.bytes d.ranged d.listed d.cells d.graph (lowest (unordered d.graph)) v in
      let i = unordered-lowest_iff d.graph (design-once c d (read d x)) v in (
        (λ e. let p = i.0 (f.0 (sym is ∙ e)) in record { is_and = p.0; no_order = p.1; lower = p.2 }),
        (λ l. is ∙ f.1 (i.1 (l.is_and, l.no_order, l.lower))),
      )

  ordered : (d : Design) → ToDesign c d → OrderOfAll d.graph → unordered d.graph ≡ []
  ordered d x o = (unordered-none_iff d.graph (design-once c d (read d x))).1 o

  cut-is : (d : Design) (x : ToDesign c d) → OrderOfAll d.graph → map_texts c ≡ within c.bytes (followed d.ranged d.cells d.graph (map_cut d.listed d.cells d.graph (over_limit d.graph)))
  unfolding map_graph map_ordered
  cut-is d x o =
      outcome-is c d (read d x)
      ∙ ap (λ (vs : List ℕ). within c.bytes (followed d.ranged d.cells d.graph (map_ordered d.listed d.cells d.graph (lowest vs)))) (ordered d x o)

  sixteen : (d : Design) → ToDesign c d → OrderOfAll d.graph → (v : ℕ) → (map_texts c ≡ refused 16 v) ↔ FirstOverLimit d.graph v
  sixteen d x o v =
      let f = sixteen-is c.bytes d.ranged d.listed d.cells d.graph (over_limit d.graph) v in
      let i = over_limit_first_iff d.graph (design-accepted c d (read d x) (ordered d x o)) v in
      ((λ e. i.0 (f.0 (sym (cut-is d x o) ∙ e))), (λ l. (cut-is d x o) ∙ f.1 (i.1 l)))

  mappable : (d : Design) → Mappable c d ↔ (ToDesign c d × OrderOfAll d.graph × NoneOverLimit d.graph)
  mappable d = (
    (λ m. (
      ((texts_exactly c).accepts d).0 m.design,
      (unordered-none_iff d.graph (design-once c d m.design)).0
          m.ordered,
      (over_limit_none_iff d.graph (design-accepted c d m.design m.ordered)).0 m.few,
    )),
    (λ p. let e = read d p.0 in let q = ordered d p.0 p.1 in
        record { design = e; ordered = q; few = (over_limit_none_iff d.graph (design-accepted c d e q)).1 p.2 }),
  )

  only_these : (n k : ℕ) → map_texts c ≡ refused n k → TextsFault c n k ⊎ ((n ≡ 15) ⊎ (n ≡ 16) ⊎ (n ≡ 17) ⊎ (n ≡ 18))
  unfolding map_texts map_design map_graph number_in place_in
  only_these n k e = by_read (read_texts c) (λ d q. inr (ordered-number c.bytes d.ranged d.listed d.cells d.graph
      (lowest (unordered d.graph)) n k (sym (outcome-is c d q) ∙ e))) (λ m j p.
      let z : refused m j ≡ refused n k = sym (ap (map_design c.bytes) p)
      ∙ e in inl (((texts_exactly c).refuses n k).0 (p ∙ ap₂ (λ (x y : ℕ). fault x y) (same_number z) (same_place z))))

-- the refusals of every call
pub demand_refusals : (c : Call) → Outcomes c
demand_refusals c = record {
  texts = texts_exactly c;
  of_texts = of_texts_lem c;
  fifteen = fifteen c;
  sixteen = sixteen c;
  mappable = mappable c;
  only = only_these c;
}
