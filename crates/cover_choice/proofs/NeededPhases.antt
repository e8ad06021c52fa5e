-- The law of `marked`: what it leaves is what `needed` says.
--     marks-put, marks-all        a mark more, and several
--     marked-needed               the needed phases
use Rattle.base.specs.{ℕ, zero, suc, ◌+◌, ◌*◌, ◌/◌, ◌≤◌, ◌<◌, arith, ◌≡◌, refl, sym, ap, subst, ◌∙◌, Bool, true, false, cond, ◌||◌, List}
use Rattle.base.specs.{[], ◌∷◌, ◌++◌, append-nil, reverse, reverse-append, Memᴰ, Memᴰ-head, Memᴰ-tail, inr, eqb, length}
use Rattle.base.specs.{take, drop, get_or, take-suc, take-length, drop-cons, drop-length, eqb-true, eqb-false}
use Rattle.model.specs.{any, elem, each, var_of, negated, literal, topological_order, cuts_of, cut_at as listed_at, feeds, chosen, match_nets}
use Rattle.model.specs.{is_inverted, backwards, spread, needed}
use Rattle.model.specs.Graph.{Graph}
use Rattle.model.specs.declared.Cell.{Cell}
use Rattle.model.specs.declared.Header.{Header}
use Rattle.model.specs.declared.Phase.{Phase}
use Rattle.model.specs.declared.Source.{Source}
use Rattle.model.specs.declared.Source.TheVariants.{Input, Cell as Matched, Inverter as Inverted, Nothing}
use Rattle.theory_graph.proofs.{get_or_in, order_small}
use Rattle.base_words.specs.{ordered_count, HasCapacity, needed_addr, needed_at, cuts_at, phase_at, flag_of, is_needed, put_needed, RepresentsPhases, RepresentsNeeded}
use Rattle.base_words.proofs.{needed-put, needed_other}
use Rattle.cells_matching.specs.{Matchable}
use Rattle.cover_choice.specs.{OutputsIn, SlotsIn, MatchesIn, put_all, put_outputs, feeds_at, fed_once, fed_all, fed_step, fed_down, marked}
use Rattle.cover_choice.specs.{HeaderOf}
use Rattle.cover_choice.proofs.KeptWords.{NeedsKept, kept_on, need-kept, graph-kept, order-kept, cuts-kept, phases-kept}
use Rattle.cover_choice.proofs.NeededMarks.{mark_capacity, outputs-kept, down-kept, once-kept, step_kept, feeds_in, backwards_in}
use Rattle.cover_choice.specs.EnumeratedWords.{RepresentsEnumerated}
use Rattle.cover_choice.proofs.EnumeratedGraph.{ordered-is, output-small, slots_in, outputs_in, matches_in}

-- ---- lists of literals

swap : (a b c : Bool) → (a || (b || c)) ≡ (b || (a || c))
swap true true c = refl
swap true false c = refl
swap false true c = refl
swap false false c = refl

elem-move : (l x : ℕ) (ls ns : List ℕ) → elem l (ls ++ (x ∷ ns)) ≡ elem l (x ∷ (ls ++ ns))
unfolding elem any
elem-move l x [] ns = refl
elem-move l x (y ∷ ls) ns = ap (λ (b : Bool). eqb l y || b) (elem-move l x ls ns) ∙ swap (eqb l y) (eqb l x) (elem l (ls ++ ns))

spread_append : (cells : List Cell) (cuts : ℕ → List (List ℕ)) (phase : ℕ → Phase) (as' bs ns : List ℕ)
    → spread cells cuts phase (as' ++ bs) ns ≡ spread cells cuts phase bs (spread cells cuts phase as' ns)
unfolding spread
spread_append cells cuts phase [] bs ns = refl
spread_append cells cuts phase (l ∷ as') bs ns =
    spread_append cells cuts phase as' bs (cond (elem l ns) (feeds cells cuts l (phase l).source ++ ns) ns)

-- ---- marks

-- the marks of the words are a list's literals
pub record Marked (w : List ℕ) (m : ℕ) (ns : List ℕ) : Type 0 where
  pub mark : (l : ℕ) → l / 2 ≤ m → is_needed w m l ≡ elem l ns

pub marks-put : (w : List ℕ) (m x : ℕ) (ns : List ℕ) → HasCapacity w m → x / 2 ≤ m → Marked w m ns → Marked (put_needed w m x) m (x ∷ ns)
unfolding elem any
marks-put w m x ns r h k = record { mark = λ l b. go l b (eqb l x) refl }
  where
    go : (l : ℕ) → l / 2 ≤ m → (t : Bool) → eqb l x ≡ t → is_needed (put_needed w m x) m l ≡ (eqb l x || elem l ns)
    go l b true e =
        let s : l ≡ x = eqb-true l x e in
        ap (is_needed (put_needed w m x) m) s ∙ needed-put w m x r h ∙ sym (ap (λ (t : Bool). t || elem l ns) e)
    go l b false e = needed_other w m x r h l b (eqb-false l x e) ∙ k.mark l b ∙ sym (ap (λ (t : Bool). t || elem l ns) e)

pub marks-all : (ls : List ℕ) (w : List ℕ) (m : ℕ) (ns : List ℕ) → HasCapacity w m → ((l : ℕ) → Memᴰ l ls → l / 2 ≤ m) → Marked w m ns → Marked (put_all w m ls) m (ls ++ ns)
unfolding put_all
marks-all [] w m ns r h k = k
marks-all (x ∷ ls) w m ns r h k =
    let b : x / 2 ≤ m = h x (Memᴰ-head refl) in
    let rest = marks-all ls (put_needed w m x) m (x ∷ ns) (mark_capacity w m x r b) (λ l i. h l (Memᴰ-tail i)) (marks-put w m x ns r b k) in
    record { mark = λ l c. rest.mark l c ∙ elem-move l x ls ns }

-- nothing is marked yet
pub marks-none : (w : List ℕ) (m : ℕ) → ((v : ℕ) → v ≤ m → needed_at w m v ≡ 0) → Marked w m []
unfolding elem any is_needed var_of
marks-none w m h = record { mark = λ l b. ap (λ (x : ℕ). flag_of x (negated l)) (h (l / 2) b) ∙ go (negated l) }
  where
    go : (neg : Bool) → flag_of 0 neg ≡ false
    go true = refl
    go false = refl

-- ---- with the graph

-- the words hold the chosen phases too
pub record Covered (w : List ℕ) (cells : List Cell) (g : Graph) : Type 0 where
  pub represented : RepresentsEnumerated w g
  pub in_bounds : Matchable cells
  pub phases : RepresentsPhases w cells g

module _ (cells : List Cell) (g : Graph) where
  covered-kept : (v w : List ℕ) → NeedsKept g.size v w → Covered v cells g → Covered w cells g
  covered-kept v w k c =
      let a : ℕ = needed_addr g.size 0 in
      let b : ℕ = needed_addr g.size (g.size + 1) in
      record {
        represented =
            record {
              accepted = c.represented.accepted;
              free = c.represented.free;
              soon = c.represented.soon;
              graph = graph-kept g a b v w k (omega arith) (omega arith) (inr (omega arith)) c.represented.graph;
              order = order-kept g a b v w k (omega arith) (omega arith) c.represented.accepted c.represented.order;
              cuts = cuts-kept g a b v w k (omega arith) (omega arith) c.represented.accepted c.represented.free c.represented.cuts;
            };
        in_bounds = c.in_bounds;
        phases = phases-kept g a b v w k (omega arith) (omega arith) cells (omega arith) c.phases;
      }

  module _ (w : List ℕ) (c : Covered w cells g) where
    ready : MatchesIn cells w g.size
    ready = matches_in w g c.represented cells c.in_bounds c.phases

    -- what feeds a phase, as the words have it
    feeds-represented : (l : ℕ) → l / 2 ≤ g.size → feeds_at cells w g.size l ≡ feeds cells (cuts_of g) l (chosen cells g l).source
    unfolding feeds listed_at var_of
    feeds-represented l b =
        ap (λ (p : Phase). feeds cells (cuts_at w g.size) l p.source) (c.phases.phases l (omega arith)) ∙ go (chosen cells g l).source
      where
        go : (s : Source) → feeds cells (cuts_at w g.size) l s ≡ feeds cells (cuts_of g) l s
        go Input = refl
        go Nothing = refl
        go (Inverted i) = refl
        go (Matched x) = ap (λ (cs : List (List ℕ)). match_nets cells (get_or cs x.cut []) x) (c.represented.cuts.lists (l / 2) b)

    marks-once : (l : ℕ) (ns : List ℕ) → l / 2 ≤ g.size → Marked w g.size ns
        → Marked (fed_once cells w g.size l) g.size (cond (elem l ns) (feeds cells (cuts_of g) l (chosen cells g l).source ++ ns) ns)
    unfolding fed_once
    marks-once l ns b k = go (elem l ns) (k.mark l b)
      where
        fs : List ℕ
        fs = feeds cells (cuts_of g) l (chosen cells g l).source

        go : (t : Bool) → is_needed w g.size l ≡ t
            → Marked (cond (is_needed w g.size l) (put_all w g.size (feeds_at cells w g.size l)) w) g.size (cond t (feeds cells (cuts_of g) l (chosen cells g l).source ++ ns) ns)
        go true e =
            subst (λ (t : Bool). Marked (cond t (put_all w g.size (feeds_at cells w g.size l)) w) g.size (feeds cells (cuts_of g) l (chosen cells g l).source ++ ns)) (sym e)
            (subst (λ (xs : List ℕ). Marked (put_all w g.size (feeds_at cells w g.size l)) g.size (xs ++ ns)) (feeds-represented l b)
            (marks-all (feeds_at cells w g.size l) w g.size ns ready.cuts.capacity (feeds_in cells w g.size l ready b) k))
        go false e = subst (λ (t : Bool). Marked (cond t (put_all w g.size (feeds_at cells w g.size l)) w) g.size ns) (sym e) k

  marks-fed : (ls : List ℕ) (w : List ℕ) → Covered w cells g → (ns : List ℕ) → ((l : ℕ) → Memᴰ l ls → l / 2 ≤ g.size) → Marked w g.size ns
      → Marked (fed_all cells w g.size ls) g.size (spread cells (cuts_of g) (chosen cells g) ls ns)
  unfolding fed_all spread
  marks-fed [] w c ns h k = k
  marks-fed (l ∷ ls) w c ns h k =
      let b : l / 2 ≤ g.size = h l (Memᴰ-head refl) in
      let w' : List ℕ = fed_once cells w g.size l in
      marks-fed ls w' (covered-kept w w' (once-kept g.size cells w l (ready w c) b) c)
      (cond (elem l ns) (feeds cells (cuts_of g) l (chosen cells g l).source ++ ns) ns) (λ x i. h x (Memᴰ-tail i)) (marks-once w c l ns b k)

  -- the order of a variable's phases
  backwards-represented : (w : List ℕ) → Covered w cells g → (v : ℕ) → v ≤ g.size → backwards (phase_at w g.size) v ≡ backwards (chosen cells g) v
  unfolding backwards
  backwards-represented w c v h =
      let l : ℕ = literal false v in
      let b : l ≤ 2 * g.size + 1 = omega arith in
      ap (λ (p : Phase). cond (is_inverted p.source) (literal false v ∷ literal true v ∷ []) (literal true v ∷ literal false v ∷ [])) (c.phases.phases l b)

  marks-step : (w : List ℕ) → Covered w cells g → (v : ℕ) (ns : List ℕ) → v ≤ g.size → Marked w g.size ns
      → Marked (fed_step cells w g.size v) g.size (spread cells (cuts_of g) (chosen cells g) (backwards (chosen cells g) v) ns)
  unfolding fed_step
  marks-step w c v ns h k =
      subst (λ (ls : List ℕ). Marked (fed_all cells w g.size (backwards (phase_at w g.size) v)) g.size (spread cells (cuts_of g) (chosen cells g) ls ns))
      (backwards-represented w c v h)
      (marks-fed (backwards (phase_at w g.size) v) w c ns (backwards_in g.size cells w v h) k)

  marks-down : (n : ℕ) (w : List ℕ) → Covered w cells g → (ns : List ℕ) → n ≤ length (topological_order g) → Marked w g.size ns
      → Marked (fed_down cells w g.size n) g.size
      (spread cells (cuts_of g) (chosen cells g) (each (backwards (chosen cells g)) (reverse (take n (topological_order g)))) ns)
  unfolding fed_down each spread
  marks-down zero w c ns h k = k
  marks-down (suc n) w c ns h k =
      let vs : List ℕ = topological_order g in
      let v : ℕ = get_or vs n 0 in
      let i : v ≤ g.size = order_small g c.represented.accepted v (get_or_in vs n 0 h) in
      let w' : List ℕ = fed_step cells w g.size v in
      let ns' : List ℕ = spread cells (cuts_of g) (chosen cells g) (backwards (chosen cells g) v) ns in
      let rest = marks-down n w' (covered-kept w w' (step_kept g.size cells w v (ready w c) i) c) ns' (omega arith) (marks-step w c v ns i k) in
      let back : reverse (take (suc n) vs) ≡ v ∷ reverse (take n vs) = ap reverse (take-suc vs n 0 h) ∙ reverse-append (take n vs) (v ∷ []) in
      subst (λ (x : ℕ). Marked (fed_down cells (fed_step cells w g.size x) g.size n) g.size
      (spread cells (cuts_of g) (chosen cells g) (each (backwards (chosen cells g)) (reverse (take (suc n) vs))) ns)) (sym (c.represented.order.slots n h))
      (subst (λ (xs : List ℕ). Marked (fed_down cells w' g.size n) g.size (spread cells (cuts_of g) (chosen cells g) (each (backwards (chosen cells g)) xs) ns)) (sym back)
      (subst (λ (xs : List ℕ). Marked (fed_down cells w' g.size n) g.size xs)
      (sym (spread_append cells (cuts_of g) (chosen cells g) (backwards (chosen cells g) v) (each (backwards (chosen cells g)) (reverse (take n vs))) ns)) rest))

  marks-outputs : (n k : ℕ) (w : List ℕ) → Covered w cells g → (ns : List ℕ) → k + n ≡ length g.outputs → Marked w g.size ns
      → Marked (put_outputs w g.size k n) g.size (drop k g.outputs ++ ns)
  unfolding put_outputs
  marks-outputs zero k w c ns h r =
      let e : k ≡ length g.outputs = omega arith in
      subst (λ (xs : List ℕ). Marked w g.size (xs ++ ns)) (sym (ap (λ (j : ℕ). drop j g.outputs) e ∙ drop-length g.outputs)) r
  marks-outputs (suc n) k w c ns h r =
      let outs : List ℕ = g.outputs in
      let l : k < length outs = omega arith in
      let x : ℕ = get_or outs k 0 in
      let b : x / 2 ≤ g.size = output-small g c.represented.accepted x (get_or_in outs k 0 l) in
      let w' : List ℕ = put_needed w g.size x in
      let rest = marks-outputs n (suc k) w' (covered-kept w w' (need-kept w g.size x (ready w c).cuts.capacity b) c) (x ∷ ns) (omega arith) (marks-put w g.size x ns (ready w c).cuts.capacity b r) in
      subst (λ (y : ℕ). Marked (put_outputs (put_needed w g.size y) g.size (suc k) n) g.size (drop k outs ++ ns)) (sym (c.represented.graph.outputs k l))
      (subst (λ (xs : List ℕ). Marked (put_outputs w' g.size (suc k) n) g.size (xs ++ ns)) (sym (drop-cons outs k 0 l))
      (record { mark = λ i j. rest.mark i j ∙ elem-move i x (drop (suc k) outs) ns }))

  marked-marks : (w : List ℕ) → Covered w cells g → ((v : ℕ) → v ≤ g.size → needed_at w g.size v ≡ 0)
      → Marked (marked cells w g.size (length g.outputs) (length (topological_order g))) g.size (needed cells g (chosen cells g))
  unfolding marked needed
  marked-marks w c z =
      let o : ℕ = length g.outputs in
      let w' : List ℕ = put_outputs w g.size 0 o in
      let first : Marked w' g.size g.outputs =
      subst (λ (xs : List ℕ). Marked w' g.size xs) (append-nil g.outputs) (marks-outputs o 0 w c [] (omega arith) (marks-none w g.size z)) in
      let k : NeedsKept g.size w w' = outputs-kept g.size o 0 o w (outputs_in w g c.represented) (omega arith) in
      subst (λ (vs : List ℕ). Marked (fed_down cells w' g.size (length (topological_order g))) g.size
      (spread cells (cuts_of g) (chosen cells g) (each (backwards (chosen cells g)) (reverse vs)) g.outputs)) (take-length (topological_order g))
      (marks-down (length (topological_order g)) w' (covered-kept w w' k c) g.outputs (omega arith) first)

  marked-kept : (w : List ℕ) → Covered w cells g → NeedsKept g.size w (marked cells w g.size (length g.outputs) (length (topological_order g)))
  unfolding marked
  marked-kept w c =
      let o : ℕ = length g.outputs in
      let w' : List ℕ = put_outputs w g.size 0 o in
      let k : NeedsKept g.size w w' = outputs-kept g.size o 0 o w (outputs_in w g c.represented) (omega arith) in
      let c' : Covered w' cells g = covered-kept w w' k c in
      kept_on (needed_addr g.size 0) (needed_addr g.size (g.size + 1)) w w' (fed_down cells w' g.size (length (topological_order g))) k
      (down-kept g.size cells (length (topological_order g)) w' (ready w' c') (slots_in w' g c'.represented))

-- ---- the law

-- what marking leaves of words v: the needed phases of the chosen cover, and all other words as they were
pub record MarkedFrom (v w : List ℕ) (cells : List Cell) (g : Graph) : Type 0 where
  pub needs : RepresentsNeeded w cells g
  pub kept : NeedsKept g.size v w

pub mark_law : (w : List ℕ) (cells : List Cell) (h : Header) (g : Graph) → HeaderOf h g → Covered w cells g → ((v : ℕ) → v ≤ g.size → needed_at w g.size v ≡ 0)
    → MarkedFrom w (marked cells w h.size h.outputs (ordered_count h)) cells g
mark_law w cells h g e c z =
    subst (λ (x : List ℕ). MarkedFrom w x cells g)
    (sym (λ i. marked cells w (e.size i) (e.outputs i) (ordered-is h g e c.represented.accepted i)))
    (record {
      needs = record { marks = λ l b. (marked-marks cells g w c z).mark l (omega arith) };
      kept = marked-kept cells g w c;
    })

-- what is asked of the words before marking
pub mark_asked : (w : List ℕ) (cells : List Cell) (h : Header) (g : Graph) → HeaderOf h g → Covered w cells g
    → MatchesIn cells w h.size × OutputsIn w h.size h.outputs × SlotsIn w h.size (ordered_count h)
mark_asked w cells h g e c = (
  rw e.size (ready cells g w c),
  rw (e.size, e.outputs) (outputs_in w g c.represented),
  rw (e.size, ordered-is h g e c.represented.accepted) (slots_in w g c.represented),
)
