-- The texts of a call are read exactly where none of the refusals before 15 applies, and the first that applies comes exactly by its condition.
use Rattle.base.specs.{ℕ, suc, ◌+◌, ◌*◌, ◌≤◌, ◌<◌, arith, ◌≡◌, refl, sym, ◌∙◌, ap, subst, ◌⊎◌, inl, inr, ⊎_elim, ◌&&◌, List, T, leb, length}
use Rattle.base.specs.{drop, length-append, and_yes, yes_and, leb_yes, yes_leb, not-le_of_lt}
use Rattle.model.specs.{need, Read, holds, next, unless, read_library, cells_for, read_header, read_graph, InputArrival, read_arrivals, timed_by, Call}
use Rattle.model.specs.{Design, design_of, short, read_listed, read_texts}
use Rattle.model.specs.Graph.{Graph}
use Rattle.model.specs.declared.Cell.{Cell}
use Rattle.model.specs.declared.Header.{Header}
use Rattle.promises.specs.{Exactly, LibraryFault, LibraryHolds, HeaderFault, HeaderHolds, GraphFault, GraphIn, ArrivalsFault, ArrivalsHold}
use Rattle.promises.specs.{Short, ToCells, ToHeader, ToDesign, TextsFault, one, of_library, thirty, of_header, of_graph, of_arrivals}
use Rattle.promises.specs.Refusals.{ten, Refusals}
use Rattle.theory_refusals.proofs.ReadResults.{exactly_next, exactly_unless, exactly_map, exactly_holds}
use Rattle.theory_refusals.proofs.LibraryForms.{library_exactly}
use Rattle.theory_refusals.proofs.HeaderForms.{header_exactly}
use Rattle.theory_refusals.proofs.GraphForms.{graph_exactly}
use Rattle.theory_refusals.proofs.ArrivalForms.{arrivals_exactly}

over : (n m : ℕ) → (¬ (n ≤ m)) → m < n
over n m h = omega arith

module _ (c : Call) where
  short_form : T (short c) → Short c
  short_form t =
      let p = and_yes (leb (length c.library) 65536) (leb (length c.graph) 65536 && leb (length c.arrivals) 65536) t in
      let q = and_yes (leb (length c.graph) 65536) (leb (length c.arrivals) 65536) p.1 in
      (leb_yes p.0, leb_yes q.0, leb_yes q.1)

  short_back : Short c → T (short c)
  short_back h = yes_and (leb (length c.library) 65536) (leb (length c.graph) 65536 && leb (length c.arrivals) 65536)
      (yes_leb h.0) (yes_and (leb (length c.graph) 65536) (leb (length c.arrivals) 65536) (yes_leb h.1) (yes_leb h.2))

  -- ---- the listed cells

  abbrev Few : List Cell → Type 0
  Few cs = length (cells_for c.paired cs) ≤ 256

  abbrev Cells : List Cell → Type 0
  Cells cs = (a : List Cell) × (x : LibraryHolds c.library a) × (Few a × (a ≡ cs))

  abbrev NoCells : ℕ → ℕ → Type 0
  NoCells n k = LibraryFault c.library n k ⊎ ((a : List Cell) × (x : LibraryHolds c.library a) × (((¬ Few a) × (n ≡ 30) × (k ≡ 0)) ⊎ (Few a × ⊥)))

  -- ---- behind the header

  inside : (h : Header) → HeaderHolds c.graph h → h.next ≤ length c.graph
  inside h x = let b = x.begins in omega (arith, ap length b.whole ∙ length-append b.front b.behind, b.is.next)

  abbrev Words : Header → Type 0
  Words h = 124 * suc h.size + h.outputs ≤ c.words

  abbrev Timed : List Cell → Header → Design → Type 0
  Timed cs h d =
      (g : Graph) × (x : GraphIn (drop h.next c.graph) h g) × ((es : List InputArrival) × (y : ArrivalsHold h.inputs c.arrivals es) × (design_of c cs (timed_by g es) ≡ d))

  abbrev Untimed : List Cell → Header → ℕ → ℕ → Type 0
  Untimed cs h n k = GraphFault (drop h.next c.graph) h n k ⊎ ((g : Graph) × (x : GraphIn (drop h.next c.graph) h g) ×
      (ArrivalsFault h.inputs c.arrivals n k ⊎ ((es : List InputArrival) × (y : ArrivalsHold h.inputs c.arrivals es) × ⊥)))

  abbrev read_timed : List Cell → Header → Read Design
  read_timed cs h = next (read_graph c.graph h) (λ g. next (read_arrivals h.inputs c.arrivals) (λ es. holds (design_of c cs (timed_by g es))))

  abbrev Headed : List Cell → Design → Type 0
  Headed cs d = (h : Header) × (x : HeaderHolds c.graph h) × (Words h × Timed cs h d)

  abbrev Unheaded : List Cell → ℕ → ℕ → Type 0
  Unheaded cs n k = HeaderFault c.graph n k ⊎ ((h : Header) × (x : HeaderHolds c.graph h) × (((¬ Words h) × (n ≡ 10) × (k ≡ 0)) ⊎ (Words h × Untimed cs h n k)))

  abbrev read_headed : List Cell → Read Design
  read_headed cs = next (read_header c.graph) (λ h. unless (leb (need h.size h.outputs) c.words) 10 0 (read_timed cs h))

  headed_exactly : (cs : List Cell) → Exactly (Headed cs) (Unheaded cs) (read_headed cs)
  unfolding need
  headed_exactly cs =
      exactly_next (λ h x d. Words h × Timed cs h d) (λ h x n k. ((¬ Words h) × (n ≡ 10) × (k ≡ 0)) ⊎ (Words h × Untimed cs h n k)) (read_header c.graph)
      (λ h. unless (leb (need h.size h.outputs) c.words) 10 0 (read_timed cs h)) (header_exactly c.graph)
      (λ h x. exactly_unless (Words h) (leb (need h.size h.outputs) c.words) 10 0 (read_timed cs h) (λ t. leb_yes t) (λ y. yes_leb y) (
      exactly_next (λ g y d. (es : List InputArrival) × (z : ArrivalsHold h.inputs c.arrivals es) × (design_of c cs (timed_by g es) ≡ d))
      (λ g y n k. ArrivalsFault h.inputs c.arrivals n k ⊎ ((es : List InputArrival) × (z : ArrivalsHold h.inputs c.arrivals es) × ⊥))
      (read_graph c.graph h) (λ g. next (read_arrivals h.inputs c.arrivals) (λ es. holds (design_of c cs (timed_by g es))))
      (graph_exactly c.graph h (inside h x)) (λ g y. exactly_next (λ es z d. design_of c cs (timed_by g es) ≡ d) (λ es z n k. ⊥)
      (read_arrivals h.inputs c.arrivals) (λ es. holds (design_of c cs (timed_by g es))) (arrivals_exactly h.inputs c.arrivals)
      (λ es z. exactly_holds (design_of c cs (timed_by g es))))))

  abbrev All : Design → Type 0
  All d = Short c × ((cs : List Cell) × (x : Cells cs) × Headed cs d)

  abbrev NotAll : ℕ → ℕ → Type 0
  NotAll n k = ((¬ Short c) × (n ≡ 1) × (k ≡ 0)) ⊎ (Short c × (NoCells n k ⊎ ((cs : List Cell) × (x : Cells cs) × Unheaded cs n k)))

  all_exactly : Exactly All NotAll (read_texts c)
  unfolding read_texts
  all_exactly = exactly_unless (Short c) (short c) 1 0 (next (read_listed c.paired c.library) read_headed) short_form short_back
      (exactly_next (λ cs x d. Headed cs d) (λ cs x n k. Unheaded cs n k) (read_listed c.paired c.library) read_headed
      (unfold read_listed in exactly_next (λ a x cs. Few a × (a ≡ cs)) (λ a x n k. ((¬ Few a) × (n ≡ 30) × (k ≡ 0)) ⊎ (Few a × ⊥))
      (read_library c.library) (λ cells. unless (leb (length (cells_for c.paired cells)) 256) 30 0 (holds cells))
      (library_exactly c.library) (λ a x. exactly_unless (Few a) (leb (length (cells_for c.paired a)) 256) 30 0 (holds a)
      (λ t. leb_yes t) (λ h. yes_leb h) (exactly_holds a))) (λ cs x. headed_exactly cs))

  -- ---- in the words of the conditions

  to_cells_lem : Short c → (cs : List Cell) → Cells cs → ToCells c cs
  to_cells_lem s cs p = subst (ToCells c) p.2.1 (record { short = s; cells = p.1; few = p.2.0 })

  from-cells : (cs : List Cell) → ToCells c cs → Cells cs
  from-cells cs x = (cs, x.cells, (x.few, refl))

  there : (d : Design) → All d → ToDesign c d
  there d p =
      let cs = p.1.0 in
      let hd = p.1.2 in
      let tm = hd.2.1 in
      record {
        listed = p.1.0;
        header = hd.0;
        graph = tm.0;
        lates = tm.2.0;
        to_graph = record { to_header = record { to_cells = to_cells_lem p.0 cs p.1.1; header = hd.1 }; enough = hd.2.0; graph = tm.1 };
        arrivals = tm.2.1;
        is_design = tm.2.2;
      }

  back : (d : Design) → ToDesign c d → All d
  back d x = (
    x.to_graph.to_header.to_cells.short,
    (
      x.listed,
      from-cells x.listed x.to_graph.to_header.to_cells,
      (
        x.header,
        x.to_graph.to_header.header,
        (x.to_graph.enough, (x.graph, x.to_graph.graph, (x.lates, x.arrivals, x.is_design))),
      ),
    ),
  )

  at : (n k m j : ℕ) → n ≡ m → k ≡ j → TextsFault c m j → TextsFault c n k
  at n k m j e f x = subst (λ (u : ℕ). TextsFault c u k) (sym e) (subst (TextsFault c m) (sym f) x)

  down : (n k : ℕ) → NotAll n k → TextsFault c n k
  down n k (inl x) = at n k 1 0 x.1 x.2 (one x.0)
  down n k (inr x) = ⊎_elim cells (λ q. headed q.0 (to_cells_lem s q.0 q.1) q.2) x.1
    where
      s : Short c
      s = x.0

      cells : NoCells n k → TextsFault c n k
      cells (inl y) = of_library s y
      cells (inr y) = more y.2
        where
          more : ((¬ Few y.0) × (n ≡ 30) × (k ≡ 0)) ⊎ (Few y.0 × ⊥) → TextsFault c n k
          more (inl z) = at n k 30 0 z.1 z.2 (thirty s y.1 (over (length (cells_for c.paired y.0)) 256 z.0))
          more (inr z) = absurd z.1

      timed : (cs : List Cell) (h : Header) → ToHeader c cs h → Words h → Untimed cs h n k → TextsFault c n k
      timed cs h t w (inl y) = of_graph t w y
      timed cs h t w (inr y) = ⊎_elim (of_arrivals (record { to_header = t; enough = w; graph = y.1 })) (λ q. absurd q.2) y.2

      headed : (cs : List Cell) → ToCells c cs → Unheaded cs n k → TextsFault c n k
      headed cs t (inl y) = of_header t y
      headed cs t (inr y) = more y.2
        where
          more : ((¬ Words y.0) × (n ≡ 10) × (k ≡ 0)) ⊎ (Words y.0 × Untimed cs y.0 n k) → TextsFault c n k
          more (inl z) = at n k 10 0 z.1 z.2 (ten (record { to_cells = t; header = y.1 }) (over (124 * suc y.0.size + y.0.outputs) c.words z.0))
          more (inr z) = timed cs y.0 (record { to_cells = t; header = y.1 }) z.0 z.1

  up : (n k : ℕ) → TextsFault c n k → NotAll n k
  up n k (one x) = inl (x, refl, refl)
  up n k (of_library s x) = inr (s, inl (inl x))
  up n k (thirty {cs} s x f) = inr (s, inl (inr (cs, x, inl (not-le_of_lt f, refl, refl))))
  up n k (of_header {cs} t x) = inr (t.short, inr (cs, from-cells cs t, inl x))
  up n k (ten {cs} {h} t x) = inr (t.to_cells.short, inr (cs, from-cells cs t.to_cells, inr (h, t.header, inl (not-le_of_lt x, refl, refl))))
  up n k (of_graph {cs} {h} t w x) = inr (t.to_cells.short, inr (cs, from-cells cs t.to_cells, inr (h, t.header, inr (w, inl x))))
  up n k (of_arrivals {cs} {h} {g} t x) = inr (t.to_header.to_cells.short, inr (cs, from-cells cs t.to_header.to_cells, inr (h, t.to_header.header, inr (t.enough, inr (g, t.graph, inl x)))))

  -- the texts of a call, whole
  pub texts_exactly : Refusals c
  texts_exactly = exactly_map (read_texts c) (λ d. (there d, back d)) (λ n k. (down n k, up n k)) all_exactly
