-- A check is refused exactly by the conditions, in checking order, and reads what they say: for every library, graph, netlist and number of lent words.
use Rattle.base.specs.{ℕ, ◌+◌, ◌*◌, ◌≤◌, arith, ◌≡◌, refl, sym, ◌∙◌, ap, subst, ◌⊎◌, inl, inr, ◌↔◌, ⊎_elim, ◌&&◌, None, Some, List}
use Rattle.base.specs.{◌∷◌, ◌++◌, T, leb, length, drop, length-append, and_yes, yes_and, leb_yes, yes_leb}
use Rattle.model.specs.{lowest, need, unordered, and_vars, Read, holds, next, unless, read_library, read_header, read_graph, Driver, Edited}
use Rattle.model.specs.{input_nets, line_ends, read_netlist, validate_nets, unless_at, read_edited, OrderOfAll}
use Rattle.model.specs.Graph.{Graph}
use Rattle.model.specs.declared.Cell.{Cell}
use Rattle.model.specs.declared.Header.{Header}
use Rattle.promises.specs.{Exactly, LibraryHolds, LibraryFault, HeaderHolds, HeaderFault, GraphIn, GraphFault, LowestUnordered}
use Rattle.theory_calls.proofs.{tens_are, tens_only}
use Rattle.theory_graph.specs.{distinct}
use Rattle.theory_order.proofs.{lowest-none, none_in, unordered-none_iff, unordered-lowest_iff}
use Rattle.theory_text.proofs.{library-fits, graph-known, once-distinct}
use Rattle.theory_refusals.proofs.{exactly_next, exactly_unless, exactly_holds, exactly_map, library_exactly, header_exactly, graph_exactly}
use Rattle.promises.specs.CheckForms.{InputNames}
use Rattle.promises.specs.CheckRefusals.{EditedIn, EditedFault, NetsHold, NetsFault, AllShort, Enough, ToGraph}
use Rattle.promises.specs.CheckRefusals.{ToNetlist}
use Rattle.promises.specs.CheckRefusals.{CheckFault, one, of_library, of_header, ten, of_graph, fifteen, thirty_one, of_netlist, of_nets}
use Rattle.promises.specs.CheckRefusals.{CheckHolds}
use Rattle.promises.specs.CheckRefusals.{CheckRefusals}
use Rattle.theory_check.proofs.CheckNets.{exactly_at, nets_exactly}
use Rattle.theory_check.proofs.CheckWords.{inputs-only, inputs_are}
use Rattle.theory_check.proofs.CheckExactly.{edited_exactly}

-- ---- the inputs' nets

nets_are : (g : Graph) → InputNames g.inputs (input_nets g)
unfolding input_nets
nets_are g = inputs_are g.inputs

nets-only : (g : Graph) {ws : List (List ℕ)} → InputNames g.inputs ws → ws ≡ input_nets g
unfolding input_nets
nets-only g r = inputs-only r

-- ---- 15

module _ (g : Graph) (once : T (distinct (0 ∷ g.inputs ++ and_vars g))) where
  unordered-some : (v : ℕ) → (lowest (unordered g) ≡ Some v) ↔ LowestUnordered g v
  unordered-some v =
      let i = unordered-lowest_iff g once v in
      ((λ e. let p = i.0 e in record { is_and = p.0; no_order = p.1; lower = p.2 }), λ l. i.1 (l.is_and, l.no_order, l.lower))

  unordered-not : (lowest (unordered g) ≡ None) ↔ OrderOfAll g
  unordered-not = (
    (λ e. (unordered-none_iff g once).0 (none_in (unordered g) (λ v m. lowest-none (unordered g) e v m))),
    λ o.
        (unfold lowest in ap lowest ((unordered-none_iff g once).1 o)),
  )

module _ (library graph netlist : List ℕ) (words : ℕ) where
  -- ---- what the texts before are

  inside : (h : Header) → HeaderHolds graph h → h.next ≤ length graph
  inside h x = let b = x.begins in omega (arith, ap length b.whole ∙ length-append b.front b.behind, b.is.next)

  abbrev GraphIs : Header → Graph → Type 0
  GraphIs h g = GraphIn (drop h.next graph) h g

  once_in : (h : Header) → HeaderHolds graph h → (g : Graph) → GraphIs h g → T (distinct (0 ∷ g.inputs ++ and_vars g))
  once_in h x g y =
      once-distinct (0 ∷ g.inputs ++ and_vars g) (graph-known graph h g (((header_exactly graph).accepts h).1 x) (((graph_exactly graph h (inside h x)).accepts g).1 y)).once

  short_form : T (leb (length library) 65536 && (leb (length graph) 65536 && leb (length netlist) 65536)) → AllShort library graph netlist
  short_form t =
      let p = and_yes (leb (length library) 65536) (leb (length graph) 65536 && leb (length netlist) 65536) t in
      let q = and_yes (leb (length graph) 65536) (leb (length netlist) 65536) p.1 in
      (leb_yes p.0, leb_yes q.0, leb_yes q.1)

  short_back : AllShort library graph netlist → T (leb (length library) 65536 && (leb (length graph) 65536 && leb (length netlist) 65536))
  short_back h =
      yes_and (leb (length library) 65536) (leb (length graph) 65536 && leb (length netlist) 65536) (yes_leb h.0) (yes_and (leb (length graph) 65536) (leb (length netlist) 65536) (yes_leb h.1) (yes_leb h.2))

  -- ---- 32 and 33

  abbrev made : Graph → List Driver → Edited
  made g es = record { graph = g; drivers = es }

  abbrev Nets : List Cell → Graph → Edited → Type 0
  Nets cs g e = (ds : List Driver) × (x : EditedIn cs g netlist ds) × ((es : List Driver) × (y : NetsHold (input_nets g) ds es) × (made g es ≡ e))

  abbrev NoNets : List Cell → Graph → ℕ → ℕ → Type 0
  NoNets cs g n k = EditedFault cs g netlist n k ⊎ ((ds : List Driver) × (x : EditedIn cs g netlist ds) × (NetsFault (input_nets g) ds n k ⊎ ((es : List Driver) × (y : NetsHold (input_nets g) ds es) × ⊥)))

  abbrev read_nets : List Cell → Graph → Read Edited
  read_nets cs g = next (read_netlist cs g netlist) (λ ds. next (validate_nets (input_nets g) ds) (λ es. holds (made g es)))

  -- ---- 15 and 31

  abbrev Few : Graph → Type 0
  Few g = length g.inputs ≤ 12

  abbrev Ordered : List Cell → Graph → Edited → Type 0
  Ordered cs g e = OrderOfAll g × (Few g × Nets cs g e)

  abbrev NotOrdered : List Cell → Graph → ℕ → ℕ → Type 0
  NotOrdered cs g n k = ((n ≡ 15) × LowestUnordered g k) ⊎ (OrderOfAll g × (((¬ Few g) × (n ≡ 31) × (k ≡ 0)) ⊎ (Few g × NoNets cs g n k)))

  abbrev read_ordered : List Cell → Graph → Read Edited
  read_ordered cs g = unless_at (lowest (unordered g)) 15 (unless (leb (length g.inputs) 12) 31 0 (read_nets cs g))

  -- ---- 10 and the graph

  abbrev Headed : List Cell → Edited → Type 0
  Headed cs e = (h : Header) × (x : HeaderHolds graph h) × (Enough netlist words h × ((g : Graph) × (y : GraphIs h g) × Ordered cs g e))

  abbrev NotHeaded : List Cell → ℕ → ℕ → Type 0
  NotHeaded cs n k =
      HeaderFault graph n k
      ⊎ ((h : Header) × (x : HeaderHolds graph h) × (((¬ Enough netlist words h) × (n ≡ 10) × (k ≡ 0)) ⊎ (Enough netlist words h × (GraphFault (drop h.next graph) h n k ⊎ ((g : Graph) × (y : GraphIs h g) × NotOrdered cs g n k)))))

  enough_form : (h : Header) → need h.size h.outputs + 8 * line_ends netlist ≤ words → Enough netlist words h
  unfolding need
  enough_form h l = (line_ends netlist, tens_are netlist, l)

  enough-back : (h : Header) → Enough netlist words h → need h.size h.outputs + 8 * line_ends netlist ≤ words
  unfolding need
  enough-back h (n, t, l) = omega (arith, tens_only t)

  abbrev read_headed : List Cell → Read Edited
  read_headed cs = next (read_header graph) (λ h. unless (leb (need h.size h.outputs + 8 * line_ends netlist) words) 10 0 (next (read_graph graph h) (read_ordered cs)))

  headed-read : (cs : List Cell) → LibraryHolds library cs → Exactly (Headed cs) (NotHeaded cs) (read_headed cs)
  unfolding need
  headed-read cs c =
      exactly_next (λ h x e. Enough netlist words h × ((g : Graph) × (y : GraphIs h g) × Ordered cs g e))
      (λ h x n k. ((¬ Enough netlist words h) × (n ≡ 10) × (k ≡ 0)) ⊎ (Enough netlist words h × (GraphFault (drop h.next graph) h n k ⊎ ((g : Graph) × (y : GraphIs h g) × NotOrdered cs g n k))))
      (read_header graph) (λ h. unless (leb (need h.size h.outputs + 8 * line_ends netlist) words) 10 0 (next (read_graph graph h) (read_ordered cs))) (header_exactly graph)
      (λ h x. exactly_unless (Enough netlist words h) (leb (need h.size h.outputs + 8 * line_ends netlist) words) 10 0 (next (read_graph graph h) (read_ordered cs)) (λ t. enough_form h (leb_yes t)) (λ y. yes_leb (enough-back h y))
      (exactly_next (λ g y e. Ordered cs g e) (λ g y n k. NotOrdered cs g n k) (read_graph graph h) (read_ordered cs) (graph_exactly graph h (inside h x)) (λ g y.
      (exactly_at (LowestUnordered g) (OrderOfAll g) (lowest (unordered g)) 15 (unless (leb (length g.inputs) 12) 31 0 (read_nets cs g))
      (unordered-some g (once_in h x g y)) (unordered-not g (once_in h x g y)) (λ o. exactly_unless (Few g) (leb (length g.inputs) 12) 31 0
      (read_nets cs g) (λ t. leb_yes t) (λ f. yes_leb f) (
      exactly_next (λ ds x e. (es : List Driver) × (y : NetsHold (input_nets g) ds es) × (made g es ≡ e))
      (λ ds x n k. NetsFault (input_nets g) ds n k ⊎ ((es : List Driver) × (y : NetsHold (input_nets g) ds es) × ⊥))
      (read_netlist cs g netlist) (λ ds. next (validate_nets (input_nets g) ds) (λ es. holds (made g es)))
      (edited_exactly cs g (library-fits library cs (((library_exactly library).accepts cs).1 c)) netlist) (λ ds x.
      exactly_next (λ es y e. made g es ≡ e) (λ es y n k. ⊥) (validate_nets (input_nets g) ds) (λ es. holds (made g es))
      (nets_exactly (input_nets g) ds) (λ es y. exactly_holds (made g es)))))))))

  abbrev All : Edited → Type 0
  All e = AllShort library graph netlist × ((cs : List Cell) × (c : LibraryHolds library cs) × Headed cs e)

  abbrev NotAll : ℕ → ℕ → Type 0
  NotAll n k =
      ((¬ AllShort library graph netlist) × (n ≡ 1) × (k ≡ 0)) ⊎ (AllShort library graph netlist × (LibraryFault library n k ⊎ ((cs : List Cell) × (c : LibraryHolds library cs) × NotHeaded cs n k)))

  -- ---- in the words of the conditions

  to_graph_lem : AllShort library graph netlist → (cs : List Cell) → LibraryHolds library cs → (h : Header) → HeaderHolds graph h → Enough netlist words h → (g : Graph) → GraphIs h g → ToGraph library graph netlist words cs h g
  to_graph_lem s cs c h x w g y = record { to_cells = record { short = s; cells = c }; header = x; enough = w; is_graph = y }

  there : (e : Edited) → All e → CheckHolds library graph netlist words e
  there e p = let gr = p.1.2.2.1 in let pl = gr.2 in let ns = pl.1.1 in subst (CheckHolds library graph netlist words) ns.2.2
      (record {
        cells = p.1.0;
        to_netlist = record {
          header = p.1.2.0;
          to_graph = to_graph_lem p.0 p.1.0 p.1.1 p.1.2.0 p.1.2.1 p.1.2.2.0 gr.0 gr.1;
          ordered = pl.0;
          few = pl.1.0;
        };
        drivers = ns.0;
        are_drivers = ns.1;
        nets = input_nets gr.0;
        are_nets = nets_are gr.0;
        sound = ns.2.1;
      })

  back : (e : Edited) → CheckHolds library graph netlist words e → All e
  back e q = (
    q.to_netlist.to_graph.to_cells.short,
    (
      q.cells,
      q.to_netlist.to_graph.to_cells.cells,
      (
        q.to_netlist.header,
        q.to_netlist.to_graph.header,
        (
          q.to_netlist.to_graph.enough,
          (
            e.graph,
            q.to_netlist.to_graph.is_graph,
            (
              q.to_netlist.ordered,
              (q.to_netlist.few, (q.drivers, q.are_drivers, (e.drivers, (rw (← nets-only e.graph q.are_nets) q.sound), refl))),
            ),
          ),
        ),
      ),
    ),
  )

  as_fault : (m j n k : ℕ) → n ≡ m → k ≡ j → CheckFault library graph netlist words m j → CheckFault library graph netlist words n k
  as_fault m j n k e f x = subst (λ (i : ℕ). CheckFault library graph netlist words i k) (sym e) (subst (CheckFault library graph netlist words m) (sym f) x)

  down : (n k : ℕ) → NotAll n k → CheckFault library graph netlist words n k
  down n k (inl p) = as_fault 1 0 n k p.1 p.2 (one p.0)
  down n k (inr p) = ⊎_elim (of_library p.0) (λ q. in_header q.0 q.1 q.2) p.1
    where
      in_nets : (cs : List Cell) (g : Graph) → ToNetlist library graph netlist words cs g → NoNets cs g n k → CheckFault library graph netlist words n k
      in_nets cs g m (inl f) = of_netlist m f
      in_nets cs g m (inr q) = ⊎_elim (of_nets m q.1 (nets_are g)) (λ e. absurd e.2) q.2

      in_ordered : (cs : List Cell) (h : Header) (g : Graph) → ToGraph library graph netlist words cs h g → NotOrdered cs g n k → CheckFault library graph netlist words n k
      in_ordered cs h g t (inl q) = as_fault 15 k n k q.0 refl (fifteen t q.1)
      in_ordered cs h g t (inr q) = ⊎_elim (λ f. as_fault 31 0 n k f.1 f.2 (thirty_one t q.0 f.0))
          (λ e. in_nets cs g (record { header = h; to_graph = t; ordered = q.0; few = e.0 }) e.1) q.1

      in_header : (cs : List Cell) → LibraryHolds library cs → NotHeaded cs n k → CheckFault library graph netlist words n k
      in_header cs c (inl f) = of_header (record { short = p.0; cells = c }) f
      in_header cs c (inr q) = ⊎_elim (λ f. as_fault 10 0 n k f.1 f.2 (ten (record { short = p.0; cells = c }) q.1 f.0))
          (λ e. in_graph q.0 q.1 e.0 e.1) q.2
        where
          in_graph : (h : Header) → HeaderHolds graph h → Enough netlist words h → GraphFault (drop h.next graph) h n k ⊎ ((g : Graph) × (y : GraphIs h g) × NotOrdered cs g n k) → CheckFault library graph netlist words n k
          in_graph h x w (inl f) = of_graph (record { short = p.0; cells = c }) x w f
          in_graph h x w (inr f) = in_ordered cs h f.0 (to_graph_lem p.0 cs c h x w f.0 f.1) f.2

  -- what the texts up to the graph leave
  of_graph_lem : {cs : List Cell} {h : Header} {g : Graph} {n k : ℕ} → ToGraph library graph netlist words cs h g → NotOrdered cs g n k → NotAll n k
  of_graph_lem {cs} {h} {g} t f = inr (t.to_cells.short, inr (cs, t.to_cells.cells, inr (h, t.header, inr (t.enough, inr (g, t.is_graph, f)))))

  of_netlist_lem : {cs : List Cell} {g : Graph} {n k : ℕ} → ToNetlist library graph netlist words cs g → NoNets cs g n k → NotAll n k
  of_netlist_lem m f = of_graph_lem m.to_graph (inr (m.ordered, inr (m.few, f)))

  up : (n k : ℕ) → CheckFault library graph netlist words n k → NotAll n k
  up n k (one s) = inl (s, refl, refl)
  up n k (of_library s f) = inr (s, inl f)
  up n k (of_header {cs} c f) = inr (c.short, inr (cs, c.cells, inl f))
  up n k (ten {cs} {h} c x w) = inr (c.short, inr (cs, c.cells, inr (h, x, inl (w, refl, refl))))
  up n k (of_graph {cs} {h} c x w f) = inr (c.short, inr (cs, c.cells, inr (h, x, inr (w, inl f))))
  up n k (fifteen t l) = of_graph_lem t (inl (refl, l))
  up n k (thirty_one t o f) = of_graph_lem t (inr (o, inl (f, refl, refl)))
  up n k (of_netlist m f) = of_netlist_lem m (inl f)
  up n k (of_nets {g = g} {ds} m x r f) = of_netlist_lem m (inr (ds, x, inl (subst (λ (ws : List (List ℕ)). NetsFault ws ds n k) (nets-only g r) f)))

  pub check_exactly : CheckRefusals library graph netlist words
  check_exactly = exactly_map (read_edited library graph netlist words) (λ e. (there e, back e)) (λ n k. (down n k, up n k))
      (unfold read_edited in exactly_unless (AllShort library graph netlist)
      (leb (length library) 65536 && (leb (length graph) 65536 && leb (length netlist) 65536)) 1 0
      (next (read_library library) read_headed) short_form short_back (exactly_next (λ cs c e. Headed cs e) (λ cs c n k. NotHeaded cs n k)
      (read_library library) read_headed (library_exactly library) (λ cs c. headed-read cs c)))
