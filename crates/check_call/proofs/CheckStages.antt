-- What each function has once the layer below has answered: the next layer's premise, or the answer.
use Rattle.std.specs.Prelude.{Ok, Err, Result}
use Rattle.model.specs.{Checked, Verdict, refused_with}
use Rattle.model.specs.declared.Refusal.{Refusal}
use Rattle.base.specs.{ℕ, zero, suc, ◌+◌, ◌-◌, ◌*◌, ◌^◌, ◌≤◌, ◌<◌, arith, ◌≡◌, refl, sym, ◌∙◌, ap, ap₂, subst, Bool, true, false, ◌&&◌}
use Rattle.base.specs.{Option, None, Some, List, [], ◌∷◌, map, Memᴰ, Memᴰ-head, Memᴰ-tail, Memᴰ-not-nil, T, leb, leb→le}
use Rattle.base.specs.{le→leb, length, take, drop, get_or, replicate, length-append, length-replicate, get_or-append, take-append_seam}
use Rattle.model.specs.{from, each, lowest, need, Read, holds, fault, next, unless, verdict_of, refused_at, no_cell, blank, cells_of, library_of}
use Rattle.model.specs.{library_answer, unordered, read_library, read_header, read_graph, header_answer, order_verdict, Driver, Edited}
use Rattle.model.specs.{input_nets, read_netlist, validate_nets, settled, wrong_at, compare_from, unless_at, line_ends, read_edited, check_read}
use Rattle.model.specs.{check_texts, result_of, result_by, checked_work, CheckMemory}
use Rattle.model.specs.Graph.{Graph}
use Rattle.model.specs.declared.Cell.{Cell}
use Rattle.model.specs.declared.Library.{Library}
use Rattle.model.specs.declared.Header.{Header}
use Rattle.model.proofs.{check_tells, refusal_parts}
use Rattle.theory_text.proofs.{library-few, library-written, graph-accepted}
use Rattle.theory_check.proofs.{all-ordered}
use Rattle.base_words.specs.{put_at, zeros}
use Rattle.base_text.proofs.{put_front}
use Rattle.graph_order.specs.{Fit, Operands, ordered_verdict, ordered_words}
use Rattle.graph_order.proofs.{fit_length, loaded_operands, order-verdict, ordering_law}
use Rattle.graph_reader.specs.{loaded_words}
use Rattle.graph_reader.proofs.{load_law}
use Rattle.check_reader.specs.{Fitting, driver_words}
use Rattle.check_reader.proofs.{words_long}
use Rattle.check_nets.specs.{no_driver, Ordered, Stored}
use Rattle.check_nets.specs.WiredNets.{Wired}
use Rattle.check_nets.specs.ValidatedNets.{Validated}
use Rattle.check_outputs.specs.Comparable.{Comparable}
use Rattle.check_call.specs.{input_code, Loaded, OrderedGraph, Wireable, validated_read, netlist_read, ordered_read, graph_read, header_read, Left}
use Rattle.check_call.proofs.NetlistShape.{netlist-formed}
use Rattle.check_call.proofs.InputCodes.{codes_are, nets_form, inputs-counted}
use Rattle.check_call.proofs.RefusalNumbers.{Early, library-early, header-early, graph-input-arrival, work_early, work_input-arrival}
use Rattle.check_reader.specs.DriverStore as store

-- ---- 33

module _ (w : List ℕ) (h : Header) (nets : List ℕ) (n : ℕ) (g : Graph) (ds : List Driver) (t : Wireable w h nets n g ds) where
  pub wire_asks : (ins : List ℕ) → ins ≡ put_at (zeros 12) 0 (map (input_code w h.size) (from 0 h.inputs)) → Stored (input_nets g) ds nets ins n h.inputs
  wire_asks ins e = record {
    drivers = t.counted;
    few = t.bounded;
    first = t.stored;
    pins = t.formed.pins;
    own = t.formed.own;
    used = t.formed.used;
    counted = inputs-counted w h g t.ordered;
    twelve = omega (arith, t.ordered.graph_loaded.ins, t.ordered.few);
    codes = codes_are w h g t.ordered ins e;
    names = nets_form w h g t.ordered;
  }

  module _ (v : Verdict) (refs order : List ℕ) (j : Validated (input_nets g) ds v refs order) where
    accepted-is : v ≡ Ok tt → (validate_nets (input_nets g) ds ≡ holds ds) × Wired (input_nets g) ds refs × Ordered ds refs order
    unfolding Validated
    accepted-is e = subst (λ (x : Verdict). Validated (input_nets g) ds x refs order) e j

    pub wired_comparable : v ≡ Ok tt → Comparable w h nets n refs order g ds
    wired_comparable e =
        let a = accepted-is e in
        record {
          before = t.ordered.before;
          fit = t.ordered.fit;
          graph_loaded = t.ordered.graph_loaded;
          accepted = t.ordered.accepted;
          few = t.ordered.few;
          stored = t.stored;
          counted = t.counted;
          bounded = t.bounded;
          pins = t.formed.pins;
          validated = a.0;
          wired = a.1;
          in_order = a.2;
          capacity = omega (arith, t.formed.capacity, t.counted);
          outs = λ k l. ap (λ (m : ℕ). (get_or ds (m - length g.outputs + k) no_driver).net) t.counted ∙ t.formed.last k l;
        }

    pub wired-answer : v ≡ Ok tt → Ok (compare_from (2 ^ length g.inputs) 0 (wrong_at g (settled (length ds) (input_nets g) ds))) ≡ check_read (validated_read g ds)
    unfolding check_read validated_read next
    wired-answer e = sym (ap (λ (r : Read (List Driver)). check_read (next r (λ es. holds (record { graph = g; drivers = es })))) (accepted-is e).0)

    pub wired-stops : (m k : ℕ) → v ≡ refused_with m k → refused_with m k ≡ check_read (validated_read g ds)
    unfolding check_read validated_read next Validated
    wired-stops m k e =
        let f : validate_nets (input_nets g) ds ≡ fault m k = (subst (λ (x : Verdict). Validated (input_nets g) ds x refs order) e j).0 in
        sym (ap (λ (r : Read (List Driver)). check_read (next r (λ es. holds (record { graph = g; drivers = es })))) f)

-- ---- 32

-- what holds at each place below n holds of each of the first n
first-each : (P : Cell → Type 0) (n : ℕ) (xs : List Cell) → ((i : ℕ) → i < n → P (get_or xs i no_cell)) → (c : Cell) → Memᴰ c (take n xs) → P c
first-each P zero xs h c m = absurd (Memᴰ-not-nil m)
first-each P (suc n) [] h c m = absurd (Memᴰ-not-nil m)
first-each P (suc n) (x ∷ xs) h c (Memᴰ-head e) = subst P (sym e) (h 0 (omega arith))
first-each P (suc n) (x ∷ xs) h c (Memᴰ-tail m) = first-each P n xs (λ i l. h (suc i) (omega arith)) c m

fitting-few : (lib : Library) → Fitting lib → (c : Cell) → Memᴰ c (cells_of lib) → c.pins ≤ 4
unfolding cells_of
fitting-few lib f = first-each (λ (c : Cell). c.pins ≤ 4) lib.n lib.cells f.pins

module _ (w : List ℕ) (h : Header) (g : Graph) (p : OrderedGraph w h g) (lib : Library) (f : Fitting lib) (s before nets : List ℕ) where
  pub read-stops : (k : ℕ) → store.Taken s lib g (Err k) before nets → refused_with 32 k ≡ check_read (netlist_read lib g s)
  unfolding check_read netlist_read next
  read-stops k t = sym (ap (λ (x : Read (List Driver)). check_read (next x (validated_read g))) t.follows)

  module _ (n : ℕ) (t : store.Lines s lib g n before nets) where
    pub read_goes : check_read (validated_read g t.drivers) ≡ check_read (netlist_read lib g s)
    unfolding netlist_read next
    read_goes = sym (ap (λ (x : Read (List Driver)). check_read (next x (validated_read g))) t.held)

    pub read_wireable : Wireable w h nets n g t.drivers
    read_wireable =
        let long : length (each driver_words t.drivers) ≡ 8 * length t.drivers = words_long t.drivers in
        record {
          ordered = p;
          stored =
              ap₂ take (let z : 8 * n ≡ length (each driver_words t.drivers) = omega (arith, t.counted, long) in z) (t.stored ∙ put_front before (each driver_words t.drivers))
              ∙ take-append_seam (each driver_words t.drivers) (drop (length (each driver_words t.drivers)) before);
          counted = t.counted;
          bounded = omega (arith, t.few);
          formed = netlist-formed (cells_of lib) (fitting-few lib f) g (omega (arith, p.graph_loaded.outs, p.fit.outs)) s t.drivers t.held;
        }

-- ---- 15 and 31

module _ (w : List ℕ) (h : Header) (g : Graph) (l : Loaded w h g) where
  pub order_asks : Fit h w × Operands w h.size
  order_asks = (fit_length h l.before w l.fit l.graph_loaded.represented.long, loaded_operands l.before h w g (0 ∷ g.inputs) l.graph_loaded)

  module _ (lib : Library) (s : List ℕ) (r : Verdict) (result : r ≡ ordered_verdict w h) where
    ordering_is : r ≡ order_verdict g
    ordering_is = result ∙ order-verdict l.before h l.fit w g l.graph_loaded

    pub ordering_stops : (n k : ℕ) → r ≡ refused_with n k → refused_with n k ≡ check_read (ordered_read lib g s)
    unfolding ordered_read check_read unless_at
    ordering_stops n k e = go (lowest (unordered g)) (unfold order_verdict in sym ordering_is ∙ e)
      where
        go : (o : Option ℕ) → refused_at 15 o ≡ refused_with n k → refused_with n k ≡ check_read (unless_at o 15 (unless (leb (length g.inputs) 12) 31 0 (netlist_read lib g s)))
        go None q = absurd (unfold refused_at in let z : ◌≡◌ {A = ℕ} 0 1 = cc in omega arith)
        go (Some v) q = unfold refused_at in let x = (refusal_parts q).0 in let z = (refusal_parts q).1 in (λ i. refused_with (sym x i) (sym z i))

    module _ (a : r ≡ Ok tt) where
      none_left : lowest (unordered g) ≡ None
      unfolding order_verdict refused_at
      none_left = go (lowest (unordered g)) (sym ordering_is ∙ a)
        where
          go : (o : Option ℕ) → refused_at 15 o ≡ Ok tt → o ≡ None
          go None q = refl
          go (Some v) q = absurd (let z : ◌≡◌ {A = ℕ} 0 1 = cc in omega arith)

      pub many_stop : 12 < h.inputs → refused_with 31 0 ≡ check_read (ordered_read lib g s)
      unfolding ordered_read check_read unless_at unless
      many_stop m = sym (ap (λ (o : Option ℕ). check_read (unless_at o 15 (unless (leb (length g.inputs) 12) 31 0 (netlist_read lib g s)))) none_left ∙ go (leb (length g.inputs) 12) (leb→le (length g.inputs) 12))
        where
          go : (b : Bool) → (T b → length g.inputs ≤ 12) → check_read (unless b 31 0 (netlist_read lib g s)) ≡ refused_with 31 0
          go true y = absurd (let z : length g.inputs ≤ 12 = y tt in omega (arith, l.graph_loaded.ins))
          go false y = refl

      module _ (few : h.inputs ≤ 12) where
        pub few_go : check_read (netlist_read lib g s) ≡ check_read (ordered_read lib g s)
        unfolding ordered_read unless_at unless
        few_go = sym (ap (λ (o : Option ℕ). check_read (unless_at o 15 (unless (leb (length g.inputs) 12) 31 0 (netlist_read lib g s)))) none_left ∙ go (leb (length g.inputs) 12) (le→leb (length g.inputs) 12 (omega (arith, l.graph_loaded.ins))))
          where
            go : (b : Bool) → T b → check_read (unless b 31 0 (netlist_read lib g s)) ≡ check_read (netlist_read lib g s)
            go true y = refl
            go false y = absurd y

        pub few-ordered : (y : List ℕ) → y ≡ ordered_words w h → OrderedGraph y h g
        few-ordered y e = subst (λ (x : List ℕ). OrderedGraph x h g) (sym e) (record {
          before = l.before;
          fit = l.fit;
          graph_loaded = ordering_law l.before h l.fit w g l.graph_loaded;
          accepted = l.accepted (all-ordered (unordered g) none_left);
          few = omega (arith, l.graph_loaded.ins);
        })

-- ---- 11 to 14, 20 and 21

-- a graph was read, and the answer from there on is the whole's
pub record Reads (lib : Library) (s : List ℕ) (h : Header) (netlist y : List ℕ) : Type 0 where
  pub graph : Graph
  pub loaded : Loaded y h graph
  pub goes : check_read (ordered_read lib graph netlist) ≡ check_read (graph_read lib s h netlist)

module _ (lib : Library) (s : List ℕ) (h : Header) (netlist w : List ℕ) (fit : Fit h w) (d : read_header s ≡ holds h) (r : Verdict) (result : r ≡ verdict_of (read_graph s h)) where
  pub reading_loaded : r ≡ Ok tt → (y : List ℕ) → y ≡ loaded_words w s h → Reads lib s h netlist y
  unfolding verdict_of graph_read next
  reading_loaded a y e = go (read_graph s h) refl (sym result ∙ a)
    where
      go : (x : Read Graph) → read_graph s h ≡ x → verdict_of x ≡ Ok tt → Reads lib s h netlist y
      go (holds g) q z = record {
        graph = g;
        loaded = subst (λ (u : List ℕ). Loaded u h g) (sym e) (record { before = w; fit = fit; graph_loaded = load_law w s h fit g q; accepted = graph-accepted s h g d q });
        goes = sym (ap (λ (u : Read Graph). check_read (next u (λ k. ordered_read lib k netlist))) q);
      }
      go (fault n k) q z = absurd (let x : ◌≡◌ {A = ℕ} 0 1 = cc in omega arith)

  pub reading_stops : (n k : ℕ) → r ≡ refused_with n k → refused_with n k ≡ check_read (graph_read lib s h netlist)
  unfolding verdict_of graph_read next check_read
  reading_stops n k a = go (read_graph s h) refl (sym result ∙ a)
    where
      go : (x : Read Graph) → read_graph s h ≡ x → verdict_of x ≡ refused_with n k → refused_with n k ≡ check_read (graph_read lib s h netlist)
      go (holds g) q z = absurd (let x : ◌≡◌ {A = ℕ} 0 1 = cc in omega arith)
      go (fault m j) q z =
          let x = (refusal_parts z).0 in let y = (refusal_parts z).1 in
          sym (ap (λ (u : Read Graph). check_read (next u (λ g. ordered_read lib g netlist))) q ∙ (λ i. refused_with (x i) (y i)))

-- ---- 7 to 10 and 19

header-fault : (r : Read Header) (n k : ℕ) → header_answer r ≡ refused_with n k → r ≡ fault n k
unfolding header_answer
header-fault (holds h) n k e = let z : ◌≡◌ {A = ℕ} 0 1 = cc in absurd (omega arith)
header-fault (fault m j) n k e = let x = (refusal_parts e).0 in let y = (refusal_parts e).1 in (λ i. fault (x i) (y i))

-- a refusal up to 10 leaves the words as they were
left-early : (r : Read Edited) (n k : ℕ) (work : List ℕ) → r ≡ fault n k → Early n k → Left r work (refused_with n k) work
unfolding check_read
left-early r n k work e early = subst (λ (x : Read Edited). Left x work (refused_with n k) work) (sym e) (record { answers = refl; words = work_early n k work early })

module _ (lib : Library) (s netlist work : List ℕ) where
  pub header-stops : (r : Result Header Refusal) → r ≡ header_answer (read_header s) → (n k : ℕ) → r ≡ refused_with n k → Left (header_read lib s netlist (length work)) work (refused_with n k) work
  unfolding header_read next
  header-stops r result n k e =
      let f = header-fault (read_header s) n k (sym result ∙ e) in
      left-early (header_read lib s netlist (length work)) n k work
      (ap (λ (x : Read Header). next x (λ h. unless (leb (need h.size h.outputs + 8 * line_ends netlist) (length work)) 10 0 (graph_read lib s h netlist))) f) ((header-early s).has n k f)

  module _ (h : Header) (d : read_header s ≡ holds h) where
    through : header_read lib s netlist (length work) ≡ unless (leb (need h.size h.outputs + 8 * line_ends netlist) (length work)) 10 0 (graph_read lib s h netlist)
    unfolding header_read next
    through = ap (λ (x : Read Header). next x (λ k. unless (leb (need k.size k.outputs + 8 * line_ends netlist) (length work)) 10 0 (graph_read lib s k netlist))) d

    -- "10 wants 8 more words for each byte 10 in it"
    pub header-short : length work < need h.size h.outputs + 8 * line_ends netlist → Left (header_read lib s netlist (length work)) work (refused_with 10 0) work
    unfolding unless
    header-short l = left-early (header_read lib s netlist (length work)) 10 0 work (through ∙ go (leb (need h.size h.outputs + 8 * line_ends netlist) (length work)) (leb→le (need h.size h.outputs + 8 * line_ends netlist) (length work))) refl
      where
        go : (b : Bool) → (T b → need h.size h.outputs + 8 * line_ends netlist ≤ length work) → unless b 10 0 (graph_read lib s h netlist) ≡ fault 10 0
        go true y = absurd (let z : need h.size h.outputs + 8 * line_ends netlist ≤ length work = y tt in omega arith)
        go false y = refl

    -- "all zero after a later one and after success"
    pub header-done : need h.size h.outputs + 8 * line_ends netlist ≤ length work → (a : Checked) (y : List ℕ) → a ≡ check_read (graph_read lib s h netlist) → y ≡ replicate (length work) 0
        → Left (header_read lib s netlist (length work)) work a y
    unfolding unless
    header-done l a y is cleared =
        subst (λ (x : Read Edited). Left x work a y) (sym (through ∙ go (leb (need h.size h.outputs + 8 * line_ends netlist) (length work)) (le→leb (need h.size h.outputs + 8 * line_ends netlist) (length work) l)))
        (record { answers = is; words = cleared ∙ work_input-arrival (graph_read lib s h netlist) work (graph-input-arrival lib s h netlist) })
      where
        go : (b : Bool) → T b → unless b 10 0 (graph_read lib s h netlist) ≡ graph_read lib s h netlist
        go true q = refl
        go false q = absurd q

-- ---- 1 to 6 and 27

-- a library that was read
pub fitting-read : (s : List ℕ) (cs : List Cell) → read_library s ≡ holds cs → Fitting (library_of cs)
unfolding library_of
fitting-read s cs e = record {
  few = library-few s cs e;
  long = length-append cs (replicate (32 - length cs) blank) ∙ (let z : length (replicate (32 - length cs) blank) ≡ 32 - length cs = length-replicate (32 - length cs) blank in omega (arith, library-few s cs e));
  pins = λ i l. subst (λ (c : Cell). c.pins ≤ 4) (sym (get_or-append cs (replicate (32 - length cs) blank) no_cell i l)) (at-order-graph cs (λ c m. (library-written s cs e c m).0.pins) i l);
}
  where
    at-order-graph : (xs : List Cell) → ((c : Cell) → Memᴰ c xs → c.pins ≤ 4) → (i : ℕ) → i < length xs → (get_or xs i no_cell).pins ≤ 4
    at-order-graph [] h i l = absurd (omega arith)
    at-order-graph (x ∷ xs) h zero l = h x (Memᴰ-head refl)
    at-order-graph (x ∷ xs) h (suc i) l = at-order-graph xs (λ c m. h c (Memᴰ-tail m)) i (omega arith)

cells-back : (cs : List Cell) → cells_of (library_of cs) ≡ cs
unfolding cells_of library_of
cells-back cs = take-append_seam cs _

module _ (library graph netlist work : List ℕ) where
  -- 7 on
  behind_cells : List Cell → Read Edited
  behind_cells cells =
      next (read_header graph) (λ h. unless (leb (need h.size h.outputs + 8 * line_ends netlist) (length work)) 10 0
      (next (read_graph graph h) (λ g. unless_at (lowest (unordered g)) 15 (unless (leb (length g.inputs) 12) 31 0
      (next (read_netlist cells g netlist) (λ ds. next (validate_nets (input_nets g) ds) (λ es. holds (record { graph = g; drivers = es }))))))))

  short : Bool
  short = leb (length library) 65536 && (leb (length graph) 65536 && leb (length netlist) 65536)

  texts_are : read_edited library graph netlist (length work) ≡ unless short 1 0 (next (read_library library) behind_cells)
  unfolding read_edited behind_cells short
  texts_are = refl

  behind-header : (lib : Library) → behind_cells (cells_of lib) ≡ header_read lib graph netlist (length work)
  unfolding behind_cells header_read graph_read ordered_read netlist_read validated_read
  behind-header lib = refl

  memory_of : (r : Read Edited) (a : Checked) (y : List ℕ) → read_edited library graph netlist (length work) ≡ r → Left r work a y → CheckMemory library graph netlist work a y
  unfolding check_texts
  memory_of r a y e l = record { answers = l.answers ∙ ap check_read (sym e); result = ap result_of l.answers ∙ check_tells r ∙ ap result_by (sym e); words = l.words ∙ ap (λ (x : Read Edited). checked_work (check_read x) work) (sym e) }

  short-not : (a b c : Bool) → (T a → T b → T c → ⊥) → (a && (b && c)) ≡ false
  short-not true true true y = absurd (y tt tt tt)
  short-not true true false y = refl
  short-not true false c y = refl
  short-not false b c y = refl

  -- "A text is longer than 65,536 bytes": any of three
  pub long-text : (length library ≤ 65536 → length graph ≤ 65536 → length netlist ≤ 65536 → ⊥) → CheckMemory library graph netlist work (refused_with 1 0) work
  unfolding short unless
  long-text l =
      let e : short ≡ false = short-not (leb (length library) 65536) (leb (length graph) 65536) (leb (length netlist) 65536)
      (λ x y z. l (leb→le (length library) 65536 x) (leb→le (length graph) 65536 y) (leb→le (length netlist) 65536 z)) in
      let f : read_edited library graph netlist (length work) ≡ fault 1 0 = texts_are ∙ ap (λ (b : Bool). unless b 1 0 (next (read_library library) behind_cells)) e in
      memory_of (read_edited library graph netlist (length work)) (refused_with 1 0) work refl (left-early (read_edited library graph netlist (length work)) 1 0 work f refl)

  module _ (short_library : length library ≤ 65536) (short_graph : length graph ≤ 65536) (short_netlist : length netlist ≤ 65536) where
    entered : read_edited library graph netlist (length work) ≡ next (read_library library) behind_cells
    unfolding short unless
    entered =
        texts_are
        ∙ go (leb (length library) 65536) (leb (length graph) 65536) (leb (length netlist) 65536) (le→leb (length library) 65536 short_library) (le→leb (length graph) 65536 short_graph) (le→leb (length netlist) 65536 short_netlist)
      where
        go : (a b c : Bool) → T a → T b → T c → unless (a && (b && c)) 1 0 (next (read_library library) behind_cells) ≡ next (read_library library) behind_cells
        go true true true x y z = refl
        go true true false x y z = absurd z
        go true false c x y z = absurd y
        go false b c x y z = absurd x

    module _ (l : Result Library Refusal) (result : l ≡ library_answer (read_library library)) where
      pub library-stops : (n k : ℕ) → l ≡ refused_with n k → CheckMemory library graph netlist work (refused_with n k) work
      unfolding library_answer next
      library-stops n k e = go (read_library library) refl (sym result ∙ e)
        where
          go : (r : Read (List Cell)) → read_library library ≡ r → library_answer r ≡ refused_with n k → CheckMemory library graph netlist work (refused_with n k) work
          go (holds cs) q z = absurd (let x : ◌≡◌ {A = ℕ} 0 1 = cc in omega arith)
          go (fault m j) q z =
              let x = (refusal_parts z).0 in let y = (refusal_parts z).1 in let f : read_library library ≡ fault n k = q ∙ (λ i. fault (x i) (y i)) in
              memory_of (read_edited library graph netlist (length work)) (refused_with n k) work refl
              (left-early (read_edited library graph netlist (length work)) n k work (entered ∙ ap (λ (r : Read (List Cell)). next r behind_cells) f) ((library-early library).has n k f))

      pub record IsRead (lib : Library) : Type 0 where
        pub fitting : Fitting lib
        pub goes : (a : Checked) (y : List ℕ) → Left (header_read lib graph netlist (length work)) work a y → CheckMemory library graph netlist work a y

      pub library-read : (lib : Library) → l ≡ Ok lib → IsRead lib
      unfolding library_answer next
      library-read lib e = go (read_library library) refl (sym result ∙ e)
        where
          go : (r : Read (List Cell)) → read_library library ≡ r → library_answer r ≡ Ok lib → IsRead lib
          go (fault m j) q z = absurd (let x : ◌≡◌ {A = ℕ} 0 1 = cc in omega arith)
          go (holds cs) q z =
              let is : lib ≡ library_of cs = cc in
              record {
                fitting = subst Fitting (sym is) (fitting-read library cs q);
                goes = λ a y left. memory_of (header_read lib graph netlist (length work)) a y
                    (entered ∙ ap (λ (r : Read (List Cell)). next r behind_cells) (q ∙ ap holds (sym (ap cells_of is ∙ cells-back cs))) ∙ behind-header lib) left;
              }
