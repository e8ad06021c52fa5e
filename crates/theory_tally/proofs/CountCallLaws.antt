-- A count and a report answer exactly by the conditions over the bytes.
--     count_exactly       1, the library's refusals, 28 and 29, for every tally, library and netlist
--     report_exactly      1, the library's refusals, 28 and 18, for every tally, library and number of lent bytes
use Rattle.base.specs.{ℕ, ◌^◌, ◌≤◌, ◌≡◌, refl, sym, ◌∙◌, ap, subst, ◌⊎◌, inl, inr, ⊎_elim, Bool, ◌&&◌, List, [], ◌++◌, append-nil}
use Rattle.base.specs.{append_assoc, T, leb, ltb, length, and_yes, yes_and, leb_yes, yes_leb, ltb_yes, yes_ltb}
use Rattle.model.specs.{all, Read, holds, next, unless, ranged_lines, is_ranged, read_library, in_width, read_counted, counted, count_text}
use Rattle.model.specs.{report_text, report_of}
use Rattle.model.specs.declared.Cell.{Cell}
use Rattle.model.specs.declared.Tally.{Tally}
use Rattle.promises.specs.{Exactly, CellsIn, no_cell, a_cell, LibraryFault, LibraryHolds}
use Rattle.theory_graph.proofs.{all_of, all_in}
use Rattle.theory_graph.specs.{library_fits}
use Rattle.theory_text.proofs.{library-fits}
use Rattle.theory_refusals.proofs.{exactly_next, exactly_unless, exactly_holds, exactly_map, reads-names, names-read, library_exactly}
use Rattle.promises.specs.CountRefusals.{NetlistIn, NetlistFault, Narrow, HasCapacity, BothShort, CountFault, CountHolds, ReportFault, ReportHolds}
use Rattle.promises.specs.CountRefusals.{ReportRefusals}
use Rattle.promises.specs.CountRefusals.{CountRefusals}
use Rattle.promises.specs.CountRefusals.CountFault.{one, of_library, twenty_eight, of_netlist}
use Rattle.promises.specs.CountRefusals.ReportFault.{one as r-one, of_library as r-library, twenty_eight as r-twenty_eight}
use Rattle.promises.specs.CountRefusals.ReportFault.{eighteen as r-eighteen}
use Rattle.theory_tally.proofs.CountExactly.{netlist_exactly}

-- ---- the library's names line says whether delays are ranges

names-ranged : {r : Bool} {s : List ℕ} {cs : List Cell} → CellsIn r s cs → (rest : List ℕ) → is_ranged (s ++ rest) ≡ r
unfolding is_ranged ranged_lines
names-ranged {r} {s} (no_cell n) rest = let k = reads-names.back 0 s rest r n in ap ranged_lines k.lines ∙ (names-read k.line r k.read).1
names-ranged (a_cell {s} {l} c few line new clean low) rest = ap is_ranged (append_assoc s l rest) ∙ names-ranged c (l ++ rest)

ranged-is : {r : Bool} {t : List ℕ} {cs : List Cell} → CellsIn r t cs → is_ranged t ≡ r
ranged-is {t = t} c = ap is_ranged (sym (append-nil t)) ∙ names-ranged c []

cells_in : {t : List ℕ} {cs : List Cell} → LibraryHolds t cs → CellsIn (is_ranged t) t cs
cells_in {t} {cs} x = subst (λ (r : Bool). CellsIn r t cs) (sym (ranged-is x.1)) x.1

cells_fit : {t : List ℕ} {cs : List Cell} → LibraryHolds t cs → T (library_fits cs)
cells_fit {t} {cs} x = library-fits t cs (((library_exactly t).accepts cs).1 x)

-- ---- 28

narrow_form : (t : Tally) → T (in_width t) → Narrow t
unfolding in_width
narrow_form t h =
    let a = and_yes (all (λ (n : ℕ). leb n (2 ^ 40)) t.gates) (all (λ (n : ℕ). leb n (2 ^ 40)) t.areas && (all (λ (n : ℕ). leb n (2 ^ 40)) t.occurs && leb t.netlists (2 ^ 40))) h in
    let b = and_yes (all (λ (n : ℕ). leb n (2 ^ 40)) t.areas) (all (λ (n : ℕ). leb n (2 ^ 40)) t.occurs && leb t.netlists (2 ^ 40)) a.1 in
    let c = and_yes (all (λ (n : ℕ). leb n (2 ^ 40)) t.occurs) (leb t.netlists (2 ^ 40)) b.1 in
    record {
      gates = λ n m. leb_yes (all_of (λ (x : ℕ). leb x (2 ^ 40)) t.gates a.0 n m);
      areas = λ n m. leb_yes (all_of (λ (x : ℕ). leb x (2 ^ 40)) t.areas b.0 n m);
      occurs = λ n m. leb_yes (all_of (λ (x : ℕ). leb x (2 ^ 40)) t.occurs c.0 n m);
      netlists = leb_yes c.1;
    }

narrow_back : (t : Tally) → Narrow t → T (in_width t)
unfolding in_width
narrow_back t h =
    yes_and (all (λ (n : ℕ). leb n (2 ^ 40)) t.gates) (all (λ (n : ℕ). leb n (2 ^ 40)) t.areas && (all (λ (n : ℕ). leb n (2 ^ 40)) t.occurs && leb t.netlists (2 ^ 40)))
    (all_in (λ (n : ℕ). leb n (2 ^ 40)) t.gates (λ n m. yes_leb (h.gates n m)))
    (yes_and (all (λ (n : ℕ). leb n (2 ^ 40)) t.areas) (all (λ (n : ℕ). leb n (2 ^ 40)) t.occurs && leb t.netlists (2 ^ 40))
    (all_in (λ (n : ℕ). leb n (2 ^ 40)) t.areas (λ n m. yes_leb (h.areas n m)))
    (yes_and (all (λ (n : ℕ). leb n (2 ^ 40)) t.occurs) (leb t.netlists (2 ^ 40)) (all_in (λ (n : ℕ). leb n (2 ^ 40)) t.occurs (λ n m. yes_leb (h.occurs n m))) (yes_leb h.netlists)))

capacity_form : (t : Tally) → T (ltb t.netlists 64 && in_width t) → HasCapacity t
capacity_form t h = let p = and_yes (ltb t.netlists 64) (in_width t) h in (ltb_yes p.0, narrow_form t p.1)

capacity-back : (t : Tally) → HasCapacity t → T (ltb t.netlists 64 && in_width t)
capacity-back t h = yes_and (ltb t.netlists 64) (in_width t) (yes_ltb h.0) (narrow_back t h.1)

-- ---- a count
module _ (t : Tally) (library netlist : List ℕ) where
  short_form : T (leb (length library) 65536 && leb (length netlist) 65536) → BothShort library netlist
  short_form h = let p = and_yes (leb (length library) 65536) (leb (length netlist) 65536) h in (leb_yes p.0, leb_yes p.1)

  short_back : BothShort library netlist → T (leb (length library) 65536 && leb (length netlist) 65536)
  short_back h = yes_and (leb (length library) 65536) (leb (length netlist) 65536) (yes_leb h.0) (yes_leb h.1)

  abbrev Gates : List Cell → Tally → Type 0
  Gates cs u = (us : List ℕ) × (y : NetlistIn (is_ranged library) cs netlist us) × (counted cs us t ≡ u)

  abbrev NoGates : List Cell → ℕ → ℕ → Type 0
  NoGates cs n k = NetlistFault (is_ranged library) cs netlist n k ⊎ ((us : List ℕ) × (y : NetlistIn (is_ranged library) cs netlist us) × ⊥)

  abbrev read_gates : List Cell → Read Tally
  read_gates cs = next (read_counted (is_ranged library) cs netlist) (λ us. holds (counted cs us t))

  gates_exactly : (cs : List Cell) → LibraryHolds library cs → Exactly (Gates cs) (NoGates cs) (read_gates cs)
  gates_exactly cs x =
      exactly_next (λ us y u. counted cs us t ≡ u) (λ us y n k. ⊥) (read_counted (is_ranged library) cs netlist) (λ us. holds (counted cs us t))
      (netlist_exactly (is_ranged library) cs (cells_fit x) netlist) (λ us y. exactly_holds (counted cs us t))

  abbrev All : Tally → Type 0
  All u = BothShort library netlist × ((cs : List Cell) × (x : LibraryHolds library cs) × (HasCapacity t × Gates cs u))

  abbrev NotAll : ℕ → ℕ → Type 0
  NotAll n k = ((¬ BothShort library netlist) × (n ≡ 1) × (k ≡ 0)) ⊎ (BothShort library netlist × (LibraryFault library n k ⊎
      ((cs : List Cell) × (x : LibraryHolds library cs) × (((¬ HasCapacity t) × (n ≡ 28) × (k ≡ 64)) ⊎ (HasCapacity t × NoGates cs n k)))))

  there : (u : Tally) → All u → CountHolds t library netlist u
  there u p =
      let q = p.1 in
      let g = q.2.1 in
      record { short = p.0; ranged = is_ranged library; cells = q.0; are_cells = cells_in q.1; capacity = q.2.0; used = g.0; are_gates = g.1; is_tally = g.2 }

  back : (u : Tally) → CountHolds t library netlist u → All u
  back u h = (h.short, (h.cells, (h.ranged, h.are_cells), (h.capacity, (h.used, rw (ranged-is h.are_cells) h.are_gates, h.is_tally))))

  down : (n k : ℕ) → NotAll n k → CountFault t library netlist n k
  down n k (inl p) = subst (λ (i : ℕ). CountFault t library netlist i k) (sym p.1) (subst (CountFault t library netlist 1) (sym p.2) (one p.0))
  down n k (inr p) = ⊎_elim (of_library p.0) (λ q. ⊎_elim (λ e. rw e.1 (rw e.2 (twenty_eight p.0 (cells_in q.1) e.0)))
      (λ r. ⊎_elim (of_netlist p.0 (cells_in q.1) r.0) (λ e. absurd e.2) r.1) q.2) p.1

  up : (n k : ℕ) → CountFault t library netlist n k → NotAll n k
  up n k (one s) = inl (s, refl, refl)
  up n k (of_library s f) = inr (s, inl f)
  up n k (twenty_eight {ranged} {cs} s c r) = inr (s, inr (cs, (ranged, c), inl (r, refl, refl)))
  up n k (of_netlist {ranged} {cs} s c r f) = inr (s, inr (cs, (ranged, c), inr (r, inl (subst (λ (x : Bool). NetlistFault x cs netlist n k) (sym (ranged-is c)) f))))

  pub count_exactly : CountRefusals t library netlist
  count_exactly = exactly_map (count_text t library netlist) (λ u. (there u, back u)) (λ n k. (down n k, up n k)) (unfold count_text in
      exactly_unless (BothShort library netlist) (leb (length library) 65536 && leb (length netlist) 65536) 1 0
      (next (read_library library) (λ cs. unless (ltb t.netlists 64 && in_width t) 28 64 (read_gates cs))) short_form short_back
      (exactly_next (λ cs x u. HasCapacity t × Gates cs u) (λ cs x n k. ((¬ HasCapacity t) × (n ≡ 28) × (k ≡ 64)) ⊎ (HasCapacity t × NoGates cs n k))
      (read_library library) (λ cs. unless (ltb t.netlists 64 && in_width t) 28 64 (read_gates cs)) (library_exactly library) (λ cs x.
      exactly_unless (HasCapacity t) (ltb t.netlists 64 && in_width t) 28 64 (read_gates cs) (capacity_form t) (capacity-back t) (gates_exactly cs x))))

-- ---- a report
module _ (t : Tally) (library : List ℕ) (bytes : ℕ) where
  abbrev Fits : List Cell → Type 0
  Fits cs = length (report_text cs t) ≤ bytes

  abbrev read_report : List Cell → Read (List ℕ)
  read_report cs = unless (leb (length (report_text cs t)) bytes) 18 (length (report_text cs t)) (holds (report_text cs t))

  abbrev Written : List Cell → ℕ → ℕ → Type 0
  Written cs n k = ((¬ Fits cs) × (n ≡ 18) × (k ≡ length (report_text cs t))) ⊎ (Fits cs × ⊥)

  abbrev Whole : List ℕ → Type 0
  Whole r = (length library ≤ 65536) × ((cs : List Cell) × (x : LibraryHolds library cs) × (Narrow t × (Fits cs × (report_text cs t ≡ r))))

  abbrev NotWhole : ℕ → ℕ → Type 0
  NotWhole n k = ((¬ (length library ≤ 65536)) × (n ≡ 1) × (k ≡ 0)) ⊎ ((length library ≤ 65536) × (LibraryFault library n k ⊎
      ((cs : List Cell) × (x : LibraryHolds library cs) × (((¬ Narrow t) × (n ≡ 28) × (k ≡ 64)) ⊎ (Narrow t × Written cs n k)))))

  in_whole : (r : List ℕ) → Whole r → ReportHolds t library bytes r
  in_whole r p =
      let q = p.1 in
      record { short = p.0; ranged = is_ranged library; cells = q.0; are_cells = cells_in q.1; narrow = q.2.0; capacity = q.2.1.0; is_report = q.2.1.1 }

  of_whole : (r : List ℕ) → ReportHolds t library bytes r → Whole r
  of_whole r h = (h.short, (h.cells, (h.ranged, h.are_cells), (h.narrow, (h.capacity, h.is_report))))

  in_fault : (n k : ℕ) → NotWhole n k → ReportFault t library bytes n k
  in_fault n k (inl p) = subst (λ (i : ℕ). ReportFault t library bytes i k) (sym p.1) (subst (ReportFault t library bytes 1) (sym p.2) (r-one p.0))
  in_fault n k (inr p) = ⊎_elim (r-library p.0) (λ q. ⊎_elim (λ e. rw e.1 (rw e.2 (r-twenty_eight p.0 (cells_in q.1) e.0)))
      (λ r. ⊎_elim (λ f. subst (λ (i : ℕ). ReportFault t library bytes i k) (sym f.1)
      (subst (ReportFault t library bytes 18) (sym f.2) (r-eighteen p.0 (cells_in q.1) r.0 f.0))) (λ e. absurd e.1)
      r.1) q.2) p.1

  of_fault : (n k : ℕ) → ReportFault t library bytes n k → NotWhole n k
  of_fault n k (r-one s) = inl (s, refl, refl)
  of_fault n k (r-library s f) = inr (s, inl f)
  of_fault n k (r-twenty_eight {ranged} {cs} s c r) = inr (s, inr (cs, (ranged, c), inl (r, refl, refl)))
  of_fault n k (r-eighteen {ranged} {cs} s c r f) = inr (s, inr (cs, (ranged, c), inr (r, inl (f, refl, refl))))

  pub report_exactly : ReportRefusals t library bytes
  report_exactly = exactly_map (report_of t library bytes) (λ r. (in_whole r, of_whole r)) (λ n k. (in_fault n k, of_fault n k))
      (unfold report_of in exactly_unless (length library ≤ 65536) (leb (length library) 65536) 1 0
      (next (read_library library) (λ cs. unless (in_width t) 28 64 (read_report cs))) (λ h. leb_yes h) (λ h. yes_leb h)
      (exactly_next (λ cs x r. Narrow t × (Fits cs × (report_text cs t ≡ r)))
      (λ cs x n k. ((¬ Narrow t) × (n ≡ 28) × (k ≡ 64)) ⊎ (Narrow t × Written cs n k)) (read_library library)
      (λ cs. unless (in_width t) 28 64 (read_report cs)) (library_exactly library) (λ cs x. exactly_unless (Narrow t) (in_width t) 28 64
      (read_report cs) (narrow_form t) (narrow_back t) (exactly_unless (Fits cs) (leb (length (report_text cs t)) bytes) 18
      (length (report_text cs t)) (holds (report_text cs t)) (λ h. leb_yes h) (λ h. yes_leb h) (exactly_holds (report_text cs t))))))
