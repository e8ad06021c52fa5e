-- The answers of counting and of a report, refusal by refusal, and the library that was read.
use Rattle.std.specs.Prelude.{Ok, Err, Result}
use Rattle.model.specs.declared.Refusal.{Refusal}
use Rattle.base.specs.{ℕ, zero, suc, ◌+◌, ◌-◌, ◌*◌, ◌≤◌, ◌<◌, arith, ◌≡◌, refl, sym, ap, ap₂, ◌∙◌, subst, Bool, true, false, List, [], ◌∷◌}
use Rattle.base.specs.{◌++◌, leb, ltb, length, get_or, replicate, length-append, take-append_seam, lt-ltb, le-ltb, le-leb, lt-leb}
use Rattle.model.specs.{one, Read, holds, fault, next, unless, no_cell, blank, cell_at, cells_of, library_of, library_answer, read_library, refused_with}
use Rattle.model.specs.{is_ranged, in_width, read_counted, times, add_each, counted, count_text, verdict_of, tally_after}
use Rattle.model.specs.declared.Cell.{Cell}
use Rattle.model.specs.declared.Library.{Library}
use Rattle.model.specs.declared.Tally.{Tally}
use Rattle.theory_graph.proofs.{get_or_in}
use Rattle.theory_text.proofs.{library-few, library-written}
use Rattle.base_text.proofs.{and-false}
use Rattle.tally_lines.specs.{Listed}
use Rattle.tally_counting.specs.declared.Counts.{Counts}
use Rattle.tally_counting.specs.{gates_at, areas_at, occurs_at, add_up_to, counted_by, Wide, Blank, Whole, count_read, Handed}
use Rattle.tally_counting.proofs.CountPositions.{add-all, add_same}

-- ---- the library

module _ (o : Read (List Cell)) (a : Result Library Refusal) (is : a ≡ library_answer o) where
  pub record Accepts (lib : Library) : Type 0 where
    pub cells : List Cell
    pub is_read : o ≡ holds cells
    pub is_library : lib ≡ library_of cells

  pub accepted : (lib : Library) → a ≡ Ok lib → Accepts lib
  unfolding library_answer
  accepted lib e = go o refl is
    where
      go : (r : Read (List Cell)) → o ≡ r → a ≡ library_answer r → Accepts lib
      go (holds cs) q p = let z : Ok lib ≡ Ok (library_of cs) = sym e ∙ p in record { cells = cs; is_read = q; is_library = cc }
      go (fault n k) q p = let z : refused_with n k ≡ Ok lib = sym p ∙ e in let y : ◌≡◌ {A = ℕ} 0 1 = cc in absurd (omega arith)

  pub refused-back : (r : Refusal) → a ≡ Err r → o ≡ fault r.number r.place
  unfolding library_answer
  refused-back r e = go o refl is
    where
      go : (x : Read (List Cell)) → o ≡ x → a ≡ library_answer x → o ≡ fault r.number r.place
      go (holds cs) q p = let z : Ok (library_of cs) ≡ Err r = sym p ∙ e in let y : ◌≡◌ {A = ℕ} 0 1 = cc in absurd (omega arith)
      go (fault m j) q p =
          let z : refused_with m j ≡ Err r = sym p ∙ e in
          let y : record { number = m; place = j } ≡ r = cc in
          q ∙ ap (λ (x : Refusal). fault x.number x.place) y

length-blanks : (n : ℕ) → length (replicate n blank) ≡ n
length-blanks zero = refl
length-blanks (suc n) = ap suc (length-blanks n)

no_area : (k i : ℕ) → (get_or (replicate k blank) i no_cell).area ≡ 0
no_area zero i = refl
no_area (suc k) zero = refl
no_area (suc k) (suc i) = no_area k i

area-at : (cs : List Cell) (k i : ℕ) → (get_or (cs ++ replicate k blank) i no_cell).area ≡ (get_or cs i no_cell).area
area-at [] k i = no_area k i
area-at (c ∷ cs) k zero = refl
area-at (c ∷ cs) k (suc i) = area-at cs k i

cell-at : (cs : List Cell) (k i : ℕ) → i < length cs → get_or (cs ++ replicate k blank) i no_cell ≡ get_or cs i no_cell
cell-at [] k i h = absurd (omega arith)
cell-at (c ∷ cs) k zero h = refl
cell-at (c ∷ cs) k (suc i) h = cell-at cs k i (omega arith)

pub cells-back : (cs : List Cell) → cells_of (library_of cs) ≡ cs
unfolding cells_of library_of
cells-back cs = take-append_seam cs (replicate (32 - length cs) blank)

module _ (library : List ℕ) (cs : List Cell) (e : read_library library ≡ holds cs) where
  pub listed : Listed (library_of cs)
  unfolding library_of
  listed = record {
    long = length-append cs (replicate (32 - length cs) blank) ∙ (let z : length cs + length (replicate (32 - length cs) blank) ≡ 32 = omega (arith, length-blanks (32 - length cs), library-few library cs e) in z);
    few = library-few library cs e;
    pins = λ i h. subst (λ (c : Cell). c.pins ≤ 4) (sym (cell-at cs (32 - length cs) i h)) (library-written library cs e (get_or cs i no_cell) (get_or_in cs i no_cell h)).0.pins;
  }

  pub blanks : Blank (library_of cs)
  unfolding library_of cell_at cells_of
  blanks i h = area-at cs (32 - length cs) i ∙ ap (λ (x : List Cell). (get_or x i no_cell).area) (sym (take-append_seam cs (replicate (32 - length cs) blank)))

-- ---- "A refused netlist adds nothing."

pub nothing_added : (t : Tally) {o : Read Tally} {n k : ℕ} → o ≡ fault n k → Handed t o (refused_with n k) t
unfolding verdict_of tally_after
nothing_added t e = record { answers = sym (ap verdict_of e); hands_on = sym (ap (tally_after t) e) }

-- ---- 28 and 29

module _ (t : Tally) (ranged : Bool) (cells : List Cell) (s : List ℕ) where
  pub count-many : 64 ≤ t.netlists → count_read t ranged cells s ≡ fault 28 64
  unfolding count_read unless
  count-many h = rw (le-ltb t.netlists 64 h)

  pub count-over : in_width t ≡ false → count_read t ranged cells s ≡ fault 28 64
  unfolding count_read unless
  count-over e = rw (e, and-false (ltb t.netlists 64))

  module _ (h : t.netlists < 64) (w : in_width t ≡ true) where
    pub count-broken : (k : ℕ) → read_counted ranged cells s ≡ fault 29 k → count_read t ranged cells s ≡ fault 29 k
    unfolding count_read unless next
    count-broken k e = rw (lt-ltb t.netlists 64 h, w, e)

    count-holds : (used : List ℕ) → read_counted ranged cells s ≡ holds used → count_read t ranged cells s ≡ holds (counted cells used t)
    unfolding count_read unless next
    count-holds used e = rw (lt-ltb t.netlists 64 h, w, e)

module _ (t : Tally) (ranged : Bool) (l : Library) (b : Blank l) (s : List ℕ) (wide : Wide t) (c : Counts) (n : Whole ranged l s c) where
  counts_are : (i : ℕ) → i < 32 → gates_at c i ≡ times i n.used
  counts_are i h = n.places i h

  areas_are : (i : ℕ) → i < 32 → areas_at l c i ≡ times i n.used * (cell_at (cells_of l) i).area
  areas_are i h = ap₂ (λ (x y : ℕ). x * y) (n.places i h) (b i h)

  occurs_are : (i : ℕ) → i < 32 → occurs_at c i ≡ one (ltb 0 (times i n.used))
  occurs_are i h = ap (λ (x : ℕ). one (ltb 0 x)) (n.places i h)

  all_of : (f h : ℕ → ℕ) (ns : List ℕ) → length ns ≡ 32 → ((i : ℕ) → i < 32 → f i ≡ h i) → add_up_to 32 f 0 ns ≡ add_each h 0 ns
  all_of f h ns long e = add-all f 32 ns long ∙ add_same f h ns long e

  tally_is : counted_by t l c ≡ counted (cells_of l) n.used t
  unfolding counted
  tally_is =
      ap₂ (λ (g a : List ℕ). record { gates = g; areas = a; occurs = add_up_to 32 (occurs_at c) 0 t.occurs; netlists = t.netlists + 1 })
      (all_of (gates_at c) (λ i. times i n.used) t.gates wide.gates_long counts_are)
      (all_of (areas_at l c) (λ i. times i n.used * (cell_at (cells_of l) i).area) t.areas wide.areas_long areas_are)
      ∙ ap (λ (o : List ℕ). record { gates = add_each (λ i. times i n.used) 0 t.gates; areas = add_each (λ i. times i n.used * (cell_at (cells_of l) i).area) 0 t.areas; occurs = o; netlists = t.netlists + 1 })
      (all_of (occurs_at c) (λ i. one (ltb 0 (times i n.used))) t.occurs wide.occurs_long occurs_are)

  pub count-whole : t.netlists < 64 → in_width t ≡ true → Handed t (count_read t ranged (cells_of l) s) (Ok tt) (counted_by t l c)
  unfolding verdict_of tally_after
  count-whole h w =
      let e = count-holds t ranged (cells_of l) s h w n.used n.is_read in
      record { answers = sym (ap verdict_of e); hands_on = tally_is ∙ sym (ap (tally_after t) e) }

-- ---- 1 and the library's

module _ (t : Tally) (library netlist : List ℕ) where
  pub count_long : 65536 < length library → count_text t library netlist ≡ fault 1 0
  unfolding count_text unless
  count_long h = rw (lt-leb (length library) 65536 h)

  pub count-long_too : 65536 < length netlist → count_text t library netlist ≡ fault 1 0
  unfolding count_text unless
  count-long_too h = rw (lt-leb (length netlist) 65536 h, and-false (leb (length library) 65536))

  module _ (h : length library ≤ 65536) (k : length netlist ≤ 65536) where
    pub count-refused : (n p : ℕ) → read_library library ≡ fault n p → count_text t library netlist ≡ fault n p
    unfolding count_text unless next
    count-refused n p e = rw (le-leb (length library) 65536 h, le-leb (length netlist) 65536 k, e)

    pub count-read : (cs : List Cell) → read_library library ≡ holds cs → count_text t library netlist ≡ count_read t (is_ranged library) cs netlist
    unfolding count_text count_read unless next
    count-read cs e = rw (le-leb (length library) 65536 h, le-leb (length netlist) 65536 k, e)
