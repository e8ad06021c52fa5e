-- A tally and its report say of the counted netlists what `specs.TallyDemands` asks.
use Rattle.base.specs.{ℕ, zero, suc, ◌+◌, ◌*◌, ◌<◌, add-mul, arith, ◌≡◌, refl, sym, ◌∙◌, ap, ap₂, Option, Some, List, [], ◌∷◌, ◌++◌, map}
use Rattle.base.specs.{append_assoc, append-nil, Memᴰ, Memᴰ-head, Memᴰ-tail, leb, ltb, lit<, length, take, get_or}
use Rattle.model.specs.{one, each, keep, and_then, only, from, below, text, decimal, lines_from, holds, name_of, cell_at, read_library, is_ranged}
use Rattle.model.specs.{sum, names_line, empty_tally, in_width, read_counted, times, counted, count_text, report_line, cell_line, total_line}
use Rattle.model.specs.{report_text, report_of}
use Rattle.model.specs.declared.Cell.{Cell}
use Rattle.model.specs.declared.Tally.{Tally}
use Rattle.theory_graph.proofs.{map_same, below_out, by_bool}
use Rattle.theory_text.proofs.{above, decimal-free, Clear, Clears, name_clear, line_of_bytes, line_first, names_of, figure-back, library-few}
use Rattle.theory_text.proofs.{library-written, holds-once, unless_out, next_out}
use Rattle.promises.specs.Sums.{GatesLine, Counting}
use Rattle.promises.specs.TallyDemands.{gates_naming, gates_of, occurs_in, Tallied, Row, read_row, read_rows, read_report}
use Rattle.promises.specs.TallyDemands.{cell_row, total_row, ReadsBack}
use Rattle.theory_tally.proofs.Weights.{added_is, added-length}
use Rattle.theory_tally.proofs.UsedCells.{counted_by_lem}
use Rattle.theory_tally.proofs.LineWords.{names-whole, names-fields, names-ended}
use Rattle.theory_tally.proofs.SumLaws.{tally_sums, counted_adds, sum_first, none-at}
use Rattle.theory_tally.proofs.NamedGates.{at_listed, used-named}
use Rattle.promises.specs.Sums as promised

-- ---- one netlist more

sum_mul : (a b c d : ℕ) → a ≡ b * d → a + c * d ≡ (c + b) * d
sum_mul a b c d e = let z : (c + b) * d ≡ c * d + b * d = add-mul c b d in omega arith

module _ (library : List ℕ) (cells : List Cell) (e : read_library library ≡ holds cells) where
  -- "from an empty one"
  pub tallied-none : Tallied cells [] empty_tally
  unfolding empty_tally gates_of occurs_in sum keep
  tallied-none = record {
    gates_long = refl;
    areas_long = refl;
    occurs_long = refl;
    gates = λ i h. none-at 32 i;
    areas = λ i h. omega (arith, none-at 32 i);
    occurs = λ i h. none-at 32 i;
    sums = tally_sums library cells e [] empty_tally promised.Counting.empty;
  }

  -- a netlist that is counted
  pub tallied-more : (ns : List (List ℕ)) (t u : Tally) (netlist : List ℕ) → Tallied cells ns t → count_text t library netlist ≡ holds u → Tallied cells (netlist ∷ ns) u
  unfolding counted gates_of occurs_in sum
  tallied-more ns t u netlist h n =
      let zeroed : (i : ℕ) → 0 + i ≡ i = λ i. omega arith in
      let b = counted_by_lem t library netlist u n in
      let few = library-few library cells e in
      let same : b.cells ≡ cells = holds-once (sym b.is_library ∙ e) in
      let read : read_counted (is_ranged library) cells netlist ≡ holds b.used = ap (λ (x : List Cell). read_counted (is_ranged library) x netlist) (sym same) ∙ b.is_read in
      let is : u ≡ counted cells b.used t = sym b.is_tally ∙ ap (λ (x : List Cell). counted x b.used t) same in
      let w = counted_adds library cells e t u netlist h.gates_long h.areas_long n in
      let named = used-named library cells e (is_ranged library) netlist b.used read in
      let g = h.gates_long in let a = h.areas_long in let o = h.occurs_long in
      record {
        gates_long = ap (λ (x : Tally). length x.gates) is ∙ added-length (λ j. times j b.used) 0 t.gates ∙ g;
        areas_long = ap (λ (x : Tally). length x.areas) is ∙ added-length (λ j. times j b.used * (cell_at cells j).area) 0 t.areas ∙ a;
        occurs_long = ap (λ (x : Tally). length x.occurs) is ∙ added-length (λ j. one (ltb 0 (times j b.used))) 0 t.occurs ∙ o;
        gates =
            λ i k.
            ap (λ (x : Tally). get_or x.gates i 0) is
            ∙ (added_is (λ j. times j b.used) 0 t.gates i (omega arith))
            ∙ (omega (arith, h.gates i k, named i k, ap (λ (j : ℕ). times j b.used) (zeroed i)));
        areas =
            λ i k.
            ap (λ (x : Tally). get_or x.areas i 0) is
            ∙ (added_is (λ j. times j b.used * (cell_at cells j).area) 0 t.areas i (omega arith))
            ∙ ap (λ (j : ℕ). get_or t.areas i 0 + times j b.used * (cell_at cells j).area) (zeroed i)
            ∙ ap (λ (m : ℕ). get_or t.areas i 0 + m * (cell_at cells i).area) (sym (named i k))
            ∙ (sum_mul (get_or t.areas i 0) (gates_of ns (cell_at cells i)) (gates_naming (name_of (cell_at cells i)) netlist) (cell_at cells i).area (h.areas i k));
        occurs =
            λ i k.
            ap (λ (x : Tally). get_or x.occurs i 0) is
            ∙ (added_is (λ j. one (ltb 0 (times j b.used))) 0 t.occurs i (omega arith))
            ∙ ap (λ (j : ℕ). get_or t.occurs i 0 + one (ltb 0 (times j b.used))) (zeroed i)
            ∙ ap₂ (λ (x m : ℕ). x + one (ltb 0 m)) (h.occurs i k) (sym (named i k))
            ∙ (sym (by_bool (ltb 0 (gates_naming (name_of (cell_at cells i)) netlist)) (λ e. rw e (omega arith)) (λ q. rw q (omega arith))));
        sums =
            record {
              lines = w.line ∷ h.sums.lines;
              are_lines = ap₂ (λ (x : Option GatesLine) (xs : List (Option GatesLine)). x ∷ xs) w.is_line h.sums.are_lines;
              gates = omega (arith, w.grown.gates_grown, h.sums.gates);
              areas = omega (arith, w.grown.areas_grown, h.sums.areas);
              netlists = omega (arith, w.grown.netlists_grown, h.sums.netlists);
            };
      }

  -- so of every tally "handed on by these calls from an empty one"
  pub tallied : (ns : List (List ℕ)) (t : Tally) → Counting library ns t → Tallied cells ns t
  tallied ns t promised.Counting.empty = tallied-none
  tallied ns t (promised.Counting.more {ns = ms} {t = s} netlist c n) = tallied-more ms s t netlist (tallied ms s c) n

-- ---- a line of the report, read back

row_words : ℕ → ℕ → ℕ → List (List ℕ)
row_words a b c = decimal a ∷ decimal b ∷ decimal c ∷ []

row_shape : (name : List ℕ) (a b c : ℕ) → report_line name a b c ≡ names_line name (row_words a b c)
unfolding row_words report_line names_line each
row_shape name a b c = cc (
  append-nil (decimal c),
  append_assoc (decimal b) (32 ∷ decimal c ++ []) (text "\n"),
  append_assoc (decimal a)
      (32 ∷ decimal b ++ (32 ∷ decimal c ++ [])) (text "\n"),
)

figures_clear : (a b c : ℕ) → Clears (row_words a b c)
unfolding row_words
figures_clear a b c = (λ s h. decimal-free s a h, (λ s h. decimal-free s b h, (λ s h. decimal-free s c h, tt)))

row_of : List ℕ → ℕ → ℕ → ℕ → Row
row_of name a b c = record { name = name; gates = a; area = b; netlists = c }

row_read : (at : ℕ) (name : List ℕ) (a b c : ℕ) → Clear name → read_row (line_of_bytes at (names_of name (row_words a b c))) ≡ Some (row_of name a b c)
unfolding read_row row_words row_of and_then only
row_read at name a b c k =
    cc (names-fields name (row_words a b c) (k 32 (lit< tt)) (figures_clear a b c), figure-back a, figure-back b, figure-back c)

first-row : (at : ℕ) (name : List ℕ) (a b c : ℕ) (rest : List ℕ) → Clear name
    → read_rows (lines_from at [] (report_line name a b c ++ rest)) ≡ and_then (read_rows (lines_from (at + suc (length (names_of name (row_words a b c)))) [] rest)) (λ rs. Some (row_of name a b c ∷ rs))
unfolding read_rows and_then
first-row at name a b c rest k =
    let w = names-whole name (row_words a b c) (k 10 (lit< tt), k 13 (lit< tt)) (figures_clear a b c) in
    ap (λ (x : List ℕ). read_rows (lines_from at [] x)) (cc (row_shape name a b c, names-ended name (row_words a b c) rest))
    ∙ ap read_rows (line_first at (names_of name (row_words a b c)) rest w.0 w.1)
    ∙ ap (λ (o : Option Row). and_then o (λ r. and_then (read_rows (lines_from (at + suc (length (names_of name (row_words a b c)))) [] rest)) (λ rs. Some (r ∷ rs)))) (row_read at name a b c k)

-- ---- the whole report

tally_row : List Cell → Tally → ℕ → Row
tally_row cells t i = row_of (name_of (cell_at cells i)) (get_or t.gates i 0) (get_or t.areas i 0) (get_or t.occurs i 0)

total_clear : Clear (text "total")
total_clear s h = unfold text in (
  above s 116 (omega arith),
  (above s 111 (omega arith), (above s 116 (omega arith), (above s 97 (omega arith), (above s 108 (omega arith), tt)))),
)

-- a cell's line, before what follows
cell-first : (cells : List Cell) (t : Tally) (i at : ℕ) (rest : List ℕ) → Clear (name_of (cell_at cells i))
    → (next : ℕ) × (read_rows (lines_from at [] (cell_line cells t i ++ rest)) ≡ and_then (read_rows (lines_from next [] rest)) (λ rs. Some (tally_row cells t i ∷ rs)))
unfolding cell_line tally_row
cell-first cells t i at rest k = (
  at + suc (length (names_of (name_of (cell_at cells i)) (row_words (get_or t.gates i 0) (get_or t.areas i 0) (get_or t.occurs i 0)))),
  first-row at (name_of (cell_at cells i)) (get_or t.gates i 0) (get_or t.areas i 0) (get_or t.occurs i 0) rest k,
)

rows-read : (cells : List Cell) (t : Tally) (a b c at : ℕ) (is : List ℕ) → ((i : ℕ) → Memᴰ i is → Clear (name_of (cell_at cells i)))
    → read_rows (lines_from at [] (each (cell_line cells t) is ++ report_line (text "total") a b c)) ≡ Some (map (tally_row cells t) is ++ (row_of (text "total") a b c ∷ []))
unfolding each and_then lines_from read_rows
rows-read cells t a b c at [] h = cc (append-nil (report_line (text "total") a b c), first-row at (text "total") a b c [] total_clear)
rows-read cells t a b c at (i ∷ is) h =
    let f = cell-first cells t i at (each (cell_line cells t) is ++ report_line (text "total") a b c) (h i (Memᴰ-head refl)) in
    cc (
      append_assoc (cell_line cells t i) (each (cell_line cells t) is) (report_line (text "total") a b c),
      f.1,
      rows-read cells t a b c
          f.0 is (λ j m. h j (Memᴰ-tail m)),
    )

-- the lines of a library, by their places
shift : {A : Type 0} (f : ℕ → A) (k n : ℕ) → map f (from (suc k) n) ≡ map (λ (i : ℕ). f (suc i)) (from k n)
unfolding from
shift f k zero = refl
shift {A} f k (suc n) = ap (λ (xs : List A). f (suc k) ∷ xs) (shift f (suc k) n)

by_place : {A : Type 0} (f : Cell → A) (cells : List Cell) → map (λ (i : ℕ). f (cell_at cells i)) (from 0 (length cells)) ≡ map f cells
unfolding from cell_at
by_place f [] = refl
by_place {A} f (c ∷ cs) = ap (λ (xs : List A). f c ∷ xs) (shift (λ (i : ℕ). f (cell_at (c ∷ cs) i)) 0 (length cs) ∙ by_place f cs)

module _ (library : List ℕ) (cells : List Cell) (e : read_library library ≡ holds cells) where
  row_same : (ns : List (List ℕ)) (t : Tally) → Tallied cells ns t → (i : ℕ) → i < length cells → tally_row cells t i ≡ cell_row ns (cell_at cells i)
  unfolding tally_row cell_row row_of
  row_same ns t h i k = cc (h.gates i k, h.areas i k, h.occurs i k)

  rows_same : (ns : List (List ℕ)) (t : Tally) → Tallied cells ns t → {A : Type 0} (f : Row → A)
      → map (λ (i : ℕ). f (tally_row cells t i)) (from 0 (length cells)) ≡ map (λ (c : Cell). f (cell_row ns c)) cells
  unfolding below
  rows_same ns t h f = cc (
    map_same (λ (i : ℕ). f (tally_row cells t i)) (λ (i : ℕ). f (cell_row ns (cell_at cells i))) (from 0 (length cells))
        (λ i m. ap f (row_same ns t h i (below_out (length cells) i m))),
    by_place (λ (c : Cell). f (cell_row ns c)) cells,
  )

  whole-read : (ns : List (List ℕ)) (t : Tally) (h : Tallied cells ns t) → read_rows (lines_from 0 [] (report_text cells t)) ≡ Some (map (cell_row ns) cells ++ (total_row h.sums.lines (length ns) ∷ []))
  unfolding report_text total_line below row_of
  whole-read ns t h = cc (
    rows-read cells t (sum (take (length cells) t.gates)) (sum (take (length cells) t.areas)) t.netlists 0
        (from 0 (length cells)) (λ i m. name_clear (name_of (cell_at cells i))
        (library-written library cells e (cell_at cells i) (at_listed cells i (below_out (length cells) i m))).0.is_named),
    rows_same ns t h
        (λ x. x),
    h.sums.gates,
    h.sums.areas,
    h.sums.netlists,
  )

  -- the report of a tally of these netlists reads back to their figures
  pub reads-back : (ns : List (List ℕ)) (t : Tally) (bytes : ℕ) (report : List ℕ) → Tallied cells ns t → report_of t library bytes ≡ holds report → ReadsBack cells ns report
  unfolding report_of report_text total_line read_report below tally_row row_of cell_row
  reads-back ns t bytes report h r =
      let s = h.sums in
      let a = unless_out (leb (length library) 65536) 1 0 _ report r in
      let b = next_out (read_library library) _ report a.1 in
      let d = unless_out (in_width t) 28 64 _ report b.2 in
      let f = unless_out (leb (length (report_text b.0 t)) bytes) 18 (length (report_text b.0 t)) (holds (report_text b.0 t)) report d.1 in
      let same : b.0 ≡ cells = holds-once (sym b.1 ∙ e) in
      let is : report ≡ report_text cells t = sym (holds-once f.1) ∙ ap (λ (x : List Cell). report_text x t) same in
      record {
        lines = s.lines;
        are_lines = s.are_lines;
        rows = ap (λ (x : List ℕ). read_rows (lines_from 0 [] x)) is ∙ whole-read ns t h;
        over_gates = sym (ap sum (rows_same ns t h (λ x. x.gates))) ∙ sum_first (length cells) t.gates ∙ s.gates;
        over_areas = sym (ap sum (rows_same ns t h (λ x. x.area))) ∙ sum_first (length cells) t.areas ∙ s.areas;
      }
