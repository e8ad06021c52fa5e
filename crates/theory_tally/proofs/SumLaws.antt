-- The sums of a tally, and its figures: "a tally handed on by these calls from an empty one" is never refused for its figures.
use Rattle.base.specs.{ℕ, zero, suc, ◌+◌, ◌*◌, ◌^◌, ◌≤◌, ◌<◌, mul-le-mul, arith, ◌≡◌, refl, sym, ◌∙◌, ap, ap₂, subst, true, Option, List}
use Rattle.base.specs.{[], ◌∷◌, ◌++◌, map, Memᴰ, Memᴰ-head, Memᴰ-tail, leb, ltb, length, take, get_or, replicate, le-leb}
use Rattle.base.specs.{and_yes, ltb_yes, leb_yes}
use Rattle.model.specs.{all, each, one, from, below, text, holds, cell_at, read_library, is_ranged, sum, empty_tally, in_width, area_of}
use Rattle.model.specs.{read_counted, times, counted, count_text, report_line, cell_line, total_line, report_text, report_of}
use Rattle.model.specs.declared.Cell.{Cell}
use Rattle.model.specs.declared.Tally.{Tally}
use Rattle.theory_graph.proofs.{one_le}
use Rattle.theory_text.proofs.{holds-once, unless_out, next_out, library-few, library-written}
use Rattle.promises.specs.Sums.{Handed, GatesLine, gates_sum, area_sum, Counting, Reported, Grown, Added}
use Rattle.promises.specs.Sums.{Sums}
use Rattle.theory_tally.proofs.Weights.{added-first, added-length, added-at, weights, ones, times-low}
use Rattle.theory_tally.proofs.FigureBounds.{figures_in_lem}
use Rattle.theory_tally.proofs.UsedCells.{used-is, counted_by_lem}
use Rattle.promises.specs.Sums as promised

-- ---- the sums

-- 32 places, with these sums
record Totals (cells : List Cell) (ns : List (List ℕ)) (t : Tally) : Type 0 where
  gates_long : length t.gates ≡ 32
  areas_long : length t.areas ≡ 32
  sums : Sums cells ns t

none_summed : (n k : ℕ) → sum (take n (replicate k 0)) ≡ 0
unfolding sum
none_summed zero k = refl
none_summed (suc n) zero = refl
none_summed (suc n) (suc k) = omega (arith, none_summed n k)

-- the first n places are those numbered below n
shifted : (f : ℕ → ℕ) (k n : ℕ) → map f (from (suc k) n) ≡ map (λ (i : ℕ). f (suc i)) (from k n)
unfolding from
shifted f k zero = refl
shifted f k (suc n) = ap (λ (xs : List ℕ). f (suc k) ∷ xs) (shifted f (suc k) n)

none_first : (n : ℕ) (k : ℕ) → sum (map (λ (i : ℕ). get_or [] i 0) (from k n)) ≡ 0
unfolding sum from
none_first zero k = refl
none_first (suc n) k = omega (arith, none_first n (suc k))

pub sum_first : (n : ℕ) (xs : List ℕ) → sum (map (λ (i : ℕ). get_or xs i 0) (from 0 n)) ≡ sum (take n xs)
unfolding sum from
sum_first zero xs = refl
sum_first (suc n) [] = none_first (suc n) 0
sum_first (suc n) (x ∷ xs) = ap (λ (ys : List ℕ). x + sum ys) (shifted (λ (i : ℕ). get_or (x ∷ xs) i 0) 0 n) ∙ ap (λ (y : ℕ). x + y) (sum_first n xs)

module _ (library : List ℕ) (cells : List Cell) (e : read_library library ≡ holds cells) where
  first : Totals cells [] empty_tally
  unfolding empty_tally sum
  first = record {
    gates_long = refl;
    areas_long = refl;
    sums = record { lines = []; are_lines = refl; gates = none_summed (length cells) 32; areas = none_summed (length cells) 32; netlists = refl };
  }

  -- one netlist more
  pub grown : (t : Tally) (netlist used : List ℕ) → length t.gates ≡ 32 → length t.areas ≡ 32 → read_counted (is_ranged library) cells netlist ≡ holds used
      → Grown cells t (counted cells used t) (length used) (area_of cells used)
  unfolding counted area_of
  grown t netlist used g a r =
      let few = library-few library cells e in
      let is = used-is (is_ranged library) cells netlist used r in
      record {
        gates_grown = omega (arith, added-first (λ i. times i used) (length cells) t.gates (omega (arith, g)), ones (length cells) used is.listed);
        areas_grown =
            omega (
              arith,
              added-first (λ i. times i used * (cell_at cells i).area) (length cells) t.areas (omega (arith, a)),
              weights (λ (i : ℕ). (cell_at cells i).area) (length cells) used is.listed,
            );
        netlists_grown = refl;
      }

  -- a netlist that is counted adds what its own `# gates` line says
  pub counted_adds : (t u : Tally) (netlist : List ℕ) → length t.gates ≡ 32 → length t.areas ≡ 32 → count_text t library netlist ≡ holds u → Added cells t u netlist
  counted_adds t u netlist g a n =
      let b = counted_by_lem t library netlist u n in
      let same : b.cells ≡ cells = holds-once (sym b.is_library ∙ e) in
      let read : read_counted (is_ranged library) cells netlist ≡ holds b.used = ap
      (λ (x : List Cell). read_counted (is_ranged library) x netlist) (sym same) ∙ b.is_read in
      record {
        line = record { gates = length b.used; area = area_of cells b.used };
        is_line = figures_in_lem (is_ranged library) cells netlist b.used read;
        grown = rw (ap (λ (x : List Cell). counted x b.used t) (sym same) ∙ b.is_tally) at (grown t netlist b.used g a read);
      }

  -- the places are as many as before
  as_long_lem : (t u : Tally) (netlist : List ℕ) → count_text t library netlist ≡ holds u → (length u.gates ≡ length t.gates) × (length u.areas ≡ length t.areas)
  unfolding counted
  as_long_lem t u netlist n =
      let b = counted_by_lem t library netlist u n in (
        ap (λ (v : Tally). length v.gates) (sym b.is_tally) ∙ added-length (λ i. times i b.used) 0 t.gates,
        ap (λ (v : Tally). length v.areas) (sym b.is_tally) ∙ added-length (λ i. times i b.used * (cell_at b.cells i).area) 0 t.areas,
      )

  totals : (ns : List (List ℕ)) (t : Tally) → Counting library ns t → Totals cells ns t
  unfolding sum
  totals ns t promised.Counting.empty = first
  totals ns t (promised.Counting.more {ns = ms} {t = s} netlist c n) =
      let w = counted_adds s t netlist (totals ms s c).gates_long (totals ms s c).areas_long n in
      let l = as_long_lem s t netlist n in
      record {
        gates_long = l.0 ∙ (totals ms s c).gates_long;
        areas_long = l.1 ∙ (totals ms s c).areas_long;
        sums = record {
          lines = w.line ∷ (totals ms s c).sums.lines;
          are_lines = ap₂ (λ (o : Option GatesLine) (os : List (Option GatesLine)). o ∷ os) w.is_line (totals ms s c).sums.are_lines;
          gates = omega (arith, w.grown.gates_grown, (totals ms s c).sums.gates);
          areas = omega (arith, w.grown.areas_grown, (totals ms s c).sums.areas);
          netlists = omega (arith, w.grown.netlists_grown, (totals ms s c).sums.netlists);
        };
      }

  -- "Its gates and area equal the sums of the counted netlists' `# gates` lines, and the sums over cells."
  pub tally_sums : (ns : List (List ℕ)) (t : Tally) → Counting library ns t → Sums cells ns t
  tally_sums ns t c = (totals ns t c).sums

  -- the same, as it is reported
  pub report-sums : (ns : List (List ℕ)) (t : Tally) (bytes : ℕ) (report : List ℕ) → Counting library ns t → report_of t library bytes ≡ holds report → Reported cells ns t report
  unfolding report_of report_text total_line
  report-sums ns t bytes report c r =
      let s = tally_sums ns t c in
      let b = next_out (read_library library) _ report (unless_out (leb (length library) 65536) 1 0 _ report r).1 in
      record {
        sums = s;
        is_report = sym (holds-once (unless_out (leb (length (report_text b.0 t)) bytes) 18 (length (report_text b.0 t))
            (holds (report_text b.0 t)) report (unless_out (in_width t) 28 64 _ report b.2).1).1)
            ∙ ap (λ (x : List Cell). report_text x t) (holds-once (sym b.1 ∙ e)) ∙ ap₂
            (λ (x y : ℕ). each (cell_line cells t) (below (length cells)) ++ report_line (text "total") x y t.netlists) s.gates
            s.areas ∙ ap (λ (x : ℕ). each (cell_line cells t) (below (length cells)) ++ report_line (text "total") (gates_sum s.lines)
            (area_sum s.lines) x) s.netlists;
        over_gates = (unfold below in sum_first (length cells) t.gates) ∙ s.gates;
        over_areas = (unfold below in sum_first (length cells) t.areas) ∙ s.areas;
      }

-- ---- the figures

-- a figure of so many netlists
record Small (t : Tally) : Type 0 where
  gates : (i : ℕ) → get_or t.gates i 0 ≤ t.netlists * 4294967296
  areas : (i : ℕ) → get_or t.areas i 0 ≤ t.netlists * 4294967296
  occurs : (i : ℕ) → get_or t.occurs i 0 ≤ t.netlists * 4294967296
  few : t.netlists ≤ 64

pub none-at : (k i : ℕ) → ◌≡◌ {A = ℕ} (get_or (replicate k 0) i 0) 0
none-at zero i = refl
none-at (suc k) zero = refl
none-at (suc k) (suc i) = none-at k i

area-at : (cells : List Cell) → ((c : Cell) → Memᴰ c cells → c.area ≤ 65535) → (i : ℕ) → (cell_at cells i).area ≤ 65535
unfolding cell_at
area-at [] h i = omega arith
area-at (c ∷ cs) h zero = h c (Memᴰ-head refl)
area-at (c ∷ cs) h (suc i) = area-at cs (λ d m. h d (Memᴰ-tail m)) i

product-low : (n a : ℕ) → n ≤ 65536 → a ≤ 65535 → n * a ≤ 65536 * 65535
product-low n a h k = mul-le-mul h k

more-small : (t : Tally) (cells : List Cell) (used : List ℕ) → Small t → length used ≤ 65536 → ((i : ℕ) → (cell_at cells i).area ≤ 65535) → t.netlists < 64 → Small (counted cells used t)
unfolding counted
more-small t cells used s few area low = record {
  gates = λ i. let z : 0 + i ≡ i = omega arith in omega (arith, added-at (λ k. times k used) 0 t.gates i, s.gates i, times-low (0 + i) used);
  areas =
      λ i. omega (
        arith,
        added-at (λ k. times k used * (cell_at cells k).area) 0 t.areas i,
        s.areas i,
        product-low (times (0 + i) used) (cell_at cells (0 + i)).area (omega (arith, times-low (0 + i) used)) (area (0 + i)),
      );
  occurs = λ i. omega (arith, added-at (λ k. one (ltb 0 (times k used))) 0 t.occurs i, s.occurs i, one_le (ltb 0 (times (0 + i) used)));
  few = omega arith;
}

small : (t : Tally) → Handed t → Small t
small t promised.Handed.empty = start
  where
    start : Small empty_tally
    start = unfold empty_tally in record { gates = λ i. omega (arith, none-at 32 i); areas = λ i. omega (arith, none-at 32 i); occurs = λ i. omega (arith, none-at 32 i); few = omega arith }
small t (promised.Handed.more {t = s} library netlist h n) =
    let b = counted_by_lem s library netlist t n in
    let u = used-is (is_ranged library) b.cells netlist b.used b.is_read in
    let short : length netlist ≤ 65536 = leb_yes (and_yes (leb (length library) 65536) (leb (length netlist) 65536) b.short).1 in
    let low : s.netlists < 64 = ltb_yes (and_yes (ltb s.netlists 64) (in_width s) b.not_full).0 in
    subst Small b.is_tally (more-small s b.cells b.used (small s h) (omega (arith, u.few)) (area-at b.cells (λ c m. (library-written library b.cells b.is_library c m).0.area)) low)

all-low : (xs : List ℕ) → ((i : ℕ) → get_or xs i 0 ≤ 2 ^ 40) → all (λ (n : ℕ). leb n (2 ^ 40)) xs ≡ true
unfolding all
all-low [] h = refl
all-low (x ∷ xs) h = rw (le-leb x (2 ^ 40) (h 0)) (all-low xs (λ i. h (suc i)))

-- a tally handed on from an empty one has no "tally figure" that "exceeds 2^40"
pub handed_fits : (t : Tally) → Handed t → in_width t ≡ true
unfolding in_width
handed_fits t h = rw (
  all-low t.gates (λ i. omega (arith, (small t h).gates i, (small t h).few)),
  all-low t.areas
      (λ i. omega (arith, (small t h).areas i, (small t h).few)),
  all-low t.occurs
      (λ i. omega (arith, (small t h).occurs i, (small t h).few)),
) (le-leb t.netlists (2 ^ 40) (omega (arith, (small t h).few)))
