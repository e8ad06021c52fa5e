-- A report's lines: their parts in the order in which they are written, and their lengths.
use Rattle.base.specs.{ℕ, zero, suc, ◌+◌, ◌-◌, ◌*◌, ◌^◌, ◌≤◌, ◌<◌, add-one, arith, ◌≡◌, refl, sym, ap, ap₂, ◌∙◌, List, [], ◌∷◌, ◌++◌}
use Rattle.base.specs.{length, take, get_or, length-append, take-suc}
use Rattle.model.specs.{each, from, below, decimal, text, name_of, no_cell, cell_at, cells_of, sum, report_line, cell_line, total_line, report_text}
use Rattle.model.specs.declared.Cell.{Cell}
use Rattle.model.specs.declared.Library.{Library}
use Rattle.model.specs.declared.Tally.{Tally}
use Rattle.base_text.proofs.{dec_below}
use Rattle.tally_lines.specs.{Listed}
use Rattle.tally_lines.proofs.{cells_count, cells_at}
use Rattle.tally_counting.specs.{Wide}
use Rattle.tally_report.specs.{cell_lines, figure_text}

pub figure-is : (n : ℕ) → figure_text n ≡ 32 ∷ decimal n
unfolding figure_text
figure-is n = refl

pub figure-length : (n : ℕ) → length (figure_text n) ≡ length (decimal n) + 1
figure-length n = ap length (figure-is n) ∙ sym (add-one (length (decimal n)))

-- what stands behind the name
abbrev pub behind_name : ℕ → ℕ → ℕ → List ℕ
behind_name a b c = figure_text a ++ (figure_text b ++ (figure_text c ++ (10 ∷ [])))

pub line-is : (name : List ℕ) (a b c : ℕ) → report_line name a b c ≡ name ++ behind_name a b c
unfolding report_line figure_text text
line-is name a b c = refl

-- ---- the cells' lines

pub cells-step : (l : Library) (t : Tally) (i n : ℕ) → i < n → cell_lines l t i (n - i) ≡ cell_line (cells_of l) t i ++ cell_lines l t (i + 1) (n - (i + 1))
unfolding cell_lines each from
cells-step l t i n h = let z : n - i ≡ suc (n - (i + 1)) = omega arith in rw (z, add-one i)

pub cells-end : (l : Library) (t : Tally) (i n : ℕ) → n ≤ i → cell_lines l t i (n - i) ≡ []
unfolding cell_lines each from
cells-end l t i n h = let z : n - i ≡ 0 = omega arith in rw z

pub cells-first : (l : Library) (t : Tally) (n : ℕ) → cell_lines l t 0 n ≡ cell_lines l t 0 (n - 0)
cells-first l t n = let z : n - 0 ≡ n = omega arith in rw z

-- the line of a cell, by its place in the array
pub cell-is : (l : Library) → Listed l → (t : Tally) (i : ℕ) → i < l.n
    → cell_line (cells_of l) t i ≡ report_line (take (get_or l.cells i no_cell).len (get_or l.cells i no_cell).name) (get_or t.gates i 0) (get_or t.areas i 0) (get_or t.occurs i 0)
unfolding cell_line cell_at name_of
cell-is l ready t i h =
    ap (λ (c : Cell). report_line (take c.len c.name) (get_or t.gates i 0) (get_or t.areas i 0) (get_or t.occurs i 0)) (cells_at l ready.long ready.few i h)

-- ---- sums

sum_append : (xs ys : List ℕ) → sum (xs ++ ys) ≡ sum xs + sum ys
unfolding sum
sum_append [] ys = omega arith
sum_append (x ∷ xs) ys = omega (arith, sum_append xs ys)

pub sum_step : (xs : List ℕ) (i : ℕ) → i < length xs → sum (take (i + 1) xs) ≡ sum (take i xs) + get_or xs i 0
unfolding sum
sum_step xs i h =
    ap (λ (k : ℕ). sum (take k xs)) (add-one i) ∙ ap sum (take-suc xs i 0 h) ∙ sum_append (take i xs) (get_or xs i 0 ∷ []) ∙ (let z : sum (take i xs) + (get_or xs i 0 + 0) ≡ sum (take i xs) + get_or xs i 0 = omega arith in z)

sum_low : (xs : List ℕ) (n : ℕ) → ((i : ℕ) → get_or xs i 0 ≤ 2 ^ 40) → sum (take n xs) ≤ n * 2 ^ 40
unfolding sum
sum_low xs zero h = omega arith
sum_low [] (suc n) h = omega arith
sum_low (x ∷ xs) (suc n) h = omega (arith, h 0, sum_low xs n (λ i. h (suc i)))

-- ---- lengths

take_short : (n : ℕ) (l : List ℕ) → length (take n l) ≤ n
take_short zero l = omega arith
take_short (suc n) [] = omega arith
take_short (suc n) (b ∷ l) = omega (arith, take_short n l)

line-length : (name : List ℕ) (a b c : ℕ) → length (report_line name a b c) ≡ length name + (length (decimal a) + (length (decimal b) + length (decimal c))) + 4
line-length name a b c =
    ap length (line-is name a b c)
    ∙ omega (
      arith,
      length-append name (behind_name a b c),
      length-append (figure_text a) (figure_text b ++ (figure_text c ++ (10 ∷ []))),
      length-append (figure_text b) (figure_text c ++ (10 ∷ [])),
      length-append (figure_text c) (10 ∷ []),
      figure-length a,
      figure-length b,
      figure-length c,
    )

-- a figure of a report has at most fourteen digits
fourteen : (n : ℕ) → n ≤ 32 * 2 ^ 40 → length (decimal n) ≤ 14
fourteen n h = dec_below 13 n (omega arith)

line_low : (name : List ℕ) (a b c : ℕ) → length name ≤ 8 → a ≤ 32 * 2 ^ 40 → b ≤ 32 * 2 ^ 40 → c ≤ 32 * 2 ^ 40 → length (report_line name a b c) ≤ 54
line_low name a b c h p q r = omega (arith, line-length name a b c, fourteen a p, fourteen b q, fourteen c r)

-- the report in the order in which it is written
pub report-is : (l : Library) → Listed l → (t : Tally) → report_text (cells_of l) t ≡ cell_lines l t 0 l.n ++ total_line (cells_of l) t
unfolding report_text cell_lines below
report-is l ready t = ap (λ (k : ℕ). each (cell_line (cells_of l) t) (from 0 k) ++ total_line (cells_of l) t) (cells_count l ready.long ready.few)

pub total_is : (l : Library) → Listed l → (t : Tally) (a b : ℕ) → a ≡ sum (take l.n t.gates) → b ≡ sum (take l.n t.areas)
    → total_line (cells_of l) t ≡ report_line (116 ∷ 111 ∷ 116 ∷ 97 ∷ 108 ∷ []) a b t.netlists
unfolding total_line text
total_is l ready t a b ea eb =
    ap (λ (k : ℕ). report_line (116 ∷ 111 ∷ 116 ∷ 97 ∷ 108 ∷ []) (sum (take k t.gates)) (sum (take k t.areas)) t.netlists) (cells_count l ready.long ready.few)
    ∙ ap₂ (λ (x y : ℕ). report_line (116 ∷ 111 ∷ 116 ∷ 97 ∷ 108 ∷ []) x y t.netlists) (sym ea) (sym eb)

module _ (l : Library) (ready : Listed l) (eight : (i : ℕ) → i < l.n → (get_or l.cells i no_cell).len ≤ 8) (t : Tally) (w : Wide t) where
  cell-low : (i : ℕ) → i < l.n → length (cell_line (cells_of l) t i) ≤ 54
  cell-low i h =
      let n = get_or l.cells i no_cell in
      omega (
        arith,
        ap length (cell-is l ready t i h),
        line_low (take n.len n.name) (get_or t.gates i 0) (get_or t.areas i 0) (get_or t.occurs i 0) (omega (arith, take_short n.len n.name, eight i h)) (omega (arith, w.gates i)) (omega (arith, w.areas i)) (omega (arith, w.occurs i)),
      )

  lines-low : (k i : ℕ) → i + k ≤ l.n → length (cell_lines l t i k) ≤ k * 54
  unfolding cell_lines each from
  lines-low zero i h = omega arith
  lines-low (suc k) i h =
      omega (arith, length-append (cell_line (cells_of l) t i) (each (cell_line (cells_of l) t) (from (suc i) k)), cell-low i (omega arith), lines-low k (suc i) (omega arith))

  total_low : t.netlists ≤ 2 ^ 40 → length (total_line (cells_of l) t) ≤ 54
  unfolding total_line text
  total_low h =
      line_low (text "total") (sum (take (length (cells_of l)) t.gates)) (sum (take (length (cells_of l)) t.areas)) t.netlists (omega arith)
      (omega (arith, sum_low t.gates (length (cells_of l)) w.gates, cells_count l ready.long ready.few, ready.few))
      (omega (arith, sum_low t.areas (length (cells_of l)) w.areas, cells_count l ready.long ready.few, ready.few)) (omega arith)

  pub report-low : t.netlists ≤ 2 ^ 40 → length (report_text (cells_of l) t) ≤ 2048
  report-low h =
      omega (arith, ap length (report-is l ready t), length-append (cell_lines l t 0 l.n) (total_line (cells_of l) t), lines-low l.n 0 (omega arith), total_low h, ready.few)
