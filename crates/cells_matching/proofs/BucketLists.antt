-- The variants of a table whose places a cut has are 01's matches of the cut, in 01's order, for every number of pins up to four.
--     variant_matches     so the bucket of a cut's function lists its matches
use Rattle.base.specs.{ℕ, zero, suc, ◌+◌, ◌-◌, ◌*◌, ◌^◌, ◌<◌, ◌≤◌, ◌≡◌, refl, sym, ap, ap₂, ◌∙◌, Bool, true, false, cond, ◌&&◌, List, []}
use Rattle.base.specs.{◌∷◌, ◌++◌, map, append-nil, Memᴰ, Memᴰ-head, Memᴰ-tail, add-zero, zero-add, add-suc, suc-add, arith}
use Rattle.base.specs.{eqb, ltb, length, pow_mono, le-ltb, eq-eqb, ne_eqb}
use Rattle.model.specs.{keep, each, from, below, cell_at, places_fit, rows_agree, fits, cell_matches, cut_matches}
use Rattle.model.specs.declared.Cell.{Cell}
use Rattle.theory_graph.proofs.{below_out, keep_append}
use Rattle.base_truth.specs.{places_of, variant_table}
use Rattle.base_truth.proofs.{rows_agree_lem}
use Rattle.cells_matching.specs.{line_of, order_of, mask_of, match_of, has_table, places_at, variants}
use Rattle.cells_matching.proofs.BestMatch.{by_bool}
use Rattle.cells_matching.proofs.FirstVariants.{line-is, order_is, mask_is}

-- ---- lists

from_append : (a b i : ℕ) → from i (a + b) ≡ from i a ++ from (i + a) b
unfolding from
from_append zero b i = ap₂ from (sym (add-zero i)) (zero-add b)
from_append (suc a) b i =
    let e : i + suc a ≡ suc i + a = omega arith in
    rw (suc-add a b, e) (ap (λ (l : List ℕ). i ∷ l) (from_append a b (suc i)))

module _ {A : Type 0} where
  pub keep-keep : (p q : A → Bool) (xs : List A) → keep p (keep q xs) ≡ keep (λ (x : A). q x && p x) xs
  unfolding keep
  keep-keep p q [] = refl
  keep-keep p q (x ∷ xs) = go (q x) (keep-keep p q xs)
    where
      go : (b : Bool) → keep p (keep q xs) ≡ keep (λ (x : A). q x && p x) xs
          → keep p (cond b (x ∷ keep q xs) (keep q xs)) ≡ cond (b && p x) (x ∷ keep (λ (x : A). q x && p x) xs) (keep (λ (x : A). q x && p x) xs)
      go true e = ap (λ (l : List A). cond (p x) (x ∷ l) l) e
      go false e = e

module _ {A B : Type 0} where
  pub map-append : (f : A → B) (xs ys : List A) → map f (xs ++ ys) ≡ map f xs ++ map f ys
  map-append f [] ys = refl
  map-append f (x ∷ xs) ys = ap (λ (l : List B). f x ∷ l) (map-append f xs ys)

  each_same : (f g : A → List B) (xs : List A) → ((x : A) → Memᴰ x xs → f x ≡ g x) → each f xs ≡ each g xs
  unfolding each
  each_same f g [] h = refl
  each_same f g (x ∷ xs) h = ap₂ ◌++◌ (h x (Memᴰ-head refl)) (each_same f g xs (λ y m. h y (Memᴰ-tail m)))

-- ---- numbers in blocks

module _ {B : Type 0} (g : ℕ → B) (p : ℕ → Bool) where
  -- what is kept of two runs
  kept_append : (a b i : ℕ) → map g (keep p (from i (a + b))) ≡ map g (keep p (from i a)) ++ map g (keep p (from (i + a) b))
  kept_append a b i =
      ap (λ (l : List ℕ). map g (keep p l)) (from_append a b i) ∙ ap (map g) (keep_append p (from i a) (from (i + a) b))
      ∙ map-append g (keep p (from i a)) (keep p (from (i + a) b))

  -- of m runs of 16
  kept_blocks : (m o i : ℕ) → map g (keep p (from (i + 16 * o) (16 * m))) ≡ each (λ (o : ℕ). map g (keep p (from (i + 16 * o) 16))) (from o m)
  unfolding from each keep
  kept_blocks zero o i = refl
  kept_blocks (suc m) o i =
      let e : 16 * suc m ≡ 16 + 16 * m = omega arith in
      let n : i + 16 * o + 16 ≡ i + 16 * suc o = omega arith in
      ap (λ (k : ℕ). map g (keep p (from (i + 16 * o) k))) e ∙ kept_append 16 (16 * m) (i + 16 * o)
      ∙ ap (λ (l : List B). map g (keep p (from (i + 16 * o) 16)) ++ l) (ap (λ (k : ℕ). map g (keep p (from k (16 * m)))) n ∙ kept_blocks m (suc o) i)

  -- of a run that is another one moved
  kept_moved : (h : ℕ → B) (q : ℕ → Bool) (base n j : ℕ) → ((i : ℕ) → i < j + n → (p (base + i) ≡ q i) × (g (base + i) ≡ h i))
      → map g (keep p (from (base + j) n)) ≡ map h (keep q (from j n))
  unfolding from keep
  kept_moved h q base zero j same = refl
  kept_moved h q base (suc n) j same =
      let s = same j (omega arith) in
      let rest : map g (keep p (from (suc (base + j)) n)) ≡ map h (keep q (from (suc j) n)) =
      ap (λ (k : ℕ). map g (keep p (from k n))) (sym (add-suc base j)) ∙ kept_moved h q base n (suc j) (λ i l. same i (omega arith)) in
      ap (λ (b : Bool). map g (cond b ((base + j) ∷ keep p (from (suc (base + j)) n)) (keep p (from (suc (base + j)) n)))) s.0
      ∙ go (q j) s.1 rest
    where
      go : (b : Bool) → g (base + j) ≡ h j → map g (keep p (from (suc (base + j)) n)) ≡ map h (keep q (from (suc j) n))
          → map g (cond b ((base + j) ∷ keep p (from (suc (base + j)) n)) (keep p (from (suc (base + j)) n))) ≡ map h (cond b (j ∷ keep q (from (suc j) n)) (keep q (from (suc j) n)))
      go true e r = ap₂ (λ (x : B) (l : List B). x ∷ l) e r
      go false e r = r

-- nothing is kept where the test fails
kept-nothing : (q : ℕ → Bool) (n j : ℕ) → ((i : ℕ) → j ≤ i → q i ≡ false) → keep q (from j n) ≡ []
unfolding from keep
kept-nothing q zero j h = refl
kept-nothing q (suc n) j h = rw (h j (omega arith)) (kept-nothing q n (suc j) (λ i l. h i (omega arith)))

kept-below : (q : ℕ → Bool) (m n : ℕ) → m ≤ n → ((i : ℕ) → m ≤ i → q i ≡ false) → keep q (below n) ≡ keep q (below m)
unfolding below
kept-below q m n l h =
    let e : n ≡ m + (n - m) = omega arith in
    ap (λ (k : ℕ). keep q (from 0 k)) e ∙ ap (keep q) (from_append m (n - m) 0) ∙ keep_append q (from 0 m) (from (0 + m) (n - m))
    ∙ ap (λ (k : ℕ). keep q (from 0 m) ++ keep q (from k (n - m))) (zero-add m)
    ∙ ap (λ (r : List ℕ). keep q (from 0 m) ++ r) (kept-nothing q (n - m) m h) ∙ append-nil (keep q (from 0 m))

-- ---- the test of a variant is that of its match

and_shuffle : (a b c : Bool) → ((a && c) && b) ≡ (a && (b && c))
and_shuffle true true true = refl
and_shuffle true true false = refl
and_shuffle true false true = refl
and_shuffle true false false = refl
and_shuffle false b c = refl

module _ (c : Cell) (places : List ℕ) (mask leaves f : ℕ) (small : f < 65536) where
  rows-eqb : rows_agree c places mask f ≡ eqb f (variant_table c.pins c.table places mask)
  rows-eqb = by_bool (rows_agree c places mask f)
      (λ e. e ∙ sym (eq-eqb f (variant_table c.pins c.table places mask) ((rows_agree_lem c places mask f small).0 (rw e tt))))
      (λ e. e ∙ sym (ne_eqb f (variant_table c.pins c.table places mask) (λ q. rw e at ((rows_agree_lem c places mask f small).1 q))))

  fits_so : ((ltb mask (2 ^ c.pins) && eqb f (variant_table c.pins c.table places mask)) && places_fit c places leaves) ≡ fits c places mask leaves f
  unfolding fits
  fits_so = and_shuffle (ltb mask (2 ^ c.pins)) (places_fit c places leaves) (eqb f (variant_table c.pins c.table places mask))
      ∙ ap (λ (r : Bool). ltb mask (2 ^ c.pins) && (places_fit c places leaves && r)) (sym rows-eqb)

fits_mask : (c : Cell) (places : List ℕ) (mask leaves f : ℕ) → 2 ^ c.pins ≤ mask → fits c places mask leaves f ≡ false
unfolding fits
fits_mask c places mask leaves f h =
    ap (λ (b : Bool). b && (places_fit c places leaves && rows_agree c places mask f)) (le-ltb mask (2 ^ c.pins) h)

-- a variant's test, by the cell of each line
fit_at : (ℕ → Cell) → ℕ → ℕ → ℕ → Bool
fit_at look leaves f x =
    (ltb (mask_of x) (2 ^ (look (line_of x)).pins) && eqb f (variant_table (look (line_of x)).pins (look (line_of x)).table (places_of (order_of x)) (mask_of x)))
    && places_fit (look (line_of x)) (places_of (order_of x)) leaves

module _ (look : ℕ → Cell) (k leaves f : ℕ) (small : f < 65536) where
  module _ (line o : ℕ) (order : o < 24) where
    fit_is : (i : ℕ) → i < 16 → fit_at look leaves f (384 * line + 16 * o + i) ≡ fits (look line) (places_of o) i leaves f
    unfolding fit_at
    fit_is i h = rw (line-is line o i order h, order_is line o i order h, mask_is line o i order h) (fits_so (look line) (places_of o) i leaves f small)

    match_is : (i : ℕ) → i < 16 → match_of k (384 * line + 16 * o + i) ≡ record { cut = k; cell = line; order = o; mask = i }
    unfolding match_of
    match_is i h = λ j. record { cut = k; cell = line-is line o i order h j; order = order_is line o i order h j; mask = mask_is line o i order h j }

    order_block : (look line).pins ≤ 4 → map (match_of k) (keep (fit_at look leaves f) (from (384 * line + 16 * o) 16))
        ≡ map (λ (mask : ℕ). record { cut = k; cell = line; order = o; mask = mask }) (keep (λ (mask : ℕ). fits (look line) (places_of o) mask leaves f) (below (2 ^ (look line).pins)))
    unfolding below
    order_block four =
        ap (λ (b : ℕ). map (match_of k) (keep (fit_at look leaves f) (from b 16))) (sym (add-zero (384 * line + 16 * o)))
        ∙ kept_moved (match_of k) (fit_at look leaves f) (λ (mask : ℕ). record { cut = k; cell = line; order = o; mask = mask })
        (λ (mask : ℕ). fits (look line) (places_of o) mask leaves f) (384 * line + 16 * o) 16 0 (λ i h. (fit_is i h, match_is i h))
        ∙ ap (map (λ (mask : ℕ). record { cut = k; cell = line; order = o; mask = mask }))
        (kept-below (λ (mask : ℕ). fits (look line) (places_of o) mask leaves f) (2 ^ (look line).pins) 16 (pow_mono {i = (look line).pins} {j = 4} four)
        (λ i h. fits_mask (look line) (places_of o) i leaves f h))

  cell-block : (line : ℕ) → (look line).pins ≤ 4
      → map (match_of k) (keep (fit_at look leaves f) (from (384 * line) 384)) ≡ cell_matches (look line) line k leaves f
  unfolding cell_matches below
  cell-block line four =
      let e : 384 * line ≡ 384 * line + 16 * 0 = omega arith in
      ap (λ (b : ℕ). map (match_of k) (keep (fit_at look leaves f) (from b 384))) e
      ∙ kept_blocks (match_of k) (fit_at look leaves f) 24 0 (384 * line)
      ∙ each_same (λ (o : ℕ). map (match_of k) (keep (fit_at look leaves f) (from (384 * line + 16 * o) 16)))
      (λ (o : ℕ). map (λ (mask : ℕ). record { cut = k; cell = line; order = o; mask = mask }) (keep (λ (mask : ℕ). fits (look line) (places_of o) mask leaves f) (below (2 ^ (look line).pins))))
      (below 24) (λ o m. order_block line o (below_out 24 o m) four)

  cells-block : (cs : List Cell) (line : ℕ) → ((i : ℕ) → look (line + i) ≡ cell_at cs i) → ((i : ℕ) → (cell_at cs i).pins ≤ 4)
      → map (match_of k) (keep (fit_at look leaves f) (from (384 * line) (384 * length cs))) ≡ cut_matches cs line k leaves f
  unfolding cut_matches from keep cell_at
  cells-block [] line same four = refl
  cells-block (c ∷ cs) line same four =
      let e : 384 * suc (length cs) ≡ 384 + 384 * length cs = omega arith in
      let n : 384 * line + 384 ≡ 384 * suc line = omega arith in
      let here : look line ≡ c = ap look (sym (add-zero line)) ∙ same 0 in
      ap (λ (m : ℕ). map (match_of k) (keep (fit_at look leaves f) (from (384 * line) m))) e
      ∙ kept_append (match_of k) (fit_at look leaves f) 384 (384 * length cs) (384 * line)
      ∙ ap₂ ◌++◌ (cell-block line (rw here (four 0)) ∙ ap (λ (d : Cell). cell_matches d line k leaves f) here)
      (ap (λ (b : ℕ). map (match_of k) (keep (fit_at look leaves f) (from b (384 * length cs)))) n
      ∙ cells-block cs (suc line) (λ i. ap look (suc-add line i ∙ sym (add-suc line i)) ∙ same (suc i)) (λ i. four (suc i)))

-- the variants of a cut's function, those left out whose places the cut has not, are the cut's matches in order
pub variant_matches : (cells : List Cell) (k leaves f : ℕ) → f < 65536 → ((c : ℕ) → (cell_at cells c).pins ≤ 4)
    → map (match_of k) (keep (places_at cells leaves) (variants cells f)) ≡ cut_matches cells 0 k leaves f
unfolding variants below has_table places_at fit_at
variant_matches cells k leaves f small four =
    ap (map (match_of k)) (keep-keep (places_at cells leaves) (has_table cells f) (from 0 (384 * length cells)))
    ∙ cells-block (cell_at cells) k leaves f small cells 0 (λ i. ap (cell_at cells) (zero-add i)) four
