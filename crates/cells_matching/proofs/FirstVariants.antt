-- Orders that give a cell's pins the same places, of which the first is tried.
--     fresh-one           a variant of such an order, its mask the cell's; `fresh-mask`, `fresh-run`: others are not tried
--     run_fits            what is left of the 24 orders is of whole runs
--     better-not          a variant that is not strictly earlier changes nothing
--     best_fresh          those that are not tried are never strictly earlier: the best of the others is the best of all
use Rattle.base.specs.{ℕ, zero, suc, ◌+◌, ◌-◌, ◌*◌, ◌/◌, ◌%◌, ◌^◌, ◌<◌, ◌≤◌, max, ◌≡◌, refl, sym, ap, ap₂, subst, ◌∙◌, Bool, true, false}
use Rattle.base.specs.{◌&&◌, ◌||◌, false≢true, List, [], ◌∷◌, arith, T, eqb, ltb, length, get_or, eqb-true, eqb-false, ltb-true, ltb-false}
use Rattle.base.specs.{lt-ltb, le-ltb, eq-eqb, ne_eqb}
use Rattle.model.specs.{bit, all, keep, from, below, cell_at, literal, value, orders, pin_row, tabulate}
use Rattle.model.specs.declared.Cell.{Cell}
use Rattle.base_truth.specs.{places_of, variant_table}
use Rattle.base_truth.proofs.{at, or_out, places-four}
use Rattle.cells_matching.specs.declared.Best.{Best}
use Rattle.cells_matching.specs.{line_of, order_of, mask_of, is_variant, table_at, has_table, variants, run_of, fresh, is_fresh, fresh_with}
use Rattle.cells_matching.specs.{fresh_ones, pin_at, largest, arrival_of, arrival_at, unmatched_under, better, best_from, best_under}
use Rattle.cells_matching.proofs.BestMatch.{by_bool}

-- ---- the number of a variant

module _ (line o i : ℕ) (order : o < 24) (mask : i < 16) where
  pub line-is : line_of (384 * line + 16 * o + i) ≡ line
  line-is = omega arith

  pub order_is : order_of (384 * line + 16 * o + i) ≡ o
  order_is = omega arith

  pub mask_is : mask_of (384 * line + 16 * o + i) ≡ i
  mask_is = omega arith

  fresh-is : (pins : ℕ) → fresh pins (384 * line + 16 * o + i) ≡ (ltb i (2 ^ pins) && eqb (o % run_of pins) 0)
  unfolding fresh
  fresh-is pins = ap₂ (λ (m q : ℕ). ltb m (2 ^ pins) && eqb (q % run_of pins) 0) mask_is order_is

  pub fresh-one : (pins : ℕ) → i < 2 ^ pins → o % run_of pins ≡ 0 → fresh pins (384 * line + 16 * o + i) ≡ true
  fresh-one pins h e = fresh-is pins ∙ ap₂ ◌&&◌ (lt-ltb i (2 ^ pins) h) (eq-eqb (o % run_of pins) 0 e)

  pub fresh-mask : (pins : ℕ) → 2 ^ pins ≤ i → fresh pins (384 * line + 16 * o + i) ≡ false
  fresh-mask pins h = fresh-is pins ∙ ap (λ (b : Bool). b && eqb (o % run_of pins) 0) (le-ltb i (2 ^ pins) h)

-- ---- runs

and_none : (a b : Bool) → b ≡ false → (a && b) ≡ false
and_none true b e = e
and_none false b e = refl

-- in a run, past the first order
past : (pins line o i : ℕ) → o % run_of pins ≡ 0 → o + run_of pins ≤ 24 → 16 ≤ i → i < 16 * run_of pins → ¬ (order_of (384 * line + 16 * o + i) % run_of pins ≡ 0)
unfolding run_of
past zero line o i e f l h = λ q. omega (arith, q)
past (suc zero) line o i e f l h = λ q. omega (arith, q)
past (suc (suc zero)) line o i e f l h = λ q. omega (arith, q)
past (suc (suc (suc pins))) line o i e f l h = absurd (omega arith)

pub fresh-run : (pins line o i : ℕ) → o % run_of pins ≡ 0 → o + run_of pins ≤ 24 → 16 ≤ i → i < 16 * run_of pins → fresh pins (384 * line + 16 * o + i) ≡ false
unfolding fresh
fresh-run pins line o i e f l h =
    let x : ℕ = 384 * line + 16 * o + i in
    and_none (ltb (mask_of x) (2 ^ pins)) (eqb (order_of x % run_of pins) 0) (ne_eqb (order_of x % run_of pins) 0 (past pins line o i e f l h))

run_none : (pins : ℕ) → 0 % run_of pins ≡ 0
unfolding run_of
run_none zero = omega arith
run_none (suc zero) = omega arith
run_none (suc (suc zero)) = omega arith
run_none (suc (suc (suc pins))) = omega arith

pub run_some : (pins : ℕ) → 0 < run_of pins
unfolding run_of
run_some zero = omega arith
run_some (suc zero) = omega arith
run_some (suc (suc zero)) = omega arith
run_some (suc (suc (suc pins))) = omega arith

pub runs_all : (pins : ℕ) → 24 / run_of pins * run_of pins ≡ 24
unfolding run_of
runs_all zero = refl
runs_all (suc zero) = refl
runs_all (suc (suc zero)) = refl
runs_all (suc (suc (suc pins))) = refl

-- the orders from the i-th run on
pub runs_left : (pins i : ℕ) → 0 < i → i ≤ 24 / run_of pins → (0 < i * run_of pins) × (i * run_of pins ≤ 24) × (i * run_of pins % run_of pins ≡ 0)
    × (i * run_of pins - run_of pins ≡ (i - 1) * run_of pins) × ((i - 1) * run_of pins % run_of pins ≡ 0)
unfolding run_of
runs_left zero i l h = (omega arith, omega arith, omega arith, omega arith, omega arith)
runs_left (suc zero) i l h = (omega arith, omega arith, omega arith, omega arith, omega arith)
runs_left (suc (suc zero)) i l h = (omega arith, omega arith, omega arith, omega arith, omega arith)
runs_left (suc (suc (suc pins))) i l h = (omega arith, omega arith, omega arith, omega arith, omega arith)

pub run_fits : (pins o : ℕ) → 0 < o → o % run_of pins ≡ 0 → (1 ≤ run_of pins) × (run_of pins ≤ o) × ((o - run_of pins) % run_of pins ≡ 0)
unfolding run_of
run_fits zero o l e = (omega arith, omega arith, omega arith)
run_fits (suc zero) o l e = (omega arith, omega arith, omega arith)
run_fits (suc (suc zero)) o l e = (omega arith, omega arith, omega arith)
run_fits (suc (suc (suc pins))) o l e = (omega arith, omega arith, omega arith)

-- ---- the same places

-- an order that is not the first of a run of so many has the place of pin j from the order before
follows : ℕ → ℕ → ℕ → Bool
follows run j o = eqb (o % run) 0 || eqb (get_or (places_of (o - 1)) j 0) (get_or (places_of o) j 0)

follow : (run j o : ℕ) → T (follows run j o) → ¬ (o % run ≡ 0) → get_or (places_of (o - 1)) j 0 ≡ get_or (places_of o) j 0
unfolding follows
follow run j o t n = eqb-true (get_or (places_of (o - 1)) j 0) (get_or (places_of o) j 0)
    (or_out (eqb (o % run) 0) (eqb (get_or (places_of (o - 1)) j 0) (get_or (places_of o) j 0)) t (ne_eqb (o % run) 0 n))

place_same : (pins o j : ℕ) → o < 24 → ¬ (o % run_of pins ≡ 0) → j < pins → get_or (places_of (o - 1)) j 0 ≡ get_or (places_of o) j 0
unfolding run_of follows all below orders
place_same zero o j h n l = absurd (omega arith)
place_same (suc zero) o zero h n l = follow 6 0 o (at (follows 6 0) 24 tt o h) n
place_same (suc zero) o (suc j) h n l = absurd (omega arith)
place_same (suc (suc zero)) o zero h n l = follow 2 0 o (at (follows 2 0) 24 tt o h) n
place_same (suc (suc zero)) o (suc zero) h n l = follow 2 1 o (at (follows 2 1) 24 tt o h) n
place_same (suc (suc zero)) o (suc (suc j)) h n l = absurd (omega arith)
place_same (suc (suc (suc pins))) o j h n l = absurd (n (omega arith))

-- rows depend on the pins' places alone
row_same : (m : ℕ) (ps qs : List ℕ) (mask r : ℕ) → m ≤ length ps → m ≤ length qs → ((j : ℕ) → j < m → get_or ps j 0 ≡ get_or qs j 0) → pin_row m ps mask r ≡ pin_row m qs mask r
unfolding pin_row
row_same zero ps qs mask r h l same = refl
row_same (suc m) [] qs mask r h l same = absurd (omega arith)
row_same (suc m) (p ∷ ps) [] mask r h l same = absurd (omega arith)
row_same (suc m) (p ∷ ps) (q ∷ qs) mask r h l same =
    rw (same 0 (omega arith), row_same m ps qs (mask / 2) r (omega arith) (omega arith) (λ j f. same (suc j) (omega arith)))

-- and so do arrivals
largest-same : (p q : ℕ → ℕ) (m j : ℕ) → ((i : ℕ) → i < j + m → p i ≡ q i) → largest p j m ≡ largest q j m
unfolding largest
largest-same p q zero j same = refl
largest-same p q (suc m) j same = ap₂ max (same j (omega arith)) (largest-same p q m (suc j) (λ i h. same i (omega arith)))

module _ (pins o : ℕ) (four : pins ≤ 4) (h : o < 24) (n : ¬ (o % run_of pins ≡ 0)) where
  before-long : pins ≤ length (places_of (o - 1))
  before-long = omega (arith, places-four (o - 1) (omega arith))

  own-long : pins ≤ length (places_of o)
  own-long = omega (arith, places-four o h)

  table_same : (table mask : ℕ) → variant_table pins table (places_of (o - 1)) mask ≡ variant_table pins table (places_of o) mask
  unfolding variant_table
  table_same table mask = λ i. tabulate (λ r. value table (row_same pins (places_of (o - 1)) (places_of o) mask r before-long own-long (λ j l. place_same pins o j h n l) i)) 16

  arrival-same : (delays : List ℕ) (mask : ℕ) (times : List ℕ) → arrival_of pins delays (places_of (o - 1)) mask times ≡ arrival_of pins delays (places_of o) mask times
  unfolding arrival_of pin_at
  arrival-same delays mask times =
      largest-same (pin_at delays (places_of (o - 1)) mask times) (pin_at delays (places_of o) mask times) pins 0
      (λ j l. ap (λ (p : ℕ). get_or times (literal (bit mask j) p) 0 + get_or delays j 0) (place_same pins o j h n (omega arith)))

-- ---- the best of all

pub better-not : (b : Best) (x a : ℕ) → b.arrival ≤ a → better b x a ≡ b
unfolding better
better-not b x a h = rw (le-ltb a b.arrival h)

and-true : (a b : Bool) → (a && b) ≡ true → (a ≡ true) × (b ≡ true)
and-true true b e = (refl, e)
and-true false b e = absurd (false≢true e)

module _ (cells : List Cell) (times : List ℕ) (f : ℕ) (four : (c : ℕ) → (cell_at cells c).pins ≤ 4) where
  -- a variant that is tried is one
  fresh_variant : (x : ℕ) → has_table cells f x ≡ false → fresh_with cells f x ≡ false
  unfolding has_table fresh_with is_variant is_fresh fresh
  fresh_variant x e = go (ltb (mask_of x) (2 ^ (cell_at cells (line_of x)).pins)) (eqb (order_of x % run_of (cell_at cells (line_of x)).pins) 0) (eqb f (table_at cells x)) e
    where
      go : (a b c : Bool) → (a && c) ≡ false → ((a && b) && c) ≡ false
      go true true c e = e
      go true false c e = refl
      go false b c e = refl

  -- one that is not tried: the order before gives the same
  module _ (x : ℕ) (has : has_table cells f x ≡ true) (stale : fresh_with cells f x ≡ false) where
    pins : ℕ
    pins = (cell_at cells (line_of x)).pins

    inside : ¬ (order_of x % run_of pins ≡ 0)
    unfolding has_table fresh_with is_variant is_fresh fresh pins
    inside e =
        let a = and-true (is_variant cells x) (eqb f (table_at cells x)) has in
        false≢true (sym stale ∙ ap₂ ◌&&◌ (ap₂ ◌&&◌ a.0 (eq-eqb (order_of x % run_of (cell_at cells (line_of x)).pins) 0 e)) a.1)

    early : 1 ≤ order_of x
    early = go (order_of x) inside
      where
        go : (o : ℕ) → ¬ (o % run_of pins ≡ 0) → 1 ≤ o
        go zero n = absurd (n (run_none pins))
        go (suc o) n = omega arith

    enough : 16 ≤ x
    enough = omega (arith, early)

    line_before : line_of (x - 16) ≡ line_of x
    line_before = omega (arith, early)

    order-before : order_of (x - 16) ≡ order_of x - 1
    order-before = omega (arith, early)

    mask-before : mask_of (x - 16) ≡ mask_of x
    mask-before = omega (arith, early)

    has-before : has_table cells f (x - 16) ≡ true
    unfolding has_table is_variant table_at pins
    has-before =
        rw (line_before, order-before, mask-before, table_same pins (order_of x) (four (line_of x)) (omega arith) inside (cell_at cells (line_of x)).table (mask_of x)) has

    arrival-before : arrival_at cells times (x - 16) ≡ arrival_at cells times x
    unfolding arrival_at pins
    arrival-before =
        rw (line_before, order-before, mask-before) (arrival-same pins (order_of x) (four (line_of x)) (omega arith) inside (cell_at cells (line_of x)).delays (mask_of x) times)

  -- the best so far is no later than any variant that was passed, tried or not
  Passed : Best → ℕ → Type 0
  Passed b i = (y : ℕ) → y < i → has_table cells f y ≡ true → b.arrival ≤ arrival_at cells times y

  better-low : (b : Best) (x a : ℕ) → ((better b x a).arrival ≤ b.arrival) × ((better b x a).arrival ≤ a)
  unfolding better
  better-low b x a = by_bool (ltb a b.arrival)
      (λ e. rw e (omega (arith, ltb-true a b.arrival e), omega arith))
      (λ e. rw e (omega arith, ltb-false a b.arrival e))

  last : (b : Best) (i : ℕ) → Passed b i → (has_table cells f i ≡ true → b.arrival ≤ arrival_at cells times i) → Passed b (suc i)
  unfolding Passed
  last b i p q y h e = by_bool (eqb y i)
      (λ k. let s = eqb-true y i k in subst (λ (z : ℕ). b.arrival ≤ arrival_at cells times z) (sym s) (q (ap (has_table cells f) (sym s) ∙ e)))
      (λ k. p y (omega (arith, eqb-false y i k)) e)

  best_from_lem : (n i : ℕ) (b : Best) → Passed b i → best_from cells times b (keep (fresh_with cells f) (from i n)) ≡ best_from cells times b (keep (has_table cells f) (from i n))
  unfolding keep from best_from Passed
  best_from_lem zero i b p = refl
  best_from_lem (suc n) i b p = by_bool (has_table cells f i)
      (λ e. by_bool (fresh_with cells f i)
      (λ g. rw (e, g) (best_from_lem n (suc i) (better b i (arrival_at cells times i))
      (last (better b i (arrival_at cells times i)) i (λ y h k. omega (arith, p y h k, (better-low b i (arrival_at cells times i)).0)) (λ k. (better-low b i (arrival_at cells times i)).1))))
      (λ g. rw (e, g) (best_from_lem n (suc i) b (last b i p (λ k. input_arrival e g))
      ∙ sym (ap (λ (c : Best). best_from cells times c (keep (has_table cells f) (from (suc i) n))) (better-not b i (arrival_at cells times i) (input_arrival e g))))))
      (λ e. rw (e, fresh_variant i e) (best_from_lem n (suc i) b (last b i p (λ k. absurd (false≢true (sym e ∙ k))))))
    where
      input_arrival : has_table cells f i ≡ true → fresh_with cells f i ≡ false → b.arrival ≤ arrival_at cells times i
      input_arrival e g = omega (arith, p (i - 16) (omega (arith, enough i e g)) (has-before i e g), arrival-before i e g)

  pub best_fresh : (bound : ℕ) → best_from cells times (unmatched_under bound) (fresh_ones cells f) ≡ best_under cells f times bound
  unfolding fresh_ones best_under variants below Passed
  best_fresh bound = best_from_lem (384 * length cells) 0 (unmatched_under bound) (λ y h e. absurd (omega arith))
