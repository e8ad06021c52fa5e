-- What a match is, by the values of the pins, apart from the functions that the choice tries it with.
--     fits_iff                    a cell fits a function under an order and a mask: places below the leaves, a mask without high bits, and in all 16
--                                 rows the function's value is the cell's at its pins' values
--     match_iff                   the same of a cut's function in a phase, by the walk from the root down
use Rattle.base.specs.{ℕ, zero, suc, ◌/◌, ◌%◌, ◌^◌, ◌≤◌, ◌<◌, le_of_suc-le-suc, not-suc-le-zero, arith, ◌≡◌, refl, sym, ◌∙◌, ap, subst, ◌↔◌}
use Rattle.base.specs.{Bool, true, false, not, cond, ◌&&◌, beq, true≢false, false≢true, List, [], ◌∷◌, map, T, ltb, ltb→lt, lt→ltb}
use Rattle.base.specs.{length, take, get_or, and_yes, yes_and, eqb_no}
use Rattle.model.specs.{all, bit, flip, from, below, value, row_of, pin_row, walk, cut_table, phase_table, places_fit, rows_agree, fits}
use Rattle.model.specs.Graph.{Graph, span}
use Rattle.model.specs.declared.Cell.{Cell}
use Rattle.theory_graph.proofs.{all_of, all_in, below_in, below_out}
use Rattle.theory_cover.proofs.CoverGates.{bit-tabulate, two_pow, tabulate-lt, phase-bit, beq-eq}

-- "pin j fed from its place, complemented where mask bit j is 1"
abbrev pub pin_value : List ℕ → ℕ → ℕ → ℕ → Bool
pin_value places mask r j = cond (bit mask j) (not (bit r (get_or places j 0))) (bit r (get_or places j 0))

-- "A cell of m pins matches a cut under an order and a phase mask (no bit at or above m) if pin j's place is below the number of leaves for each
-- j < m and, in all 16 rows, the cut's function equals the cell's value with pin j fed from its place": `want` is the value wanted in each row
pub record Fits (c : Cell) (places : List ℕ) (mask leaves : ℕ) (want : ℕ → Bool) : Type 0 where
  pub no_high_bit : (j : ℕ) → c.pins ≤ j → bit mask j ≡ false
  pub in_leaves : (j : ℕ) → j < c.pins → get_or places j 0 < leaves
  pub agrees : (r : ℕ) → r < 16 → want r ≡ value c.table (row_of (map (pin_value places mask r) (below c.pins)))

-- ---- the mask

zero_bits : (j : ℕ) → bit 0 j ≡ false
unfolding bit
zero_bits zero = refl
zero_bits (suc j) = zero_bits j

high_clear : (m mask : ℕ) → mask < 2 ^ m → (j : ℕ) → m ≤ j → bit mask j ≡ false
unfolding bit
high_clear zero mask h j k = ap (λ (x : ℕ). bit x j) (let e : mask ≡ 0 = omega arith in e) ∙ zero_bits j
high_clear (suc m) mask h zero k = absurd (not-suc-le-zero k)
high_clear (suc m) mask h (suc j) k = high_clear m (mask / 2) (omega (arith, two_pow m)) j (le_of_suc-le-suc k)

-- a number without bits is 0
no_bits : (fuel n : ℕ) → n ≤ fuel → ((j : ℕ) → bit n j ≡ false) → n ≡ 0
unfolding bit
no_bits zero n h b = omega arith
no_bits (suc fuel) n h b =
    let d : ¬ (n % 2 ≡ 1) = eqb_no (subst (λ (t : Bool). T (not t)) (sym (b 0)) tt) in
    omega (arith, no_bits fuel (n / 2) (omega arith) (λ j. b (suc j)))

clear_high : (m mask : ℕ) → ((j : ℕ) → m ≤ j → bit mask j ≡ false) → mask < 2 ^ m
unfolding bit
clear_high zero mask b = let e : mask ≡ 0 = no_bits mask mask (omega arith) (λ j. b j (omega arith)) in omega arith
clear_high (suc m) mask b = omega (arith, two_pow m, clear_high m (mask / 2) (λ j h. b (suc j) (omega arith)))

-- ---- the places

places-each : (n : ℕ) (places : List ℕ) (leaves : ℕ) → n ≤ length places → T (all (λ (p : ℕ). ltb p leaves) (take n places)) → (j : ℕ) → j < n → get_or places j 0 < leaves
unfolding all
places-each zero places leaves h t j k = absurd (not-suc-le-zero k)
places-each (suc n) [] leaves h t j k = absurd (not-suc-le-zero h)
places-each (suc n) (p ∷ ps) leaves h t zero k = ltb→lt p leaves (and_yes (ltb p leaves) (all (λ (q : ℕ). ltb q leaves) (take n ps)) t).0
places-each (suc n) (p ∷ ps) leaves h t (suc j) k =
    places-each n ps leaves (le_of_suc-le-suc h) (and_yes (ltb p leaves) (all (λ (q : ℕ). ltb q leaves) (take n ps)) t).1 j (le_of_suc-le-suc k)

each-place : (n : ℕ) (places : List ℕ) (leaves : ℕ) → n ≤ length places → ((j : ℕ) → j < n → get_or places j 0 < leaves) → T (all (λ (p : ℕ). ltb p leaves) (take n places))
unfolding all
each-place zero places leaves h k = tt
each-place (suc n) [] leaves h k = absurd (not-suc-le-zero h)
each-place (suc n) (p ∷ ps) leaves h k = yes_and (ltb p leaves) (all (λ (q : ℕ). ltb q leaves) (take n ps))
    (lt→ltb p leaves (k 0 (omega arith))) (each-place n ps leaves (le_of_suc-le-suc h) (λ j i. k (suc j) (omega arith)))

-- ---- the rows

map-from : (h : ℕ → Bool) (n i : ℕ) → map h (from (suc i) n) ≡ map (λ (j : ℕ). h (suc j)) (from i n)
unfolding from
map-from h zero i = refl
map-from h (suc n) i = ap (λ (bs : List Bool). h (suc i) ∷ bs) (map-from h n (suc i))

flip_cond : (a b : Bool) → flip a b ≡ cond a (not b) b
unfolding flip
flip_cond true b = refl
flip_cond false b = refl

-- the pins' row is made of the pins' values
row-values : (n : ℕ) (places : List ℕ) (mask r : ℕ) → n ≤ length places → pin_row n places mask r ≡ row_of (map (pin_value places mask r) (from 0 n))
unfolding pin_row row_of from bit
row-values zero places mask r h = refl
row-values (suc n) [] mask r h = absurd (not-suc-le-zero h)
row-values (suc n) (p ∷ ps) mask r h =
    cc (flip_cond (bit mask 0) (bit r p), row-values n ps (mask / 2) r (le_of_suc-le-suc h), map-from (pin_value (p ∷ ps) mask r) n 0)

beq_same : (a b : Bool) → a ≡ b → T (beq a b)
beq_same true true e = tt
beq_same true false e = absurd (true≢false e)
beq_same false true e = absurd (false≢true e)
beq_same false false e = tt

module _ (c : Cell) (places : List ℕ) (mask leaves f : ℕ) (long : c.pins ≤ length places) where
  in_row : (r : ℕ) → value c.table (pin_row c.pins places mask r) ≡ value c.table (row_of (map (pin_value places mask r) (below c.pins)))
  unfolding below
  in_row r = ap (value c.table) (row-values c.pins places mask r long)

  pub fits_iff : T (fits c places mask leaves f) ↔ Fits c places mask leaves (value f)
  unfolding fits places_fit rows_agree
  fits_iff = (
    (λ t. let p = and_yes (ltb mask (2 ^ c.pins)) (places_fit c places leaves && rows_agree c places mask f) t in let q = and_yes
        (places_fit c places leaves) (rows_agree c places mask f) p.1 in record {
          no_high_bit = high_clear c.pins mask (ltb→lt mask (2 ^ c.pins) p.0);
          in_leaves = places-each c.pins places leaves long q.0;
          agrees = λ r h. beq-eq (value f r) (value c.table (pin_row c.pins places mask r))
              (all_of test (below 16) q.1 r (below_in 16 r h)) ∙ in_row r;
        }),
    (λ m. yes_and (ltb mask (2 ^ c.pins)) (places_fit c places leaves && rows_agree c places mask f)
        (lt→ltb mask (2 ^ c.pins) (clear_high c.pins mask m.no_high_bit)) (yes_and (places_fit c places leaves)
        (rows_agree c places mask f) (each-place c.pins places leaves long m.in_leaves) (all_in test (below 16) (λ r i. beq_same
        (value f r) (value c.table (pin_row c.pins places mask r)) (m.agrees r (below_out 16 r i) ∙ sym (in_row r)))))),
  )
    where
      test : ℕ → Bool
      test r = beq (value f r) (value c.table (pin_row c.pins places mask r))

-- "For the negative phase the cut's function is complemented."
module _ (c : Cell) (places : List ℕ) (mask : ℕ) (g : Graph) (cut : List ℕ) (v : ℕ) (neg : Bool) (long : c.pins ≤ length places) where
  abbrev pub wanted : ℕ → Bool
  wanted r = cond neg (not (walk (span g) g cut r v)) (walk (span g) g cut r v)

  want_is : (r : ℕ) → r < 16 → value (phase_table neg (cut_table g cut v)) r ≡ wanted r
  unfolding value cut_table
  want_is r h = cc (
    phase-bit neg (cut_table g cut v) r (tabulate-lt (λ q. walk (span g) g cut q v) 16) h,
    bit-tabulate
        (λ q. walk (span g) g cut q v) 16 r h,
    flip_cond neg (walk (span g) g cut r v),
  )

  pub match_iff : T (fits c places mask (length cut) (phase_table neg (cut_table g cut v))) ↔ Fits c places mask (length cut) wanted
  match_iff =
      let e = fits_iff c places mask (length cut) (phase_table neg (cut_table g cut v)) long in (
        (λ t. let m = e.0 t in record { no_high_bit = m.no_high_bit; in_leaves = m.in_leaves; agrees = λ r h. sym (want_is r h) ∙ m.agrees r h }),
        (λ m. e.1 (record { no_high_bit = m.no_high_bit; in_leaves = m.in_leaves; agrees = λ r h. want_is r h ∙ m.agrees r h })),
      )
