-- A pair is its two gates: at any values of its pins it has the root's value with the inner's at the fed pin, and its arrival is the root's with
-- the inner's arrival there.
use Rattle.base.specs.{ℕ, zero, suc, ◌+◌, ◌^◌, ◌≤◌, ◌<◌, max, le_of_suc-le-suc, not-suc-le-zero, le_of_eq, zero-add, arith, ◌≡◌, refl, ◌∙◌}
use Rattle.base.specs.{ap, Bool, false, List, [], ◌∷◌, ◌++◌, map, length, take, drop, get_or}
use Rattle.model.specs.{bit, from, below, value, row_of, latest, splice, pair_pins, pair_value, pair_table, join_delays, pair_delays}
use Rattle.model.specs.declared.Cell.{Cell}
use Rattle.theory_graph.proofs.{by_nat, bit-row}
use Rattle.theory_cover.proofs.CoverGates.{bit-tabulate, row_lt}

-- ---- arrivals

-- delays past the pins do not count
latest-take : (k : ℕ) (ts ds : List ℕ) → length ts ≤ k → latest ts (take k ds) ≡ latest ts ds
unfolding latest
latest-take k [] ds h = refl
latest-take zero (t ∷ ts) ds h = absurd (not-suc-le-zero h)
latest-take (suc k) (t ∷ ts) [] h = refl
latest-take (suc k) (t ∷ ts) (d ∷ ds) h = ap (max (t + d)) (latest-take k ts ds (le_of_suc-le-suc h))

-- the inner's pins first
inner_first : (n d : ℕ) (ts ds es : List ℕ) → suc n ≤ length ts → suc n ≤ length es
    → latest ts (map (λ (e : ℕ). d + e) (take (suc n) es) ++ ds) ≡ max (latest (take (suc n) ts) es + d) (latest (drop (suc n) ts) ds)
unfolding latest
inner_first n d [] ds es h k = absurd (not-suc-le-zero h)
inner_first n d (t ∷ ts) ds [] h k = absurd (not-suc-le-zero k)
inner_first zero d (t ∷ ts) ds (e ∷ es) h k = omega arith
inner_first (suc n) d (t ∷ ts) ds (e ∷ es) h k = omega (arith, (inner_first n d ts ds es (le_of_suc-le-suc h) (le_of_suc-le-suc k)))

joined-latest : (p n : ℕ) (ts ds es : List ℕ) → 1 ≤ n → p + n ≤ length ts → p < length ds → n ≤ length es
    → latest ts (join_delays p ds (take n es)) ≡ latest (splice p n (λ (us : List ℕ). latest us es) ts) ds
unfolding join_delays splice latest
joined-latest zero n ts [] es a h k m = absurd (not-suc-le-zero k)
joined-latest zero n ts (d ∷ ds) es a h k m = by_nat n (λ e. rw e (absurd (not-suc-le-zero (rw e at a))))
    (λ j q. rw q (inner_first j d ts ds es (omega (arith, rw q at a, rw q at h, rw q at m)) (rw q at m)))
joined-latest (suc p) n ts [] es a h k m = absurd (not-suc-le-zero k)
joined-latest (suc p) n [] (d ∷ ds) es a h k m = absurd (let z : suc (p + n) ≤ 0 = omega arith in not-suc-le-zero z)
joined-latest (suc p) n (t ∷ ts) (d ∷ ds) es a h k m = ap (max (t + d)) (joined-latest p n ts ds es a (omega arith) (le_of_suc-le-suc k) m)

-- "an inner pin's delays add to the fed pin's": a pair's arrival is that of its two gates
pub pair-latest : (p n : ℕ) (ts ds es : List ℕ) → 1 ≤ n → p + n ≤ length ts → length ts ≤ 4 → p < length ds → n ≤ length es
    → latest ts (pair_delays p n ds es) ≡ latest (splice p n (λ (us : List ℕ). latest us es) ts) ds
unfolding pair_delays
pair-latest p n ts ds es a h few k m = latest-take 4 ts (join_delays p ds (take n es)) few ∙ joined-latest p n ts ds es a h k m

-- ---- values

-- the bits of a row are what it is made of, in order
row_bits_lem : (bs : List Bool) → map (bit (row_of bs)) (below (length bs)) ≡ bs
unfolding below
row_bits_lem bs = go 0 bs (λ j h. ap (bit (row_of bs)) (zero-add j) ∙ bit-row bs j false h)
  where
    go : (i : ℕ) (cs : List Bool) → ((j : ℕ) → j < length cs → bit (row_of bs) (i + j) ≡ get_or cs j false) → map (bit (row_of bs)) (from i (length cs)) ≡ cs
    go i [] h = refl
    go i (c ∷ cs) h = cc (
      let e : i ≡ i + 0 = omega arith in e,
      h 0 (omega arith),
      go (suc i) cs
          (λ j q. ap (bit (row_of bs)) (let e : suc i + j ≡ i + suc j = omega arith in e) ∙ h (suc j) (omega arith)),
    )

-- a pair's table has the value of its two gates
pub pair-value : (root inner : Cell) (pin : ℕ) (bs : List Bool) → length bs ≡ pair_pins root inner → value (pair_table root pin inner) (row_of bs) ≡ pair_value root pin inner bs
unfolding value pair_table
pair-value root inner pin bs e = cc (
  bit-tabulate (λ r. pair_value root pin inner (map (bit r) (below (pair_pins root inner))))
      (2 ^ pair_pins root inner) (row_of bs) (row_lt bs (pair_pins root inner) (le_of_eq e)),
  row_bits_lem bs,
)
