-- The numbers at the pins computed: what drives the net of a number, the first driver that a part of 33 refuses, and what is left in the array.
use Rattle.std.specs.Prelude.{◌+◌, ◌*◌, ◌/◌, ◌%◌, ◌∷◌}
use Rattle.base.specs.{ℕ, zero, suc, Bool, cond, List, [], eqb, ltb, length, get_or, replicate}
use Rattle.check_wires.specs.BucketLayout.{pins_at, use_at, own_at}

-- the first of k numbers from i on at which a test holds, the number behind them where there is none
unfoldable pub first_from : (ℕ → Bool) → ℕ → ℕ → ℕ
first_from test i zero = i
first_from test i (suc k) = let r = first_from test (suc i) k in cond (test i) i r

-- the values of a function at k numbers from i on
unfoldable pub values_from : (ℕ → ℕ) → ℕ → ℕ → List ℕ
values_from f i zero = []
values_from f i (suc k) = f i ∷ values_from f (suc i) k

-- what drives the net of a number: an input, from 12 on one of the first i drivers, or, at 12 + i, nothing
unfoldable pub driver_of : List ℕ → List ℕ → ℕ → ℕ → ℕ → ℕ
unfolding first_from
driver_of ws ins count i x =
    let k = first_from (λ m. eqb (get_or ins m 0) x) 0 count in
    cond (ltb k count) k (12 + first_from (λ m. eqb (own_at ws m) x) 0 i)

-- what stands at pin j of driver i; 0 past its last pin
unfoldable pub pin_of : List ℕ → List ℕ → ℕ → ℕ → ℕ → ℕ → ℕ
unfolding driver_of
pin_of ws ins count n i j = cond (ltb j (pins_at ws i)) (driver_of ws ins count n (use_at ws i j)) 0

-- "a line drives a net already driven"
unfoldable pub is_driven_twice : List ℕ → List ℕ → ℕ → ℕ → Bool
unfolding driver_of
is_driven_twice ws ins count i = ltb (driver_of ws ins count i (own_at ws i)) (12 + i)

-- "one uses a net that no line drives"
unfoldable pub uses_undriven : List ℕ → List ℕ → ℕ → ℕ → ℕ → Bool
unfolding first_from pin_of
uses_undriven ws ins count n i = ltb (first_from (λ j. eqb (pin_of ws ins count n i j) (12 + n)) 0 4) 4

-- the first driver that the first part of 33 refuses, else the first that the second does, else n
unfoldable pub refused_at : List ℕ → List ℕ → ℕ → ℕ → ℕ
unfolding first_from is_driven_twice uses_undriven
refused_at ws ins count n =
    let t = first_from (is_driven_twice ws ins count) 0 n in
    cond (ltb t n) t (first_from (uses_undriven ws ins count n) 0 n)

-- the number at place a: pin j of driver i stands at 4 i + j
unfoldable pub ref_at : List ℕ → List ℕ → ℕ → ℕ → List ℕ → ℕ → ℕ
unfolding pin_of
ref_at ws ins count n before a = cond (ltb a (4 * n)) (pin_of ws ins count n (a / 4) (a % 4)) (get_or before a 0)

-- what is left in the array: zeros after a refusal
unfoldable pub refs_left : List ℕ → List ℕ → ℕ → ℕ → List ℕ → List ℕ
unfolding refused_at values_from ref_at
refs_left ws ins count n before =
    cond (ltb (refused_at ws ins count n) n) (replicate 43692 0) (values_from (ref_at ws ins count n before) 0 (length before))
