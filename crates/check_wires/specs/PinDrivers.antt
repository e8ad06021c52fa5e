-- What stands at each pin of a netlist: below 12 the place of an input, from 12 on that of a driver.
use Rattle.std.specs.Prelude.{◌+◌, ◌-◌, ◌*◌, ◌≤◌, ◌<◌, ◌≡◌, ◌⊎◌, Result, Ok, Err}
use Rattle.base.specs.{ℕ, List, length, get_or, replicate}
use Rattle.check_wires.specs.BucketLayout.{pins_at, use_at, own_at}
use Rattle.check_wires.specs.References.{refused_at, refs_left}

-- the numbers of n drivers, eight each
pub record Drivers (ws : List ℕ) (n count : ℕ) : Type 0 where
  pub long : 8 * n ≤ length ws
  pub few : n ≤ 10923
  pub inputs : count ≤ 12
  pub pins : (i : ℕ) → i < n → pins_at ws i ≤ 4

-- no input and none of the first i drivers drives a net of this number
pub record Undriven (ws ins : List ℕ) (count i x : ℕ) : Type 0 where
  pub no_input : (k : ℕ) → k < count → get_or ins k 0 ≡ x → ⊥
  pub no_driver : (k : ℕ) → k < i → own_at ws k ≡ x → ⊥

-- one does
abbrev pub Driven : List ℕ → List ℕ → ℕ → ℕ → ℕ → Type 0
Driven ws ins count i x = ((k : ℕ) × (k < count) × (get_or ins k 0 ≡ x)) ⊎ ((k : ℕ) × (k < i) × (own_at ws k ≡ x))

-- what drives a net of this number: an input, one of the first i drivers, or, at 12 + i, nothing
pub record Looked (ws ins : List ℕ) (count i x r : ℕ) : Type 0 where
  pub most : r ≤ 12 + i
  pub input : r < 12 → (r < count) × (get_or ins r 0 ≡ x) × ((k : ℕ) → k < r → get_or ins k 0 ≡ x → ⊥)
  pub driver : 12 ≤ r → r < 12 + i → own_at ws (r - 12) ≡ x
  pub none : r ≡ 12 + i → Undriven ws ins count i x

-- r stands at pin j of driver i; past the last pin 0 does, which feeds nothing
pub record Pin (ws ins : List ℕ) (count n i j r : ℕ) : Type 0 where
  pub most : r < 12 + n
  pub input : j < pins_at ws i → r < 12 → (r < count) × (get_or ins r 0 ≡ use_at ws i j) × ((k : ℕ) → k < r → get_or ins k 0 ≡ use_at ws i j → ⊥)
  pub driver : j < pins_at ws i → 12 ≤ r → own_at ws (r - 12) ≡ use_at ws i j
  pub past : pins_at ws i ≤ j → r ≡ 0

-- what was found for a pin, or, at 12 + n, nothing
pub record PinLooked (ws ins : List ℕ) (count n i j r : ℕ) : Type 0 where
  pub most : r ≤ 12 + n
  pub pin : r < 12 + n → Pin ws ins count n i j r
  pub used : r ≡ 12 + n → j < pins_at ws i
  pub none : r ≡ 12 + n → Undriven ws ins count n (use_at ws i j)

-- the pins of driver i
abbrev pub Row : List ℕ → List ℕ → ℕ → ℕ → List ℕ → ℕ → Type 0
Row ws ins count n refs i = (j : ℕ) → j < 4 → Pin ws ins count n i j (get_or refs (4 * i + j) 0)

-- "uses a net that no line drives"
abbrev pub UsesUndriven : List ℕ → List ℕ → ℕ → ℕ → ℕ → Type 0
UsesUndriven ws ins count n i = (j : ℕ) × (j < pins_at ws i) × Undriven ws ins count n (use_at ws i j)

-- a fact of the first driver that is refused, or of n where none is
abbrev pub Upto : (ℕ → Type 0) → ℕ → Result (Unit {0}) ℕ → Type 0
Upto P n (Ok u) = P n
Upto P n (Err r) = (r < n) × P r

-- the first driver of a net already driven, n where there is none
pub record Once (ws ins : List ℕ) (count n r : ℕ) : Type 0 where
  pub most : r ≤ n
  pub fresh : (i : ℕ) → i < r → Undriven ws ins count i (own_at ws i)
  pub twice_driven : r < n → Driven ws ins count r (own_at ws r)

-- the first driver that uses a net that no line drives, n where there is none
pub record Rows (ws ins : List ℕ) (count n r : ℕ) (refs : List ℕ) : Type 0 where
  pub most : r ≤ n
  pub rows : (i : ℕ) → i < r → Row ws ins count n refs i
  pub has_undriven : r < n → UsesUndriven ws ins count n r

-- the pins of the drivers before the first that uses such a net, and the array behind all pins as it was
pub record Written (ws ins : List ℕ) (count n r : ℕ) (before after : List ℕ) : Type 0 where
  pub long : length after ≡ length before
  pub rows : Rows ws ins count n r after
  pub behind : (a : ℕ) → 4 * n ≤ a → get_or after a 0 ≡ get_or before a 0

-- the first driver that either part of 33 refuses, n where there is none
pub data First (ws ins : List ℕ) (count n r : ℕ) (refs : List ℕ) : Type 0 where
  twice_driven : r < n → Once ws ins count n r → First ws ins count n r refs
  once : Once ws ins count n n → Rows ws ins count n r refs → First ws ins count n r refs

-- `is` and `left` say all; what follows from them is what is asked further on
pub record Referred (ws ins : List ℕ) (count n r : ℕ) (before after : List ℕ) : Type 0 where
  pub is : r ≡ refused_at ws ins count n
  pub left : after ≡ refs_left ws ins count n before
  pub written : List ℕ
  pub first : First ws ins count n r written
  pub whole : n ≤ r → after ≡ written
  pub none : r < n → after ≡ replicate 43692 0
