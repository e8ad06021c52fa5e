-- Drivers found by the numbers of their nets: each stands on the bucket of its number's remainder.
use Rattle.std.specs.Prelude.{◌+◌, ◌-◌, ◌*◌, ◌%◌, ◌≤◌, ◌<◌, ◌≡◌}
use Rattle.base.specs.{ℕ, Option, None, Some, List, length, get_or}

-- of the eight numbers of driver i: how many nets it uses, the number of net j of these, and that of its own net
abbrev pub pins_at : List ℕ → ℕ → ℕ
pins_at ws i = get_or ws (8 * i + 2) 0

abbrev pub use_at : List ℕ → ℕ → ℕ → ℕ
use_at ws i j = get_or ws (8 * i + 3 + j) 0

abbrev pub own_at : List ℕ → ℕ → ℕ
own_at ws i = get_or ws (8 * i + 7) 0

-- from head h the links lead to driver k; a head and a link are one more than a driver's place, 0 at the end
pub data On (links : List ℕ) (k : ℕ) : ℕ → Type 0 where
  here : {h : ℕ} → h ≡ k + 1 → On links k h
  later : {h : ℕ} → 0 < h → On links k (get_or links (h - 1) 0) → On links k h

-- links lead to drivers before
abbrev pub Falling : List ℕ → Type 0
Falling links = (x : ℕ) → get_or links x 0 ≤ x

-- the bucket of a number
abbrev pub head_of : List ℕ → ℕ → ℕ
head_of heads x = get_or heads (x % 16381) 0

-- the buckets have the first i drivers
pub record Chained (ws heads links : List ℕ) (i : ℕ) : Type 0 where
  pub many : length heads ≡ 16381
  pub long : length links ≡ 10923
  pub falling : Falling links
  pub below : (b : ℕ) → get_or heads b 0 ≤ i
  pub on : (k : ℕ) → k < i → On links k (head_of heads (own_at ws k))

-- an answer of a walk along a bucket: the place of a driver of this number, or none that the bucket has
abbrev pub Found : List ℕ → List ℕ → ℕ → ℕ → Option ℕ → Type 0
Found ws links h x (Some k) = (k < h) × (own_at ws k ≡ x)
Found ws links h x None = (k : ℕ) → On links k h → own_at ws k ≡ x → ⊥

-- an answer of a walk over the inputs: the place of the first with this number, or none
abbrev pub InputOf : List ℕ → ℕ → ℕ → Option ℕ → Type 0
InputOf ins count x (Some r) = (r < count) × (get_or ins r 0 ≡ x) × ((k : ℕ) → k < r → get_or ins k 0 ≡ x → ⊥)
InputOf ins count x None = (k : ℕ) → k < count → get_or ins k 0 ≡ x → ⊥
