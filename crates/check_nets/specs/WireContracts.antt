-- What `wire` asks, and what it says of nets, pins and order.
use Rattle.std.specs.Prelude.{◌≡◌}
use Rattle.base.specs.{List, ℕ, length, replicate}
use Rattle.model.specs.{Driver, Verdict}
use Rattle.check_wires.specs.{refs_left}
use Rattle.check_order.specs.{sort_of}
use Rattle.check_nets.specs.ValidatedNets.{Stored, left_by, Validated}

-- the arrays hold some drivers and inputs' names, and those that are lent are whole
abbrev pub Wirable : List ℕ → ℕ → List ℕ → ℕ → List ℕ → List ℕ → Type 0
Wirable nets n inputs count refs order = ((names : List (List ℕ)) × (ds : List Driver) × Stored names ds nets inputs n count) × (length refs ≡ 43692) × (length order ≡ 10923)

-- 33, or what stands at each pin and an order; after 33 both arrays are zeros
abbrev pub Wiring : List ℕ → ℕ → List ℕ → ℕ → List ℕ → List ℕ → Verdict → List ℕ → List ℕ → Type 0
Wiring nets n inputs count refs order r refs' order' = ((names : List (List ℕ)) (ds : List Driver) → Stored names ds nets inputs n count → Validated names ds r refs' order') × ((refs' ≡ left_by r 43692 (refs_left nets inputs count n refs)) × (order' ≡ left_by r 10923 (sort_of (refs_left nets inputs count n refs) n (replicate 10923 0) order).order))
