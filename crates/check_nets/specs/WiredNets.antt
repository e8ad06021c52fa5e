-- A netlist's nets as numbers: what stands at each pin, and an order in which every driver comes behind those that feed it.
use Rattle.std.specs.Prelude.{◌+◌, ◌-◌, ◌*◌, ◌≤◌, ◌<◌, ◌≡◌}
use Rattle.base.specs.{ℕ, cond, List, [], leb, length, get_or}
use Rattle.model.specs.{Driver}

-- what stands past the last driver
abbrev pub no_driver : Driver
no_driver = record { offset = 0; table = 0; uses = []; net = [] }

-- the net that a number at a pin means: below 12 the input of that place in the file, from 12 on the driver of that place in the text
unfoldable pub net_of : List (List ℕ) → List Driver → ℕ → List ℕ
net_of inputs ds r = cond (leb 12 r) (get_or ds (r - 12) no_driver).net (get_or inputs r [])

-- pin j of driver i stands at 4 i + j: its number is that of an input or of a driver, and means the net that the pin uses
pub record Wired (inputs : List (List ℕ)) (ds : List Driver) (refs : List ℕ) : Type 0 where
  pub input_at : (i j : ℕ) → i < length ds → j < length (get_or ds i no_driver).uses → get_or refs (4 * i + j) 0 < 12 → get_or refs (4 * i + j) 0 < length inputs
  pub driver_at : (i j : ℕ) → i < length ds → j < length (get_or ds i no_driver).uses → get_or refs (4 * i + j) 0 < 12 + length ds
  pub means : (i j : ℕ) → i < length ds → j < length (get_or ds i no_driver).uses → net_of inputs ds (get_or refs (4 * i + j) 0) ≡ get_or (get_or ds i no_driver).uses j []

-- every driver has a place in the order, and what feeds it stands before it
pub record Ordered (ds : List Driver) (refs order : List ℕ) : Type 0 where
  pub each : (p : ℕ) → p < length ds → get_or order p 0 < length ds
  pub all : (i : ℕ) → i < length ds → (p : ℕ) × (p < length ds) × (get_or order p 0 ≡ i)
  pub behind : (p j : ℕ) → p < length ds → j < length (get_or ds (get_or order p 0) no_driver).uses → 12 ≤ get_or refs (4 * get_or order p 0 + j) 0
      → (q : ℕ) × (q < p) × (12 + get_or order q 0 ≡ get_or refs (4 * get_or order p 0 + j) 0)
