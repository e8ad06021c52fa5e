-- Component numbers of drivers.
use Rattle.std.specs.Prelude.{◌+◌, ◌≤◌}
use Rattle.base.specs.{ℕ, List, get_or}
use Rattle.check_order.specs.{FeedsAt}

-- the component number of each driver that feeds driver i is higher by so much at least
abbrev pub Rising : List ℕ → List ℕ → ℕ → ℕ → Type 0
Rising refs components by i = (j k : ℕ) → FeedsAt refs i j k → get_or components i 0 + by ≤ get_or components k 0
