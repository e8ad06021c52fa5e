-- A row of a pair's pins taken apart: "Its pins are the root's in order, with the inner's, in order, at the fed pin's place."
use Rattle.std.specs.Prelude.{◌+◌, ◌-◌, ◌*◌}
use Rattle.base.specs.{ℕ, Bool, cond, eqb, ltb}
use Rattle.model.specs.{bit, one}

-- bit j of the root's row in row r of the pair, where the inner has n pins from pin on and the value b
unfoldable pub root_bit : ℕ → ℕ → ℕ → Bool → ℕ → Bool
unfolding bit
root_bit r pin n b j = cond (ltb j pin) (bit r j) (cond (eqb j pin) b (bit r (j + n - 1)))

-- the root's row
unfoldable pub root_row : ℕ → ℕ → ℕ → Bool → ℕ
unfolding root_bit one
root_row r pin n b = one (root_bit r pin n b 0) + 2 * (one (root_bit r pin n b 1) + 2 * (one (root_bit r pin n b 2) + 2 * (one (root_bit r pin n b 3) + 2 * 0)))
