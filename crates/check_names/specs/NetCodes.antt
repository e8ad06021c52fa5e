-- Names of nets as numbers.
use Rattle.std.specs.Prelude.{◌+◌, ◌*◌, ◌||◌, ◌∷◌}
use Rattle.base.specs.{ℕ, Bool, Option, List, []}
use Rattle.model.specs.{only, between, is_letter, is_net}

-- "letters or digits"
unfoldable pub is_net_byte : ℕ → Bool
unfolding is_letter between
is_net_byte b = is_letter b || between 48 57 b

-- a name's bytes in base 256, the first the lowest
unfoldable pub code : List ℕ → ℕ
code [] = 0
code (b ∷ bs) = b + 256 * code bs

-- the number of a net
unfoldable pub net_code : List ℕ → Option ℕ
unfolding only
net_code w = only (is_net w) (code w)
