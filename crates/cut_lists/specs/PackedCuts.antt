-- A cut's leaves as digits of one number, the first lowest, each counted back from 4096: past the last there are zeros, so that of two heads the greater digit is the
-- lesser leaf, and a cut that has ended comes last.
use Rattle.std.specs.Prelude.{◌∷◌, ◌≡◌, ◌+◌, ◌-◌, ◌*◌, ◌/◌, ◌%◌, ◌^◌, ◌≤◌, ◌<◌}
use Rattle.base.specs.{cond, List, [], ℕ, zero, suc, bit_or, eqb, length, get_or}
use Rattle.base_words.specs.{count_at, leaves_at}

-- r is leaf i of n as a digit
pub record Digit (leaves : List ℕ) (n i r : ℕ) : Type 0 where
  pub there : i < n → r ≡ 4096 - get_or leaves i 0
  pub past : n ≤ i → r ≡ 0
  pub small : r ≤ 4096

-- the digits of a cut, and zeros
unfoldable pub pack : List ℕ → ℕ
pack [] = 0
pack (x ∷ xs) = (4096 - x) + 65536 * pack xs

-- the cuts of v, each packed
abbrev pub Packed : List ℕ → ℕ → ℕ → List ℕ → Type 0
Packed w m v ys = (j : ℕ) → j < count_at w m v → get_or ys j 0 ≡ pack (leaves_at w m v j)

-- a bit for each of n digits of a packed cut; those past the last leaf have the lowest, which is always there
unfoldable pub signature : ℕ → ℕ → ℕ
signature zero p = 1
signature (suc n) p = bit_or (signature n (p / 65536)) (2 ^ (p % 32))

-- the bits that no leaf beside n leaves may have: "at most four members"
unfoldable pub conflict_mask : ℕ → ℕ → ℕ
conflict_mask n s = cond (eqb n 4) (4294967295 - s) 0

-- what a packed cut of n leaves shuts out, above its signature, and below it
abbrev pub column_mask : ℕ → ℕ → ℕ
column_mask n p = conflict_mask n (signature 4 p) * 4294967296 + signature 4 p

abbrev pub merge_row_mask : ℕ → ℕ → ℕ
merge_row_mask n p = signature 4 p * 4294967296 + conflict_mask n (signature 4 p)

-- the masks of the cuts of v
abbrev pub Masked : List ℕ → ℕ → ℕ → List ℕ → Type 0
Masked w m v ms = (j : ℕ) → j < count_at w m v → get_or ms j 0 ≡ column_mask (length (leaves_at w m v j)) (pack (leaves_at w m v j))

-- what a leaf behind n others counts in a key
unfoldable pub unit_at : ℕ → ℕ
unit_at zero = 68719476736
unit_at (suc n) = unit_at n / 4096
