-- The fields of a line from a place on.
use Rattle.std.specs.Prelude.{◌+◌, ◌∷◌}
use Rattle.base.specs.{ℕ, Bool, true, false, cond, List, [], eqb, leb, length, drop}
use Rattle.model.specs.{fields}

abbrev pub pick_bytes : Bool → List ℕ → List ℕ → List ℕ
pick_bytes true a b = a
pick_bytes false a b = b

-- the bytes before the first space
unfoldable pub until_space : List ℕ → List ℕ
until_space [] = []
until_space (b ∷ bs) = pick_bytes (eqb b 32) [] (b ∷ until_space bs)

-- where the field at a place ends
unfoldable pub space_from : List ℕ → ℕ → ℕ
space_from l at = at + length (until_space (drop at l))

-- the fields from a place on; none where the place is behind the line's end
unfoldable pub fields_from : List ℕ → ℕ → List (List ℕ)
unfolding fields
fields_from l at = cond (leb at (length l)) (fields (drop at l)) []
