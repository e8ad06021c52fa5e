-- The fields of a line from a place on, and steps over them: a step leads past a field that passes its test, to the place of the next. Behind the last field
-- that is one past the line's length, and two past it once a field failed, or was missing.
use Rattle.std.specs.Prelude.{◌+◌, ◌&&◌, ◌∷◌}
use Rattle.base.specs.{ℕ, Bool, true, false, List, [], leb, length, drop, get_or}
use Rattle.model.specs.{fields}

abbrev pub pick_n : Bool → ℕ → ℕ → ℕ
pick_n true a b = a
pick_n false a b = b

abbrev pub pick_words : Bool → List (List ℕ) → List (List ℕ) → List (List ℕ)
pick_words true a b = a
pick_words false a b = b

-- the fields from a place on; behind the last there are none
unfoldable pub fields_at : List ℕ → ℕ → List (List ℕ)
unfolding fields
fields_at w at = pick_words (leb at (length w)) (fields (drop at w)) []

-- the field at a place, and the place past it
unfoldable pub field_at : List ℕ → ℕ → List ℕ
unfolding fields
field_at w at = get_or (fields (drop at w)) 0 []

unfoldable pub field_end : List ℕ → ℕ → ℕ
unfolding field_at
field_end w at = at + length (field_at w at)

-- one step, and several
unfoldable pub step_at : (List ℕ → Bool) → List ℕ → ℕ → ℕ
unfolding field_at field_end
step_at p w at = pick_n (leb at (length w) && p (field_at w at)) (field_end w at + 1) (length w + 2)

unfoldable pub steps_at : List (List ℕ → Bool) → List ℕ → ℕ → ℕ
unfolding step_at
steps_at [] w at = at
steps_at (p ∷ ps) w at = steps_at ps w (step_at p w at)
