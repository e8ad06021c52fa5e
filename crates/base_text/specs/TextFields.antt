-- What each reader finds at a place of a text, by the crate model's own judgement of a field.
use Rattle.std.specs.Prelude.{◌+◌, ◌&&◌, ◌∷◌}
use Rattle.base.specs.{ℕ, Bool, true, false, Option, None, Some, List, [], eqb, ltb, length, drop, get_or}
use Rattle.model.specs.{number, hex_table, is_name, Read, holds, fault, Passed, difference}
use Rattle.base_text.specs.declared.Cursor.{Cursor}

abbrev pub pick_bytes : Bool → List ℕ → List ℕ → List ℕ
pick_bytes true a b = a
pick_bytes false a b = b

abbrev pub pick_n : Bool → ℕ → ℕ → ℕ
pick_n true a b = a
pick_n false a b = b

-- the byte b stands at a place
abbrev pub is_byte : List ℕ → ℕ → ℕ → Bool
is_byte s at b = ltb at (length s) && eqb (get_or s at 0) b

-- a text begins with the byte b
abbrev pub head_is : List ℕ → ℕ → Bool
head_is [] b = false
head_is (x ∷ xs) b = eqb x b

-- how many bytes of a line's end a text begins with: 1 for byte 10, 2 for bytes 13 and 10, else none
unfoldable pub end_of : List ℕ → ℕ
end_of [] = 0
end_of (b ∷ bs) = pick_n (eqb b 10) 1 (pick_n (eqb b 13 && head_is bs 10) 2 0)

-- a line's end stands there
abbrev pub stops : List ℕ → Bool
stops l = ltb 0 (end_of l)

-- the field that a text begins with: its bytes before the first space or line's end
unfoldable pub word_of : List ℕ → List ℕ
word_of [] = []
word_of (b ∷ bs) = pick_bytes (eqb b 32) [] (pick_bytes (stops (b ∷ bs)) [] (b ∷ word_of bs))

-- the field at a place, and the place past it
unfoldable pub word_at : List ℕ → ℕ → List ℕ
unfolding word_of
word_at s at = word_of (drop at s)

unfoldable pub end_at : List ℕ → ℕ → ℕ
unfolding word_at
end_at s at = at + length (word_at s at)

abbrev pub number_of : Option ℕ → ℕ → Option (ℕ × Cursor)
number_of None p = None
number_of (Some n) p = Some (n, record { at = p })

abbrev pub step_of : Bool → ℕ → Option Cursor
step_of false p = None
step_of true p = Some (record { at = p })

unfoldable pub byte_at : List ℕ → ℕ → ℕ → Option Cursor
byte_at s at b = step_of (is_byte s at b) (at + 1)

-- a line's end at a place: the next line begins behind it
unfoldable pub line_end_at : List ℕ → ℕ → Option Cursor
line_end_at s at = step_of (stops (drop at s)) (at + end_of (drop at s))

unfoldable pub number_at : List ℕ → ℕ → Option (ℕ × Cursor)
unfolding end_at
number_at s at = number_of (number (word_at s at)) (end_at s at)

-- a number that was read up to a place, if its field ends there
abbrev pub pick_number : Bool → Option (ℕ × Cursor) → Option (ℕ × Cursor) → Option (ℕ × Cursor)
pick_number true a b = a
pick_number false a b = b

unfoldable pub closed_at : List ℕ → ℕ → ℕ → Option (ℕ × Cursor)
unfolding word_at
closed_at s at n = pick_number (eqb (length (word_at s at)) 0) (Some (n, record { at = at })) None

unfoldable pub table_at : List ℕ → ℕ → Option (ℕ × Cursor)
unfolding end_at
table_at s at = number_of (hex_table (word_at s at)) (end_at s at)

unfoldable pub name_at : List ℕ → ℕ → Option Cursor
unfolding end_at
name_at s at = step_of (is_name (word_at s at)) (end_at s at)

-- what is done with a number or a step that was found, or else e
abbrev pub on_number : {A : Type 0} → Option (ℕ × Cursor) → (ℕ → Cursor → A) → A → A
on_number (Some (n, c)) f e = f n c
on_number None f e = e

abbrev pub on_step : {A : Type 0} → Option Cursor → (Cursor → A) → A → A
on_step (Some c) f e = f c
on_step None f e = e

-- a number that was found, if the byte b stands behind it
unfoldable pub then_byte : List ℕ → Option (ℕ × Cursor) → ℕ → Option (ℕ × Cursor)
unfolding byte_at
then_byte s found b = on_number found (λ n c. on_step (byte_at s c.at b) (λ d. Some (n, d)) None) None

-- the same for a line's end
unfoldable pub then_end : List ℕ → Option (ℕ × Cursor) → Option (ℕ × Cursor)
unfolding line_end_at
then_end s found = on_number found (λ n c. on_step (line_end_at s c.at) (λ d. Some (n, d)) None) None

-- a field and the byte that must stand behind it
unfoldable pub number_then : List ℕ → ℕ → ℕ → Option (ℕ × Cursor)
unfolding number_at then_byte
number_then s at b = then_byte s (number_at s at) b

unfoldable pub table_then : List ℕ → ℕ → ℕ → Option (ℕ × Cursor)
unfolding table_at then_byte
table_then s at b = then_byte s (table_at s at) b

-- a number's field that ends its line
unfoldable pub number_end : List ℕ → ℕ → Option (ℕ × Cursor)
unfolding number_at then_end
number_end s at = then_end s (number_at s at)

-- a number that was passed, or a refusal of it
abbrev pub passed_of : Read Passed → Option (ℕ × Cursor)
passed_of (holds d) = Some (d.number, record { at = d.behind })
passed_of (fault n k) = None

-- the difference at a place
unfoldable pub difference_at : List ℕ → ℕ → Option (ℕ × Cursor)
unfolding difference
difference_at s at = passed_of (difference at (drop at s))
