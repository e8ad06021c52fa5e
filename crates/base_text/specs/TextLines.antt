-- A line of a text, and its fields from a place on: what a reader that goes from field to field meets.
use Rattle.std.specs.Prelude.{◌+◌, ◌&&◌, ◌∷◌}
use Rattle.base.specs.{ℕ, zero, suc, Bool, true, false, Option, None, Some, List, [], ltb, length, take, drop}
use Rattle.model.specs.{same, and_then, Line, next_of}
use Rattle.base_text.specs.declared.Span.{Span}
use Rattle.base_text.specs.TextFields.{pick_bytes, pick_n, end_of, stops, word_at, end_at, is_byte, on_number, number_then, number_end}

abbrev pub pick_bool : Bool → Bool → Bool → Bool
pick_bool true a b = a
pick_bool false a b = b

-- the bytes before the first line's end, and how many bytes that end has, or none
unfoldable pub line_of : List ℕ → List ℕ
line_of [] = []
line_of (b ∷ bs) = pick_bytes (stops (b ∷ bs)) [] (b ∷ line_of bs)

unfoldable pub ending_of : List ℕ → ℕ
ending_of [] = 0
ending_of (b ∷ bs) = pick_n (stops (b ∷ bs)) (end_of (b ∷ bs)) (ending_of bs)

abbrev pub ended_of : List ℕ → Bool
ended_of l = ltb 0 (ending_of l)

-- the line that begins at a place, and the place where the next begins
unfoldable pub line_at : List ℕ → ℕ → Line
unfolding line_of ending_of
line_at s at = record { offset = at; bytes = line_of (drop at s); ending = ending_of (drop at s) }

unfoldable pub past_line : List ℕ → ℕ → ℕ
unfolding line_at
past_line s at = next_of (line_at s at)

-- where the contents of the line at a place stop, and where the next line begins
unfoldable pub span_at : List ℕ → ℕ → Span
unfolding line_of ending_of
span_at s at = record { stop = at + length (line_of (drop at s)); next = at + (length (line_of (drop at s)) + ending_of (drop at s)) }

-- a text's first line has its end, and its contents are these bytes
unfoldable pub first_is : List ℕ → Span → List ℕ → Bool
first_is s l bytes = ltb l.stop l.next && same (take l.stop s) bytes

-- the field at a place and k more, whatever bytes stand between them
unfoldable pub words_at : ℕ → List ℕ → ℕ → List (List ℕ)
words_at zero s at = word_at s at ∷ []
words_at (suc k) s at = word_at s at ∷ words_at k s (end_at s at + 1)

-- a space stands between them, and a line's end behind the last
unfoldable pub seps_at : ℕ → List ℕ → ℕ → Bool
seps_at zero s at = stops (drop (end_at s at) s)
seps_at (suc k) s at = is_byte s (end_at s at) 32 && seps_at k s (end_at s at + 1)

-- the place past them all
unfoldable pub after_at : ℕ → List ℕ → ℕ → ℕ
after_at zero s at = end_at s at + end_of (drop (end_at s at) s)
after_at (suc k) s at = after_at k s (end_at s at + 1)

-- the number at a place and k more, a space behind each but the last and a line's end behind that
unfoldable pub numbers_at : ℕ → List ℕ → ℕ → Option (List ℕ)
unfolding number_then number_end
numbers_at zero s at = on_number (number_end s at) (λ n c. Some (n ∷ [])) None
numbers_at (suc k) s at = on_number (number_then s at 32) (λ n c. and_then (numbers_at k s c.at) (λ ns. Some (n ∷ ns))) None
