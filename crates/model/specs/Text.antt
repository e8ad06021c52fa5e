-- Bytes: a quoted text, numbers in decimal, lines, fields, hexadecimal tables and names.
use Prim.Native.Char.{code}
use Prim.Native.String.{String, [] as end, ◌∷◌ as ◌then◌}
use Rattle.std.specs.Prelude.{◌+◌, ◌-◌, ◌*◌, ◌/◌, ◌%◌, ◌&&◌, ◌||◌, ◌∷◌}
use Rattle.base.specs.{ℕ, zero, suc, Bool, true, false, cond, Option, None, Some, List, []}
use Rattle.base.specs.{reverse, eqb, ltb, leb, length}
use Rattle.model.specs.Base.{all, same, and_then, only}

-- the bytes of a quoted text
unfoldable pub text : String → List ℕ
text end = []
text (c then s) = code c ∷ text s

-- the digits of a number in front of bytes; each step takes one
unfoldable pub digits : ℕ → ℕ → List ℕ → List ℕ
digits zero n after = after
digits (suc fuel) n after =
    let more = digits fuel (n / 10) ((48 + n % 10) ∷ after) in
    cond (ltb n 10) ((48 + n) ∷ after) more

-- a number "in decimal without leading zeros"
unfoldable pub decimal : ℕ → List ℕ
unfolding digits
decimal n = digits (suc n) n []

-- a byte put in front of the first part
unfoldable pub onto : ℕ → List (List ℕ) → List (List ℕ)
onto b [] = (b ∷ []) ∷ []
onto b (w ∷ ws) = (b ∷ w) ∷ ws

-- a new part begins at the separator
unfoldable pub split : Bool → ℕ → List (List ℕ) → List (List ℕ)
unfolding onto
split true b ws = [] ∷ ws
split false b ws = onto b ws

-- the parts of a text between the bytes `sep`; a last part that is empty is left out
unfoldable pub parts : ℕ → List ℕ → List (List ℕ)
unfolding split
parts sep [] = []
parts sep (b ∷ bs) = split (eqb b sep) b (parts sep bs)

-- a line: its first byte's offset, its contents, and how many bytes end it: 0 where the text ends first, 1 for byte 10, 2 for bytes 13 and 10
pub record Line : Type 0 where
  pub offset : ℕ
  pub bytes : List ℕ
  pub ending : ℕ

-- the line has its end
abbrev pub ended : Line → Bool
ended l = ltb 0 l.ending

-- byte 10 alone ends the line
abbrev pub ended_by_ten : Line → Bool
ended_by_ten l = eqb l.ending 1

-- where the next line begins: behind the contents and the end
abbrev pub next_of : Line → ℕ
next_of l = l.offset + (length l.bytes + l.ending)

-- a line that byte 10 ends, the bytes before it the last first: a byte 13 right before it is part of the end
unfoldable pub closing : ℕ → List ℕ → Line
closing at [] = record { offset = at; bytes = []; ending = 1 }
closing at (h ∷ hs) = cond (eqb h 13) (record { offset = at; bytes = reverse hs; ending = 2 }) (record { offset = at; bytes = reverse (h ∷ hs); ending = 1 })

-- the lines of a text that begins at an offset; `held` are the line's bytes so far, the last first
unfoldable pub lines_from : ℕ → List ℕ → List ℕ → List Line
unfolding closing
lines_from at [] [] = []
lines_from at (h ∷ hs) [] = record { offset = at; bytes = reverse (h ∷ hs); ending = 0 } ∷ []
lines_from at held (b ∷ bs) = elim (eqb b 10) [
  | true ↦ closing at held ∷ lines_from (at + suc (length held)) [] bs
  | false ↦ lines_from at (b ∷ held) bs
]

-- what is seen of a line apart from its place and its kind of end: its contents, and whether it has its end
unfoldable pub shown : Line → List ℕ × Bool
shown l = (l.bytes, ended l)

-- "One space separates fields": one field more than there are spaces
unfoldable pub fields : List ℕ → List (List ℕ)
unfolding split
fields [] = [] ∷ []
fields (b ∷ bs) = split (eqb b 32) b (fields bs)

-- what the bytes would be as decimal digits
unfoldable pub as_digits : ℕ → List ℕ → ℕ
as_digits n [] = n
as_digits n (b ∷ bs) = as_digits (n * 10 + (b - 48)) bs

-- a number of 0 to 65,535 "in decimal without leading zeros": the bytes are those that it is written with
unfoldable pub number : List ℕ → Option ℕ
unfolding only as_digits decimal same
number w = let n = as_digits 0 w in only (leb n 65535 && same w (decimal n)) n

-- all fields as numbers
unfoldable pub numbers : List (List ℕ) → Option (List ℕ)
unfolding and_then number
numbers [] = Some []
numbers (w ∷ ws) = and_then (number w) (λ n. and_then (numbers ws) (λ ns. Some (n ∷ ns)))

-- a byte of a range
unfoldable pub between : ℕ → ℕ → ℕ → Bool
between low high b = leb low b && leb b high

-- the value of a "lower-case hexadecimal" digit
unfoldable pub hex_digit : ℕ → Option ℕ
unfolding between
hex_digit b = cond (between 48 57 b) (Some (b - 48)) (cond (between 97 102 b) (Some (b - 87)) None)

-- the digits behind a number that was read so far
unfoldable pub hex_from : ℕ → List ℕ → Option ℕ
unfolding and_then hex_digit
hex_from n [] = Some n
hex_from n (b ∷ bs) = and_then (hex_digit b) (λ d. hex_from (n * 16 + d) bs)

-- "The table is four lower-case hexadecimal digits"
unfoldable pub hex_table : List ℕ → Option ℕ
unfolding and_then only hex_from
hex_table w = and_then (only (eqb (length w) 4) w) (hex_from 0)

-- a letter
unfoldable pub is_letter : ℕ → Bool
unfolding between
is_letter b = between 65 90 b || between 97 122 b

-- "letters, digits or underscores"
unfoldable pub is_name_byte : ℕ → Bool
unfolding is_letter between
is_name_byte b = is_letter b || (between 48 57 b || eqb b 95)

-- "A name is 1 to 8 letters, digits or underscores, a letter first."
unfoldable pub is_name : List ℕ → Bool
unfolding is_letter is_name_byte all
is_name [] = false
is_name (b ∷ bs) = is_letter b && (all is_name_byte bs && leb (length bs) 7)
