-- A field and the byte behind it, at places that do not hang on what was found before. A reader of a line of fields is shown by these to be a function of
-- what stands in each field and behind it (the crate library's Forms).
use Rattle.base.specs.{ℕ, zero, suc, ◌+◌, ◌≡◌, refl, Bool, true, false, Option, None, Some, List, drop}
use Rattle.model.specs.{number, hex_table}
use Rattle.base_text.specs.{end_of, stops, word_at, end_at, is_byte, byte_at, line_end_at, number_of, number_at, table_at, then_byte, then_end}
use Rattle.base_text.specs.{number_then, number_end, table_then}

-- the place of the next field
abbrev pub past : List ℕ → ℕ → ℕ
past s q = end_at s q + 1

-- the place k fields on
abbrev pub nth : List ℕ → ℕ → ℕ → ℕ
nth s q zero = q
nth s q (suc k) = past s (nth s q k)

-- a value that counts only if the byte behind it is the right one
abbrev pub then_o : Option ℕ → Bool → Option ℕ
then_o None t = None
then_o (Some n) true = Some n
then_o (Some n) false = None

-- what a test finds in the field at q, with the byte b behind it
abbrev pub found : (List ℕ → Option ℕ) → List ℕ → ℕ → ℕ → Option ℕ
found j s q b = then_o (j (word_at s q)) (is_byte s (end_at s q) b)

-- the number in the field at q, where the line ends behind it, and the place of the next line
abbrev pub found_end : List ℕ → ℕ → Option ℕ
found_end s q = then_o (number (word_at s q)) (stops (drop (end_at s q) s))

abbrev pub past_end : List ℕ → ℕ → ℕ
past_end s q = end_at s q + end_of (drop (end_at s q) s)

-- whatever the test
then_is : (j : List ℕ → Option ℕ) (s : List ℕ) (q b : ℕ)
    → then_byte s (number_of (j (word_at s q)) (end_at s q)) b ≡ number_of (found j s q b) (past s q)
unfolding then_byte byte_at
then_is j s q b = go (j (word_at s q)) (is_byte s (end_at s q) b) refl
  where
    go : (o : Option ℕ) (t : Bool) → is_byte s (end_at s q) b ≡ t
        → then_byte s (number_of o (end_at s q)) b ≡ number_of (then_o o t) (past s q)
    go None t e = refl
    go (Some n) true e = rw e
    go (Some n) false e = rw e

pub number_is : (s : List ℕ) (q b : ℕ) → number_then s q b ≡ number_of (found number s q b) (past s q)
unfolding number_then number_at
number_is s q b = then_is number s q b

pub number-end-is : (s : List ℕ) (q : ℕ) → number_end s q ≡ number_of (found_end s q) (past_end s q)
unfolding number_end number_at then_end line_end_at
number-end-is s q = go (number (word_at s q)) (stops (drop (end_at s q) s)) refl
  where
    go : (o : Option ℕ) (t : Bool) → stops (drop (end_at s q) s) ≡ t
        → then_end s (number_of o (end_at s q)) ≡ number_of (then_o o t) (past_end s q)
    go None t e = refl
    go (Some n) true e = rw e
    go (Some n) false e = rw e

pub table_is : (s : List ℕ) (q b : ℕ) → table_then s q b ≡ number_of (found hex_table s q b) (past s q)
unfolding table_then table_at
table_is s q b = then_is hex_table s q b
