-- The lines of an arrivals' text up to the first refusal, and the words with their arrivals.
use Rattle.std.specs.Prelude.{◌+◌, ◌≤◌, ◌<◌, ◌&&◌, ◌∷◌}
use Rattle.base.specs.{ℕ, cond, not, Option, None, Some, List, [], ltb, get_or}
use Rattle.model.specs.{elem, same, Line, ended, text, lines_from, InputArrival, input_arrival_numbers}
use Rattle.base_words.specs.{put_at, HasCapacity, slot_at, input_arrival_addr}

-- ---- the words

-- room for the variables, of which the inputs stand in the topological order behind variable 0
pub record Listable (w : List ℕ) (m inputs : ℕ) : Type 0 where
  pub capacity : HasCapacity w m
  pub few : inputs ≤ m
  pub within : (k : ℕ) → k < inputs → slot_at w m (k + 1) ≤ m

-- the words with the arrival of the input at an index
unfoldable pub put_input_arrival : List ℕ → ℕ → ℕ → ℕ → List ℕ
put_input_arrival w m index time = put_at w (input_arrival_addr m (slot_at w m (index + 1))) (time ∷ [])

-- and with those of several
unfoldable pub put_all : List ℕ → ℕ → List InputArrival → List ℕ
unfolding put_input_arrival
put_all w m [] = w
put_all w m (e ∷ es) = put_all (put_input_arrival w m e.index e.arrival) m es

-- ---- the lines

-- what is done with numbers, if there are any
abbrev pub on_numbers : Option (List ℕ) → (List ℕ → List InputArrival) → List InputArrival
on_numbers None f = []
on_numbers (Some ns) f = f ns

-- the lines up to the first that 25 or 26 refuses; `inputs` is I, `before` are the indexes listed so far
unfoldable pub passed : ℕ → List ℕ → List Line → List InputArrival
unfolding input_arrival_numbers elem
passed inputs before [] = []
passed inputs before (l ∷ ls) =
    on_numbers (input_arrival_numbers l) (λ ns.
    let more = record { index = get_or ns 0 0; arrival = get_or ns 1 0 } ∷ passed inputs (get_or ns 0 0 ∷ before) ls in
    cond (ltb (get_or ns 0 0) inputs && not (elem (get_or ns 0 0) before)) more [])

-- those of a text: none where its first line is refused
unfoldable pub listed_lines : ℕ → List Line → List InputArrival
unfolding same text passed
listed_lines inputs [] = []
listed_lines inputs (l ∷ ls) = let more = passed inputs [] ls in cond (ended l && same l.bytes (text "input arrival")) more []

unfoldable pub listed : ℕ → List ℕ → List InputArrival
unfolding listed_lines lines_from
listed inputs s = listed_lines inputs (lines_from 0 [] s)
