-- The lines of either form of a graph's text, from a place on.
use Rattle.base.specs.{◌≡◌, ap, ◌∙◌, true, false, ◌&&◌, Option, None, Some, List, [], ◌∷◌, ℕ, suc, eqb, length, drop}
use Rattle.model.specs.{and_then, only, Line, ended, lines_from, fields, numbers, closed, Kind, an_output, how_many, item_literals}
use Rattle.base_text.specs.{on_number, number_then, line_at, numbers_at}
use Rattle.base_text.proofs.{line-words, numbers-at, ten-number}

abbrev pub lines_of : List ℕ → ℕ → List Line
lines_of s at = lines_from at [] (drop at s)

-- the literals of an expected line of the ASCII form are its numbers, read one after the other
pub item-numbers : (k : Kind) (s : List ℕ) (at n : ℕ) → how_many k ≡ suc n → item_literals (closed false) k (line_at s at) ≡ numbers_at n s at
unfolding item_literals
item-numbers k s at n e =
    let ws = fields (line_at s at).bytes in
    ap (λ (x : ℕ). and_then (only (ended (line_at s at) && eqb (length ws) x) ws) numbers) e
    ∙ ap (λ (o : Option (List (List ℕ))). and_then o numbers) (line-words n s at)
    ∙ numbers-at n s at

-- the literal of an output line of the binary form is the number with byte 10 behind it
pub output-number : (s : List ℕ) (at : ℕ) → item_literals (closed true) an_output (line_at s at) ≡ on_number (number_then s at 10) (λ n c. Some (n ∷ [])) None
unfolding item_literals how_many
output-number s at = ten-number s at
