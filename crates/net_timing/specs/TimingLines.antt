-- The timing lines, as the lent words have them.
use Rattle.std.specs.Prelude.{◌∷◌, ◌++◌, ◌+◌}
use Rattle.base.specs.{List, [], ℕ, length}
use Rattle.model.specs.{from, each, text, decimal, out_name}
use Rattle.base_words.specs.{output_at, min_arrival_at, phase_at}

-- "as `# timing o0 30 35`: a low and a high arrival", each behind a space, and the end of the line
unfoldable pub line_text : ℕ → ℕ → ℕ → List ℕ
unfolding text out_name decimal
line_text k min_arrival high = text "# timing " ++ (out_name k ++ (32 ∷ decimal min_arrival ++ (32 ∷ decimal high ++ (10 ∷ []))))

-- its bytes, counted by its parts
abbrev pub line_length : ℕ → ℕ → ℕ → ℕ
line_length k min_arrival high = length (out_name k) + length (decimal min_arrival) + length (decimal high) + 12

-- the line of output k
abbrev pub line_of : List ℕ → ℕ → ℕ → List ℕ
line_of w m k = line_text k (min_arrival_at w m (output_at w m k)) (phase_at w m (output_at w m k)).arrival

-- the lines of n outputs from output i on
unfoldable pub lines_from : List ℕ → ℕ → ℕ → ℕ → List ℕ
unfolding each from line_text
lines_from w m i n = each (line_of w m) (from i n)
