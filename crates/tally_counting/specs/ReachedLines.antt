-- What a reader of lines answers: the place of the next line, or that of the line at fault.
use Rattle.std.specs.Prelude.{Result, Ok, Err}
use Rattle.base.specs.{ℕ, List, [], drop}
use Rattle.model.specs.{Line, lines_from, Read, holds, fault}

-- the lines from a place on
abbrev pub lines_of : List ℕ → ℕ → List Line
lines_of s at = lines_from at [] (drop at s)

-- what is read so far: the lines left, or 29 at a line's offset
abbrev pub read_in : List ℕ → Result ℕ ℕ → Read (List Line)
read_in s (Ok at) = holds (lines_of s at)
read_in s (Err at) = fault 29 at

-- either place
abbrev pub place_in : Result ℕ ℕ → ℕ
place_in (Ok at) = at
place_in (Err at) = at
