-- What the readers of lines and groups find at places of the text.
use Rattle.std.specs.Prelude.{◌&&◌, ◌<◌, ◌∷◌}
use Rattle.base.specs.{ℕ, Bool, true, cond, Option, None, Some, List, [], map, length, drop}
use Rattle.model.specs.{all, and_then, Line, text, lines_from, is_pin, is_gate_line, is_pin_line, line_is, line_tokens, pin_line, has_line, delay_of}
use Rattle.model.specs.{grouped, groups, Group}
use Rattle.base_text.specs.{line_at}

-- the lines from a place on
abbrev pub lines_of : List ℕ → ℕ → List Line
lines_of s at = lines_from at [] (drop at s)

unfoldable pub gate_word : List ℕ
unfolding text
gate_word = text "GATE"

-- the tokens of the lines from a place up to the next GATE line
unfoldable pub lines_behind : List ℕ → ℕ → List (List (List ℕ))
unfolding grouped line_tokens
lines_behind s from = map line_tokens (grouped (lines_of s from)).0

-- a place that was found is in the text
abbrev pub Inside : List ℕ → Option ℕ → Type 0
Inside s (Some at) = at < length s
Inside s None = Unit {0}

-- the line that was found at a place
abbrev pub line_found : List ℕ → Option ℕ → Option (List (List ℕ))
line_found s (Some at) = Some (line_tokens (line_at s at))
line_found s None = None

-- a token that is a pin has its line
unfoldable pub pin_has : List (List (List ℕ)) → List ℕ → Bool
unfolding is_pin has_line
pin_has lines t = cond (is_pin t) (has_line lines t) true

-- the delay by a pin's name
unfoldable pub delay_for : List (List (List ℕ)) → List ℕ → Option ℕ
unfolding and_then pin_line delay_of
delay_for lines name = and_then (pin_line name lines) delay_of

-- the form of a group
unfoldable pub group_is : List ℕ → ℕ → List (List ℕ) → Bool
unfolding is_gate_line all line_is is_pin_line grouped pin_has lines_behind
group_is s from ts = is_gate_line ts && (all (line_is is_pin_line) (grouped (lines_of s from)).0 && all (pin_has (lines_behind s from)) (drop 5 ts))

-- the group at a place
unfoldable pub group_at : List ℕ → ℕ → Group
unfolding grouped
group_at s at = record { head = line_at s at; lines = (grouped (drop 1 (lines_of s at))).0 }

-- where the first of some groups begins; without any, the text's end
unfoldable pub start_of : ℕ → List Group → ℕ
start_of end [] = end
start_of end (g ∷ gs) = g.head.offset

-- where the group behind the one at a place begins
unfoldable pub behind_group : List ℕ → ℕ → ℕ
unfolding start_of groups
behind_group s at = start_of (length s) (drop 1 (groups (lines_of s at)))
