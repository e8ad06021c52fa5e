-- Lines that are expected, and the first three of a netlist.
use Rattle.std.specs.Prelude.{◌+◌, ◌≤◌, ◌<◌, ◌≡◌, ◌∷◌, ◌++◌, Result, Ok, Err}
use Rattle.base.specs.{ℕ, zero, suc, cond, List, [], ltb, length, drop, get_or}
use Rattle.model.specs.{Line, lines_from, decimal, holds, fault, is_line, past_lines}
use Rattle.model.specs.Graph.{Graph}
use Rattle.model.specs.declared.Header.{Header}
use Rattle.base_words.specs.{HasCapacity, slot_at}
use Rattle.base_text.specs.{line_at}

-- the lines of a text from a place on
abbrev pub lines_at : List ℕ → ℕ → List Line
lines_at s at = lines_from at [] (drop at s)

-- the names of n numbers from i on, each behind a space
unfoldable pub names_from : (ℕ → List ℕ) → ℕ → ℕ → List ℕ
names_from name i zero = []
names_from name i (suc n) = (32 ∷ name i) ++ names_from name (suc i) n

-- the net of input i, as the words have it
unfoldable pub input_name : List ℕ → ℕ → ℕ → List ℕ
input_name w m i = 112 ∷ decimal (slot_at w m (i + 1))

-- the place behind the line w, if it stands at a place; else that place, and where no line begins the text's length
unfoldable pub expected_at : List ℕ → List ℕ → ℕ → Result ℕ ℕ
unfolding is_line line_at
expected_at s w at = cond (ltb at (length s)) (cond (is_line w (line_at s at)) (Ok (at + length w + 1)) (Err at)) (Err (length s))

-- a place goes on
abbrev pub goes_on : Result ℕ ℕ → (ℕ → Result ℕ ℕ) → Result ℕ ℕ
goes_on (Ok k) f = f k
goes_on (Err k) f = Err k

-- so of lines one behind the other: the place behind all of them, or that of the first that is another or missing
unfoldable pub expected_from : List ℕ → List (List ℕ) → ℕ → Result ℕ ℕ
unfolding expected_at
expected_from s [] at = Ok at
expected_from s (w ∷ ws) at = goes_on (expected_at s w at) (expected_from s ws)

-- the line w stands at a place: the lines behind it, which begin at place k, come next
pub record Stands (s w : List ℕ) (at k : ℕ) : Type 0 where
  pub is : expected_at s w at ≡ Ok k
  pub next : (ws : List (List ℕ)) → past_lines (length s) (w ∷ ws) (lines_at s at) ≡ past_lines (length s) ws (lines_at s k)
  pub within : at < length s

-- it is another or missing
pub record Missed (s w : List ℕ) (at k : ℕ) : Type 0 where
  pub is : expected_at s w at ≡ Err k
  pub refused : (ws : List (List ℕ)) → past_lines (length s) (w ∷ ws) (lines_at s at) ≡ fault 32 k

-- the line w is expected at a place: one of the two
abbrev pub Expected : List ℕ → List ℕ → ℕ → Result ℕ ℕ → Type 0
Expected s w at (Ok k) = Stands s w at k
Expected s w at (Err k) = Missed s w at k

-- the graph whose inputs and outputs are named: its inputs stand behind variable 0 in the topological order, and there are at most twelve
pub record Framing (w : List ℕ) (h : Header) (g : Graph) : Type 0 where
  pub capacity : HasCapacity w h.size
  pub inputs : length g.inputs ≡ h.inputs
  pub outputs : length g.outputs ≡ h.outputs
  pub few : h.inputs ≤ 12
  pub within : h.inputs ≤ h.size
  pub few_outputs : h.outputs ≤ 4096
  pub slots : (i : ℕ) → i < h.inputs → slot_at w h.size (i + 1) ≡ get_or g.inputs i 0

-- these lines come first: the lines behind them come next
pub record Begun (s : List ℕ) (ws : List (List ℕ)) (k : ℕ) : Type 0 where
  pub is : expected_from s ws 0 ≡ Ok k
  pub next : past_lines (length s) ws (lines_at s 0) ≡ holds (lines_at s k)

-- one of them is another or missing
pub record Unbegun (s : List ℕ) (ws : List (List ℕ)) (k : ℕ) : Type 0 where
  pub is : expected_from s ws 0 ≡ Err k
  pub refused : past_lines (length s) ws (lines_at s 0) ≡ fault 32 k

-- these lines are expected first: one of the two
abbrev pub Framed : List ℕ → List (List ℕ) → Result ℕ ℕ → Type 0
Framed s ws (Ok k) = Begun s ws k
Framed s ws (Err k) = Unbegun s ws k
