-- The minimum arrivals of the chosen phases, from the words and into them.
use Rattle.std.specs.Prelude.{◌+◌, ◌*◌, ◌/◌, ◌≤◌, ◌<◌, ◌≡◌, ◌∷◌}
use Rattle.base.specs.{ℕ, zero, suc, max, cond, List, [], leb, length, get_or, drop}
use Rattle.model.specs.{cell_at, match_nets}
use Rattle.model.specs.declared.Cell.{Cell}
use Rattle.model.specs.declared.Match.{Match}
use Rattle.model.specs.declared.Source.{Source}
use Rattle.model.specs.declared.Source.TheVariants.{Input, Cell as Matched, Inverter as Inverted, Nothing}
use Rattle.base_words.specs.{put_at, slot_at, input_arrival_at, min_arrival_addr, min_arrival_at, min_arrival_words, leaves_at, phase_at}
use Rattle.cover_choice.specs.{MatchesIn}

-- a time and a delay, as long as their sum is a number of the code's
abbrev pub after : ℕ → ℕ → ℕ
after t d = cond (leb (t + d) 4294967295) (t + d) t

-- "the largest of feeding arrival plus pin delay", of the minimum arrivals that the words have
unfoldable pub latest_min : List ℕ → ℕ → List ℕ → List ℕ → ℕ
latest_min w m [] ds = 0
latest_min w m (l ∷ ls) ds = max (after (min_arrival_at w m l) (get_or ds 0 0)) (latest_min w m ls (drop 1 ds))

-- of a match of v
unfoldable pub match_min : List Cell → List ℕ → ℕ → ℕ → Match → ℕ
unfolding latest_min match_nets cell_at
match_min cells w m v x = latest_min w m (match_nets cells (leaves_at w m v x.cut) x) (cell_at cells x.cell).mins

-- of a phase that no inverter drives
unfoldable pub own_min : List Cell → List ℕ → ℕ → ℕ → Source → ℕ
unfolding match_min
own_min cells w m l Input = input_arrival_at w m (l / 2)
own_min cells w m l Nothing = 0
own_min cells w m l (Matched x) = match_min cells w m (l / 2) x
own_min cells w m l (Inverted c) = 0

-- of a phase, by its own and the other phase's
unfoldable pub inverter_min : List Cell → ℕ → ℕ → Source → ℕ
unfolding cell_at
inverter_min cells own other Input = own
inverter_min cells own other Nothing = own
inverter_min cells own other (Matched x) = own
inverter_min cells own other (Inverted c) = after other (get_or (cell_at cells c).mins 0 0)

-- the two minimum arrivals of a variable's phases, negative where so asked
abbrev pub own_at : List Cell → List ℕ → ℕ → ℕ → ℕ
own_at cells w m l = own_min cells w m l (phase_at w m l).source

-- the words with a minimum arrival stored
abbrev pub put_min : List ℕ → ℕ → ℕ → ℕ → List ℕ
put_min w m l t = put_at w (min_arrival_addr m l) (min_arrival_words t)

-- the words once v is timed
unfoldable pub retimed_step : List Cell → List ℕ → ℕ → ℕ → List ℕ
unfolding own_min inverter_min
retimed_step cells w m v =
    put_min
    (put_min w m (2 * v) (inverter_min cells (own_at cells w m (2 * v)) (own_at cells w m (2 * v + 1)) (phase_at w m (2 * v)).source))
    m (2 * v + 1) (inverter_min cells (own_at cells w m (2 * v + 1)) (own_at cells w m (2 * v)) (phase_at w m (2 * v + 1)).source)

-- the words once the first n ordered variables are
unfoldable pub retimed_up : List Cell → List ℕ → ℕ → ℕ → List ℕ
unfolding retimed_step
retimed_up cells w m zero = w
retimed_up cells w m (suc n) = retimed_step cells (retimed_up cells w m n) m (slot_at (retimed_up cells w m n) m n)

-- ---- what is asked

-- an inverter is a cell to map with
abbrev pub InverterIn : List Cell → Source → Type 0
InverterIn cells Input = Unit {0}
InverterIn cells Nothing = Unit {0}
InverterIn cells (Matched x) = Unit {0}
InverterIn cells (Inverted c) = (c < length cells) × (c < 256)

-- every source of the words is of these cells and of the graph
pub record Retimable (cells : List Cell) (w : List ℕ) (m : ℕ) : Type 0 where
  pub matches : MatchesIn cells w m
  pub inverters : (l : ℕ) → l / 2 ≤ m → InverterIn cells (phase_at w m l).source

-- ---- the table of the lowest delays, four to a cell

-- the lowest delays of each cell, by number
pub record MinsOf (cells : List Cell) (mins : List ℕ) : Type 0 where
  pub listed : (c j : ℕ) → c < length cells → j < 4 → get_or mins (4 * c + j) 0 ≡ get_or (cell_at cells c).mins j 0
