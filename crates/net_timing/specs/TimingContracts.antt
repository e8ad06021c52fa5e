-- What the minimum arrivals are, for whatever cells the tables of pins and delays are of.
use Rattle.std.specs.Prelude.{◌≡◌, ◌≤◌}
use Rattle.base.specs.{List, ℕ}
use Rattle.model.specs.declared.Cell.{Cell}
use Rattle.model.specs.declared.Match.{Match}
use Rattle.base_words.specs.{phase_at}
use Rattle.cells_matching.specs.{Matchable}
use Rattle.cover_choice.specs.{PinsOf, SlotsIn, CutsIn, MatchIn, MatchesIn}
use Rattle.net_timing.specs.MinArrivalWords.{match_min, own_min, retimed_step, retimed_up, Retimable, MinsOf}

-- a match of some cells
abbrev pub MatchTimable : List ℕ → List ℕ → ℕ → ℕ → Match → Type 0
MatchTimable work pins m v x = ((cells : List Cell) × Matchable cells × MatchIn cells work m v x × PinsOf cells pins) × CutsIn work m × (v ≤ m)

-- its minimum arrival
abbrev pub MatchTimed : List ℕ → List ℕ → List ℕ → ℕ → ℕ → Match → ℕ → Type 0
MatchTimed work pins mins m v x r = (cells : List Cell) → Matchable cells → MatchIn cells work m v x → PinsOf cells pins → MinsOf cells mins → r ≡ match_min cells work m v x

-- the minimum arrival of a literal's own source
abbrev pub SourceTimed : List ℕ → List ℕ → List ℕ → ℕ → ℕ → ℕ → Type 0
SourceTimed work pins mins m l r = (cells : List Cell) → MatchesIn cells work m → PinsOf cells pins → MinsOf cells mins → r ≡ own_min cells work m l (phase_at work m l).source

-- the minimum arrivals of a variable stored
abbrev pub VariableTimed : List ℕ → List ℕ → List ℕ → ℕ → ℕ → List ℕ → Type 0
VariableTimed work pins mins m v work' = (cells : List Cell) → Retimable cells work m → PinsOf cells pins → MinsOf cells mins → work' ≡ retimed_step cells work m v

-- words and tables of some cells
abbrev pub VariablesTimable : List ℕ → List ℕ → List ℕ → ℕ → ℕ → Type 0
VariablesTimable work pins mins m n = ((cells : List Cell) × Retimable cells work m × PinsOf cells pins × MinsOf cells mins) × SlotsIn work m n

-- those of the first n variables in the order
abbrev pub VariablesTimed : List ℕ → List ℕ → List ℕ → ℕ → ℕ → List ℕ → Type 0
VariablesTimed work pins mins m n work' = (cells : List Cell) → Retimable cells work m → PinsOf cells pins → MinsOf cells mins → work' ≡ retimed_up cells work m n
