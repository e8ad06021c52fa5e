-- The gates of a netlist, counted by cell.
use Rattle.std.specs.Prelude.{◌+◌, ◌≤◌, ◌<◌, ◌≡◌}
use Rattle.base.specs.{ℕ, Option, None, Some, List, length, get_or, set, replicate}
use Rattle.model.specs.{cells_of, gate_in, gates_in, after_gates, area_of, times}
use Rattle.model.specs.declared.Library.{Library}
use Rattle.base_text.specs.{line_at, past_line}
use Rattle.tally_counting.specs.declared.Counts.{Counts}
use Rattle.tally_counting.specs.ReachedLines.{lines_of}

-- the cell of a gate line that was found, with the place of the next line
abbrev pub gate_or : Option ℕ → ℕ → Option (ℕ × ℕ)
gate_or None next = None
gate_or (Some k) next = Some (k, next)

-- the line at a place
unfoldable pub gate_at : Library → List ℕ → ℕ → Option (ℕ × ℕ)
unfolding gate_in cells_of
gate_at l s at = gate_or (gate_in (cells_of l) (line_at s at)) (past_line s at)

-- no gates yet
abbrev pub no_gates : ℕ → Counts
no_gates at = record { n = replicate 32 0; gates = 0; area = 0; at = at }

-- one gate more, of the cell at a place
abbrev pub with_gate : Counts → ℕ → ℕ → ℕ → Counts
with_gate c k area next = record { n = set c.n k (get_or c.n k 0 + 1); gates = c.gates + 1; area = c.area + area; at = next }

-- the gates from a place on are counted, and the lines behind them begin at `at`
pub record Counted (l : Library) (s : List ℕ) (from : ℕ) (c : Counts) : Type 0 where
  pub long : length c.n ≡ 32
  pub places : (i : ℕ) → i < 32 → get_or c.n i 0 ≡ times i (gates_in (cells_of l) (lines_of s from))
  pub gates : c.gates ≡ length (gates_in (cells_of l) (lines_of s from))
  pub area : c.area ≡ area_of (cells_of l) (gates_in (cells_of l) (lines_of s from))
  pub behind : after_gates (cells_of l) (lines_of s from) ≡ lines_of s c.at
  pub inside : c.at ≤ length s
  pub few : c.gates ≤ 65536
