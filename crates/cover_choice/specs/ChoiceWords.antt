-- The choice for both phases of every variable, from the words and into them: `model`'s definitions, with the phases, cuts and functions that the
-- words have.
use Rattle.std.specs.Prelude.{◌≡◌, ◌+◌, ◌*◌, ◌≤◌, ◌∷◌, ◌++◌}
use Rattle.base.specs.{ℕ, zero, suc, Bool, true, false, cond, List, [], map, ltb, length, get_or}
use Rattle.model.specs.{same, Node, constant, input, undefined, both, literal, phase_table, Phases, no_phase, choose, earlier, match_phase, cut_matches}
use Rattle.model.specs.{joined}
use Rattle.model.specs.declared.Cell.{Cell}
use Rattle.model.specs.declared.Phase.{Phase}
use Rattle.model.specs.declared.Source.TheVariants.{Input}
use Rattle.base_words.specs.{put_at, slot_at, count_at, input_arrival_at, positive_addr, negative_addr, node_at, leaves_at, function_of, phase_words, phases_at}
use Rattle.base_words.specs.{phase_at}
use Rattle.cells_matching.specs.{Inverter, MatchTable, inverter_of, infinite, time_of, phase_as}
use Rattle.cover_choice.specs.declared.CutMatch.{CutMatch}
use Rattle.cover_choice.specs.ChoiceConditions.{SlotsIn, CutsIn, InputArrivalIn}

-- ---- what the matches give

-- the arrival of leaf i in a phase, never if there is no such leaf
unfoldable pub leaf_time : List ℕ → ℕ → List ℕ → ℕ → Bool → ℕ
unfolding time_of
leaf_time w m cut i neg = cond (ltb i (length cut)) (time_of (phase_at w m (literal neg (get_or cut i 0)))) infinite

-- the arrivals of up to four leaves, and what an absent pin waits for
unfoldable pub times_at : List ℕ → ℕ → List ℕ → List ℕ
unfolding leaf_time
times_at w m cut =
    leaf_time w m cut 0 false ∷ leaf_time w m cut 0 true ∷ leaf_time w m cut 1 false ∷ leaf_time w m cut 1 true
    ∷ leaf_time w m cut 2 false ∷ leaf_time w m cut 2 true ∷ leaf_time w m cut 3 false ∷ leaf_time w m cut 3 true
    ∷ 0 ∷ 0 ∷ 0 ∷ 0 ∷ 0 ∷ 0 ∷ 0 ∷ 0 ∷ []

-- the phase that a best match gives
abbrev pub found_phase : CutMatch → Phase
found_phase found = phase_as found.cut found.best

-- the best of what a best match gives and of other phases
abbrev pub best_with : CutMatch → List Phase → Phase
best_with former ps = earlier (found_phase former) (choose ps)

-- what the matches on a cut give, f its function in the phase
unfoldable pub found_on : List Cell → List ℕ → ℕ → ℕ → List ℕ → ℕ → List Phase
unfolding match_phase cut_matches
found_on cells w m k cut f = map (match_phase cells (phases_at w m) cut) (cut_matches cells 0 k (length cut) f)

-- what those on cut number k of v give, unless it is "the variable alone"
unfoldable pub found_at : List Cell → List ℕ → ℕ → ℕ → Bool → ℕ → List Phase
unfolding found_on phase_table same
found_at cells w m v neg k = cond (same (leaves_at w m v k) (v ∷ [])) [] (found_on cells w m k (leaves_at w m v k) (phase_table neg (function_of w m v k)))

-- and those on the n cuts from number k on
unfoldable pub found_from : List Cell → List ℕ → ℕ → ℕ → Bool → ℕ → ℕ → List Phase
unfolding found_at
found_from cells w m v neg k zero = []
found_from cells w m v neg k (suc n) = found_at cells w m v neg k ++ found_from cells w m v neg (suc k) n

-- the best match of v
unfoldable pub best_at : List Cell → List ℕ → ℕ → ℕ → Bool → Phase
unfolding found_from choose
best_at cells w m v neg = choose (found_from cells w m v neg 0 (count_at w m v))

-- "an input's own positive net": it is there when the input arrives
unfoldable pub input_phase : List ℕ → ℕ → ℕ → Bool → Phase
unfolding no_phase
input_phase w m v neg = cond neg no_phase (record { source = Input; arrival = input_arrival_at w m v })

-- a phase without inverters, by what the variable is
unfoldable pub uninverted_of : List Cell → List ℕ → ℕ → ℕ → Bool → Node → Phase
unfolding best_at input_phase no_phase
uninverted_of cells w m v neg constant = best_at cells w m v neg
uninverted_of cells w m v neg input = input_phase w m v neg
uninverted_of cells w m v neg undefined = no_phase
uninverted_of cells w m v neg (both l r) = best_at cells w m v neg

unfoldable pub uninverted_at : List Cell → List ℕ → ℕ → ℕ → Bool → Phase
unfolding uninverted_of node_at
uninverted_at cells w m v neg = uninverted_of cells w m v neg (node_at w m v)

-- ---- the words

-- the words with both phases of a variable stored
unfoldable pub put_phases : List ℕ → ℕ → ℕ → Phases → List ℕ
unfolding phase_words
put_phases w m v p = put_at (put_at w (positive_addr m v) (phase_words p.positive)) (negative_addr m v) (phase_words p.negative)

-- the words once v is chosen: "then a matched cell before the inverter"
unfoldable pub chosen_step : List Cell → List ℕ → ℕ → ℕ → List ℕ
unfolding put_phases joined uninverted_at
chosen_step cells w m v = put_phases w m v (joined cells (uninverted_at cells w m v false) (uninverted_at cells w m v true))

-- the words once the first n ordered variables are chosen
unfoldable pub chosen_up : List Cell → List ℕ → ℕ → ℕ → List ℕ
unfolding chosen_step
chosen_up cells w m zero = w
chosen_up cells w m (suc n) = chosen_step cells (chosen_up cells w m n) m (slot_at (chosen_up cells w m n) m n)

-- ---- what is asked

-- no phase comes after t
pub record Early (w : List ℕ) (m t : ℕ) : Type 0 where
  pub early : (l : ℕ) → l ≤ 2 * m + 1 → (phase_at w m l).arrival ≤ t

-- the match table is of these cells, and so is the inverter
pub record ToolsIn (cells : List Cell) (matches : List ℕ) (inv : Inverter) : Type 0 where
  pub built : MatchTable cells matches
  pub inverter : inv ≡ inverter_of cells

-- the words before v is chosen: its cuts, and arrivals that leave room for two delays
pub record Choosable (w : List ℕ) (m : ℕ) : Type 0 where
  pub cuts : CutsIn w m
  pub input_arrival : InputArrivalIn w m
  pub early : Early w m 1073741823

-- the words before all are
pub record Unchosen (w : List ℕ) (m n : ℕ) : Type 0 where
  pub slots : SlotsIn w m n
  pub cuts : CutsIn w m
  pub input_arrival : InputArrivalIn w m
  pub early : Early w m 0
