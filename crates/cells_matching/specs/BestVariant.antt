-- The best match of a cut, over the arrivals of its leaves.
use Rattle.std.specs.Prelude.{◌+◌, ◌*◌, ◌/◌, ◌%◌, ◌≤◌, ◌<◌, ◌≡◌, ◌∷◌}
use Rattle.base.specs.{ℕ, zero, suc, max, Bool, cond, List, [], ltb, length, get_or}
use Rattle.model.specs.{bit, cell_at, literal, Phases, phase_of, absent, no_phase}
use Rattle.model.specs.declared.Cell.{Cell}
use Rattle.model.specs.declared.Phase.{Phase}
use Rattle.model.specs.declared.Source.TheVariants.{Cell as Matched}
use Rattle.base_truth.specs.{places_of}
use Rattle.cells_matching.specs.declared.Best.{Best}
use Rattle.cells_matching.specs.VariantLists.{line_of, order_of, mask_of, match_of, variants}
use Rattle.cells_matching.specs.MatchTableLayout.{pick_addr, delay_addr}

-- the arrival of a phase that has no source: no arrival comes to it, and a pin's delay may be added to it
abbrev pub infinite : ℕ
infinite = 2147483647

-- the latest arrival that leaves room for a pin's delay before that
abbrev pub last_time : ℕ
last_time = 2147352575

-- the arrival of a phase, where it has a source
unfoldable pub time_of : Phase → ℕ
unfolding absent
time_of p = cond (absent p.source) infinite p.arrival

-- no arrival is past never, and an absent pin waits for nothing
pub record ArrivalsBounded (times : List ℕ) : Type 0 where
  pub bounded : (i : ℕ) → get_or times i 0 ≤ infinite
  pub still : get_or times 8 0 ≡ 0

-- the arrivals of a cut's leaves: leaf i positive at 2 i, negative at 2 i + 1, never for a leaf that the cut has not
pub record TimesOf (known : ℕ → Phases) (cut times : List ℕ) : Type 0 where
  pub there : (i : ℕ) (neg : Bool) → i < length cut → get_or times (literal neg i) 0 ≡ time_of (phase_of known (literal neg (get_or cut i 0)))
  pub past : (i : ℕ) (neg : Bool) → length cut ≤ i → i < 4 → get_or times (literal neg i) 0 ≡ infinite

-- the arrivals of the leaves leave room for a pin's delay
unfoldable pub Quick : (ℕ → Phases) → List ℕ → Type 0
unfolding phase_of literal
Quick known cut = (i : ℕ) (neg : Bool) → i < length cut → (phase_of known (literal neg (get_or cut i 0))).arrival ≤ last_time

-- ---- the arrival of a variant

-- "feeding arrival plus pin delay" at pin j, under an order and a mask
unfoldable pub pin_at : List ℕ → List ℕ → ℕ → List ℕ → ℕ → ℕ
unfolding bit literal
pin_at delays places mask times j = get_or times (literal (bit mask j) (get_or places j 0)) 0 + get_or delays j 0

-- "the largest" of m from the j-th on
unfoldable pub largest : (ℕ → ℕ) → ℕ → ℕ → ℕ
largest p j zero = 0
largest p j (suc m) = max (p j) (largest p (suc j) m)

-- "Arrival": "0 for a cell without pins, otherwise the largest of feeding arrival plus pin delay"
unfoldable pub arrival_of : ℕ → List ℕ → List ℕ → ℕ → List ℕ → ℕ
unfolding largest pin_at
arrival_of pins delays places mask times = largest (pin_at delays places mask times) 0 pins

-- the arrival of variant x
unfoldable pub arrival_at : List Cell → List ℕ → ℕ → ℕ
unfolding arrival_of cell_at
arrival_at cells times x = arrival_of (cell_at cells (line_of x)).pins (cell_at cells (line_of x)).delays (places_of (order_of x)) (mask_of x) times

-- the same, from the match table: what one pin waits for, and the largest of four
abbrev pub waits : List ℕ → List ℕ → ℕ → ℕ → ℕ
waits s times select at = get_or times select 0 + get_or s at 0

unfoldable pub tabled_arrival_at : List ℕ → List ℕ → ℕ → ℕ
tabled_arrival_at s times x =
    let p = get_or s (pick_addr x) 0 in
    max (max (waits s times (p % 16) (delay_addr (line_of x) 0)) (waits s times (p / 16 % 16) (delay_addr (line_of x) 1)))
    (max (waits s times (p / 256 % 16) (delay_addr (line_of x) 2)) (waits s times (p / 4096 % 16) (delay_addr (line_of x) 3)))

-- what a try of variant x asks: its words are there, they say where its cell's delays stand, and such a delay may be added to an arrival
pub record VariantInBounds (s : List ℕ) (x : ℕ) : Type 0 where
  pub within : x < 98304
  pub there : pick_addr x < length s
  pub led : get_or s (pick_addr x) 0 / 65536 ≡ 4 * line_of x
  pub brief : (j : ℕ) → j < 4 → get_or s (delay_addr (line_of x) j) 0 < 131072

-- ---- the best of several

-- no match that is earlier than a bound, yet
abbrev pub unmatched_under : ℕ → Best
unmatched_under bound = record { variant = 0; arrival = bound }

-- no match yet
abbrev pub unmatched : Best
unmatched = unmatched_under infinite

-- "earliest arrival": a variant takes the place of the best before it only if it is strictly earlier
unfoldable pub better : Best → ℕ → ℕ → Best
better b x a = cond (ltb a b.arrival) (record { variant = x; arrival = a }) b

unfoldable pub best_from : List Cell → List ℕ → Best → List ℕ → Best
unfolding better arrival_at
best_from cells times b [] = b
best_from cells times b (x ∷ xs) = best_from cells times (better b x (arrival_at cells times x)) xs

-- the best match of a cut that is earlier than a bound, f its function in the phase
unfoldable pub best_under : List Cell → ℕ → List ℕ → ℕ → Best
unfolding best_from variants
best_under cells f times bound = best_from cells times (unmatched_under bound) (variants cells f)

-- the best match of a cut
unfoldable pub best_of : List Cell → ℕ → List ℕ → Best
unfolding best_under
best_of cells f times = best_under cells f times infinite

-- the phase that the best match on cut number k gives
unfoldable pub phase_as : ℕ → Best → Phase
unfolding no_phase match_of
phase_as k b = cond (ltb b.arrival infinite) (record { source = Matched (match_of k b.variant); arrival = b.arrival }) no_phase
