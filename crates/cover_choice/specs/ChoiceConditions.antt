-- What is asked of the words, so that every access lies among them and every record that is read is one.
use Rattle.std.specs.Prelude.{◌+◌, ◌/◌, ◌≤◌, ◌<◌, ◌≡◌}
use Rattle.base.specs.{ℕ, List, T, length, get_or}
use Rattle.model.specs.{cut_limit, cell_at}
use Rattle.model.specs.declared.Cell.{Cell}
use Rattle.model.specs.declared.Cut.{Cut}
use Rattle.model.specs.declared.Match.{Match}
use Rattle.model.specs.declared.Source.TheVariants.{Cell as Matched}
use Rattle.base_words.specs.{HasCapacity, HasCapacityFor, slot_at, count_at, input_arrival_at, output_at, leaves_of, leaves_at, phase_at}
use Rattle.base_truth.specs.{places_of, places_below}
use Rattle.cells_matching.specs.{Matchable}

-- each output is a literal of the graph
pub record OutputsIn (w : List ℕ) (m o : ℕ) : Type 0 where
  pub capacity : HasCapacityFor w m o
  pub within : (i : ℕ) → i < o → output_at w m i / 2 ≤ m

-- each of the n ordered variables is one of the graph
pub record SlotsIn (w : List ℕ) (m n : ℕ) : Type 0 where
  pub capacity : HasCapacity w m
  pub few : n ≤ m + 1
  pub within : (i : ℕ) → i < n → slot_at w m i ≤ m

-- a cut of the words, each leaf of it a variable of the graph
pub record LeavesIn (w : List ℕ) (m : ℕ) (c : Cut) : Type 0 where
  pub capacity : HasCapacity w m
  pub four : length c.leaves ≡ 4
  pub within : (j : ℕ) → j < length (leaves_of c) → get_or (leaves_of c) j 0 ≤ m

-- each list has few enough cuts, and each leaf is a variable of the graph
pub record CutsIn (w : List ℕ) (m : ℕ) : Type 0 where
  pub capacity : HasCapacity w m
  pub few : (v : ℕ) → v ≤ m → count_at w m v ≤ cut_limit
  pub within : (v k j : ℕ) → v ≤ m → k < count_at w m v → j < length (leaves_at w m v k) → get_or (leaves_at w m v k) j 0 ≤ m

-- each input arrives in time: "each 0 to 65,535"
pub record InputArrivalIn (w : List ℕ) (m : ℕ) : Type 0 where
  pub within : (v : ℕ) → v ≤ m → input_arrival_at w m v ≤ 65535

-- a match of v: one of its cuts, a cell to map with, an order, and a leaf for each pin
pub record MatchIn (cells : List Cell) (w : List ℕ) (m v : ℕ) (x : Match) : Type 0 where
  pub cut : x.cut < count_at w m v
  pub cell : x.cell < length cells
  pub order : x.order < 24
  pub places : T (places_below (cell_at cells x.cell).pins (places_of x.order) (length (leaves_at w m v x.cut)))

-- how many pins each cell has, by number
pub record PinsOf (cells : List Cell) (pins : List ℕ) : Type 0 where
  pub listed : (c : ℕ) → c < length cells → get_or pins c 0 ≡ (cell_at cells c).pins

-- each pin of a cell under an order has a leaf that is a variable of the graph
pub record PinsIn (leaves : List ℕ) (m order pins : ℕ) : Type 0 where
  pub known : order < 24
  pub four : pins ≤ 4
  pub within : (j : ℕ) → j < pins → get_or leaves (get_or (places_of order) j 0) 0 ≤ m

-- every matched cell of the words is such a match
pub record MatchesIn (cells : List Cell) (w : List ℕ) (m : ℕ) : Type 0 where
  pub in_bounds : Matchable cells
  pub cuts : CutsIn w m
  pub matches : (l : ℕ) → l / 2 ≤ m → (x : Match) → (phase_at w m l).source ≡ Matched x → MatchIn cells w m (l / 2) x
