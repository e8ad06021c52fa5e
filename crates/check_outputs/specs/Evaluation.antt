-- The words of variables and drivers in block b of the assignments, each from those before it.
use Rattle.std.specs.Prelude.{◌+◌, ◌-◌, ◌*◌, ◌/◌, ◌≤◌, ◌<◌, ◌≡◌, ◌∷◌}
use Rattle.base.specs.{ℕ, cond, Option, Some, None, List, [], eqb, leb, ltb, length, get_or}
use Rattle.base_words.specs.{HasCapacity, left_at, right_at, slot_at}
use Rattle.cut_functions.specs.{Earlier}
use Rattle.check_outputs.specs.Assignments.{input_word, gate_word, and_word}

-- ---- the graph

-- the AND v, by the words of the variables
unfoldable pub and_at : List ℕ → ℕ → (ℕ → ℕ) → ℕ → ℕ
and_at w m look v = and_word (left_at w m v) (look (left_at w m v / 2)) (right_at w m v) (look (right_at w m v / 2))

-- the variable in slot i of the topological order: "variable 0 and the inputs first", then the ANDs
unfoldable pub slot_word : List ℕ → ℕ → ℕ → ℕ → (ℕ → ℕ) → ℕ → ℕ
unfolding and_at
slot_word w m inputs b look i = cond (eqb i 0) 0 (cond (leb i inputs) (input_word (i - 1) b) (and_at w m look (slot_at w m i)))

-- the words hold a graph, n variables of it ordered, few of them inputs
pub record Slots (w : List ℕ) (m inputs n : ℕ) : Type 0 where
  pub capacity : HasCapacity w m
  pub within : n ≤ m + 1
  pub few : inputs ≤ 12
  pub slots : (i : ℕ) → i < n → slot_at w m i ≤ m
  pub lefts : (v : ℕ) → v ≤ m → left_at w m v ≤ 2 * m + 1
  pub rights : (v : ℕ) → v ≤ m → right_at w m v ≤ 2 * m + 1

-- each ordered variable has its word by those of variables ordered before it
pub record SlotsStep (w : List ℕ) (m inputs n b : ℕ) (words : ℕ → ℕ) : Type 0 where
  pub step : (i : ℕ) → i < n → words (slot_at w m i) ≡ slot_word w m inputs b words i
  pub left-earlier : (i : ℕ) → inputs < i → i < n → Earlier w m i (left_at w m (slot_at w m i) / 2)
  pub right-earlier : (i : ℕ) → inputs < i → i < n → Earlier w m i (right_at w m (slot_at w m i) / 2)

-- ---- the netlist

-- a driver's table, and how many pins it has
abbrev pub table_of : List ℕ → ℕ → ℕ
table_of nets i = get_or nets (8 * i + 1) 0

abbrev pub pins_of : List ℕ → ℕ → ℕ
pins_of nets i = get_or nets (8 * i + 2) 0

-- what a number at a pin stands for: an input or a driver
unfoldable pub ref_word : ℕ → (ℕ → ℕ) → ℕ → ℕ
ref_word b look r = cond (leb 12 r) (look (r - 12)) (input_word r b)

-- pin j of driver i, which has so many pins, by the words of the drivers; 0 at a pin that it lacks
unfoldable pub pin_word : List ℕ → ℕ → ℕ → (ℕ → ℕ) → ℕ → ℕ → ℕ
unfolding ref_word
pin_word refs count b look i j = cond (leb count j) 0 (ref_word b look (get_or refs (4 * i + j) 0))

unfoldable pub driver_word : List ℕ → List ℕ → ℕ → (ℕ → ℕ) → ℕ → ℕ
unfolding pin_word
driver_word nets refs b look i =
    let pin = pin_word refs (pins_of nets i) b look i in
    gate_word (table_of nets i) (pin 0 ∷ pin 1 ∷ pin 2 ∷ pin 3 ∷ [])

-- driver i stands in the array, and its pins are at inputs or at drivers of the array
pub record Readable (nets refs : List ℕ) (i : ℕ) : Type 0 where
  pub few : i < 10923
  pub capacity : 8 * i + 7 < length nets
  pub pins : (j : ℕ) → j < 4 → j < pins_of nets i → get_or refs (4 * i + j) 0 < 10935

-- each driver has its word by those of drivers that stand before it in the order
pub record DriversStep (nets refs order : List ℕ) (n b : ℕ) (words : ℕ → ℕ) : Type 0 where
  pub step : (p : ℕ) → p < n → words (get_or order p 0) ≡ driver_word nets refs b words (get_or order p 0)
  pub behind : (p j : ℕ) → p < n → j < pins_of nets (get_or order p 0) → 12 ≤ get_or refs (4 * get_or order p 0 + j) 0
      → (q : ℕ) × (q < p) × (12 + get_or order q 0 ≡ get_or refs (4 * get_or order p 0 + j) 0)

-- ---- the outputs

-- what a search that ends at `end` found
unfoldable pub found_by : ℕ → ℕ → Option ℕ
found_by r end = cond (ltb r end) (Some r) None
