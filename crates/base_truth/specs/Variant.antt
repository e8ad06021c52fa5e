-- The table of a cell under an order and a mask, the table of a leaf, whether the pins' places are there, and the net of a pin.
use Rattle.std.specs.Prelude.{◌^◌}
use Rattle.base.specs.{ℕ, Bool, cond, List, [], bit_xor, ltb, take, get_or}
use Rattle.model.specs.{all, bit, literal, value, orders, pin_row, tabulate}

-- the places of an order
abbrev pub places_of : ℕ → List ℕ
places_of order = get_or orders order []

-- "the cell's value with pin j fed from its place, complemented where mask bit j is 1", in all 16 rows
unfoldable pub variant_table : ℕ → ℕ → List ℕ → ℕ → ℕ
variant_table pins table places mask = tabulate (λ r. value table (pin_row pins places mask r)) 16

-- a table with leaf k complemented
unfoldable pub crossed : ℕ → ℕ → ℕ
crossed t k = tabulate (λ r. value t (bit_xor r (2 ^ k))) 16

-- the same of the leaf at pin j, where bit j of a mask is 1
unfoldable pub crossed_at : List ℕ → ℕ → ℕ → ℕ → ℕ
unfolding crossed bit
crossed_at places mask j t = cond (bit mask j) (crossed t (get_or places j 0)) t

-- the same of each of four pins
unfoldable pub permuted : List ℕ → ℕ → ℕ → ℕ
unfolding crossed_at
permuted places mask t = crossed_at places mask 3 (crossed_at places mask 2 (crossed_at places mask 1 (crossed_at places mask 0 t)))

-- "leaf number i (ascending, from 0) is bit i of the row", in all 16 rows
unfoldable pub leaf_table : ℕ → ℕ
leaf_table i = tabulate (λ r. bit r i) 16

-- "pin j's place is below the number of leaves for each j < m"
unfoldable pub places_below : ℕ → List ℕ → ℕ → Bool
unfolding all
places_below pins places leaves = all (λ (p : ℕ). ltb p leaves) (take pins places)

-- the net that feeds pin j of a match on a cut: "each pin needing its leaf in the mask's phase"
abbrev pub pin_net : List ℕ → ℕ → List ℕ → ℕ → ℕ
pin_net places mask leaves j = literal (bit mask j) (get_or leaves (get_or places j 0) 0)
