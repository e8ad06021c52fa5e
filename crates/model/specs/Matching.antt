-- When a cell matches a cut, and the nets that then feed its pins.
use Rattle.std.specs.Prelude.{◌-◌, ◌/◌, ◌^◌, ◌&&◌, ◌∷◌}
use Rattle.base.specs.{ℕ, zero, suc, Bool, cond, beq, List, [], ltb, take, get_or}
use Rattle.model.specs.Base.{all, below, bit}
use Rattle.model.specs.Table.{value, orders, pin_row}
use Rattle.model.specs.Cells.{cell_at}
use Rattle.model.specs.Graph.{literal}
use Rattle.model.specs.declared.Cell.{Cell}
use Rattle.model.specs.declared.Match.{Match}

-- "For the negative phase the cut's function is complemented."
unfoldable pub phase_table : Bool → ℕ → ℕ
phase_table neg f = cond neg (65535 - f) f

-- "pin j's place is below the number of leaves for each j < m"
unfoldable pub places_fit : Cell → List ℕ → ℕ → Bool
unfolding all
places_fit c places leaves = all (λ (p : ℕ). ltb p leaves) (take c.pins places)

-- "in all 16 rows, the cut's function equals the cell's value with pin j fed from its place, complemented where mask bit j is 1"
unfoldable pub rows_agree : Cell → List ℕ → ℕ → ℕ → Bool
unfolding all below value pin_row
rows_agree c places mask f =
    all (λ (r : ℕ). beq (value f r) (value c.table (pin_row c.pins places mask r))) (below 16)

-- "A cell of m pins matches a cut under an order and a phase mask (no bit at or above m)": f is the cut's function in the phase
unfoldable pub fits : Cell → List ℕ → ℕ → ℕ → ℕ → Bool
unfolding places_fit rows_agree
fits c places mask leaves f =
    let rows = rows_agree c places mask f in
    ltb mask (2 ^ c.pins) && (places_fit c places leaves && rows)

-- the nets that feed the pins: "each pin needing its leaf in the mask's phase"
unfoldable pub fed_nets : ℕ → List ℕ → ℕ → List ℕ → List ℕ
unfolding bit literal
fed_nets zero places mask leaves = []
fed_nets (suc m) [] mask leaves = []
fed_nets (suc m) (place ∷ places) mask leaves = literal (bit mask 0) (get_or leaves place 0) ∷ fed_nets m places (mask / 2) leaves

-- the nets that feed a match on a cut
unfoldable pub match_nets : List Cell → List ℕ → Match → List ℕ
unfolding fed_nets cell_at orders
match_nets cells cut m = fed_nets (cell_at cells m.cell).pins (get_or orders m.order []) m.mask cut
