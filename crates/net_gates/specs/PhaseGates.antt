-- What drives a phase: its gates as the code holds them, and what in the list of cell records they are made of.
use Rattle.std.specs.Prelude.{◌+◌, ◌-◌, ◌*◌, ◌/◌, ◌%◌, ◌≤◌, ◌<◌, ◌≡◌, ◌∷◌}
use Rattle.base.specs.{ℕ, cond, List, [], map, eqb, ltb, length, get_or, take}
use Rattle.model.specs.{pair_pins, Net, of_phase, of_pair, Gate, one_gate, two_gates}
use Rattle.model.specs.declared.Cell.{Cell}
use Rattle.base_truth.specs.{pin_net}
use Rattle.cells_pairs.specs.{count_in, line_cell, id_place, id_in}
use Rattle.net_gates.specs.declared.Instance.{Instance}
use Rattle.net_gates.specs.declared.Driver.{Driver}
use Rattle.net_gates.specs.declared.Driver.TheVariants.{Nothing, One, Pair}

-- ---- nets

-- the number of a phase's net, and of the net inside the pair that drives the phase
abbrev pub phase_net : ℕ → ℕ
phase_net l = 2 * l

abbrev pub inside_net : ℕ → ℕ
inside_net l = 2 * l + 1

-- the net of a number
unfoldable pub net_of : ℕ → Net
net_of n = cond (eqb (n % 2) 1) (of_pair (n / 2)) (of_phase (n / 2))

-- the phases that feed four pins
abbrev pub four_nets : List ℕ → ℕ → List ℕ → List ℕ
four_nets places mask leaves = pin_net places mask leaves 0 ∷ pin_net places mask leaves 1 ∷ pin_net places mask leaves 2 ∷ pin_net places mask leaves 3 ∷ []

-- four nets from the fed pin's place on
abbrev pub inner_four : {A : Type 0} → (ℕ → A) → ℕ → List A
inner_four at pin = at pin ∷ at (pin + 1) ∷ at (pin + 2) ∷ at (pin + 3) ∷ []

abbrev pub inner_nets : List ℕ → ℕ → List ℕ
inner_nets nets = inner_four (λ (j : ℕ). get_or nets j 0)

-- the net of the root's pin j: the fed pin has the one inside, and behind it are those that the inner's n pins leave
unfoldable pub root_pick : {A : Type 0} → (ℕ → A) → A → ℕ → ℕ → ℕ → A
root_pick at inside pin n j = cond (ltb j pin) (at j) (cond (ltb pin j) (at (j + n - 1)) inside)

abbrev pub root_net : List ℕ → ℕ → ℕ → ℕ → ℕ → ℕ
root_net nets = root_pick (λ (j : ℕ). get_or nets j 0)

abbrev pub root_four : {A : Type 0} → (ℕ → A) → A → ℕ → ℕ → List A
root_four at inside pin n = root_pick at inside pin n 0 ∷ root_pick at inside pin n 1 ∷ root_pick at inside pin n 2 ∷ root_pick at inside pin n 3 ∷ []

abbrev pub root_nets : List ℕ → ℕ → ℕ → ℕ → List ℕ
root_nets nets = root_four (λ (j : ℕ). get_or nets j 0)

-- ---- gates

-- the gate that an instance is
unfoldable pub gate_of : Instance → Gate
unfolding net_of
gate_of i = record { cell = i.cell; pins = map net_of (take i.count i.nets); net = net_of i.net }

-- the gates that a driver is
unfoldable pub gates_of : Driver → List Gate
unfolding gate_of
gates_of Nothing = []
gates_of (One g) = gate_of g ∷ []
gates_of (Pair inner root) = gate_of inner ∷ gate_of root ∷ []

abbrev pub FewPins : Driver → Type 0
FewPins Nothing = Unit {0}
FewPins (One g) = g.count ≤ 4
FewPins (Pair inner root) = (inner.count ≤ 4) × (root.count ≤ 4)

-- no gate drives
abbrev pub no_driver : Driver
no_driver = Nothing

-- a driver is these gates; of no gate there is one alone
pub record Drives (d : Driver) (ts : List Gate) : Type 0 where
  pub is_gate : gates_of d ≡ ts
  pub few : FewPins d
  pub none : ts ≡ [] → d ≡ no_driver

-- a listed cell that drives phase l; a pair that does
abbrev pub one_driver : Cell → List ℕ → ℕ → ℕ → Driver
one_driver cell nets count l = One (record { cell = cell; nets = nets; count = count; net = phase_net l })

abbrev pub two_driver : Cell → ℕ → Cell → List ℕ → ℕ → Driver
two_driver root pin inner nets l =
    Pair (record { cell = inner; nets = inner_nets nets pin; count = inner.pins; net = inside_net l })
    (record { cell = root; nets = root_nets nets (inside_net l) pin inner.pins; count = root.pins; net = phase_net l })

-- ---- by the list of cell records

-- the cells of a pair's number
abbrev pub root_in : List ℕ → ℕ → Cell
root_in records id = line_cell records (id / 128)

abbrev pub inner_in : List ℕ → ℕ → Cell
inner_in records id = line_cell records (id % 32)

abbrev pub pair_driver : List ℕ → ℕ → List ℕ → ℕ → Driver
pair_driver records id nets l = two_driver (root_in records id) (id / 32 % 4) (inner_in records id) nets l

-- the driver by the cell of a number, its pins and its gates, as `gates_by` has them
unfoldable pub driver_by : List ℕ → ℕ → List ℕ → ℕ → Driver
driver_by records k nets l = cond (ltb k (count_in records)) (one_driver (line_cell records k) nets (line_cell records k).pins l) (pair_driver records (id_in records k) nets l)

unfoldable pub pins_by : List ℕ → ℕ → ℕ
unfolding pair_pins
pins_by records k = cond (ltb k (count_in records)) (line_cell records k).pins (pair_pins (root_in records (id_in records k)) (inner_in records (id_in records k)))

unfoldable pub gates_under : List ℕ → ℕ → List ℕ → ℕ → List Gate
unfolding one_gate two_gates
gates_under records k fed l =
    cond (ltb k (count_in records)) (one_gate (line_cell records k) fed l)
    (two_gates (root_in records (id_in records k)) (id_in records k / 32 % 4) (inner_in records (id_in records k)) fed l)

-- a line of the list of cell records can be read, and its cell has at most four pins
pub record LineReady (records : List ℕ) (k : ℕ) : Type 0 where
  pub within : 13 + 12 * k ≤ length records
  pub pins : (line_cell records k).pins ≤ 4

-- the lines of a pair's cells, which join at the fed pin
pub record PairReady (records : List ℕ) (id : ℕ) : Type 0 where
  pub root : LineReady records (id / 128)
  pub inner : LineReady records (id % 32)
  pub pin : id / 32 % 4 < (root_in records id).pins
  pub some : 1 ≤ (inner_in records id).pins
  pub few : (root_in records id).pins + (inner_in records id).pins ≤ 5

-- what stands under a number can be read
pub record NumberReady (records : List ℕ) (k : ℕ) : Type 0 where
  pub some : 1 ≤ length records
  pub listed : k < count_in records → LineReady records k
  pub place : count_in records ≤ k → id_place records k + 2 ≤ length records
  pub pair : count_in records ≤ k → PairReady records (id_in records k)
