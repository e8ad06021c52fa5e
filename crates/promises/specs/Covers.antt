-- What a cover is, by document 01's sentences, as relations: a cut by membership, its function by a walk from the root down, a match by all 16 rows, an
-- arrival by what it is at least and what it is one of. No list is computed here: an element is known by its number in a list, or by being in it.
use Rattle.std.specs.Prelude.{◌+◌, ◌≤◌, ◌<◌, ◌≡◌, ◌⊎◌, ◌&&◌, ◌∷◌}
use Rattle.base.specs.{ℕ, suc, Bool, false, List, [], Memᴰ, length}
use Rattle.model.specs.{bit, flip, And, literal, var_of, negated, opposite, IsCut, IsInputSource, Distinct}
use Rattle.model.specs.Graph.{Graph}
use Rattle.model.specs.declared.Cell.{Cell}

-- x has number i in a list, "from 0"
pub data At {A : Type 0} : List A → ℕ → A → Type 0 where
  first : {x : A} {xs : List A} → At (x ∷ xs) 0 x
  later : {x y : A} {xs : List A} {i : ℕ} → At xs i x → At (y ∷ xs) (suc i) x

-- ---- cuts: which there are is `model.OrderDemands.IsCut`

-- "compared left to right": alike up to a number that is smaller
pub data Smaller : List ℕ → List ℕ → Type 0 where
  here : {x y : ℕ} {xs ys : List ℕ} → x < y → Smaller (x ∷ xs) (y ∷ ys)
  alike : {x : ℕ} {xs ys : List ℕ} → Smaller xs ys → Smaller (x ∷ xs) (x ∷ ys)

-- "Cuts are listed by size, then by ascending leaves compared left to right."
pub data Before (c d : List ℕ) : Type 0 where
  by_size : length c < length d → Before c d
  by_leaves : length c ≡ length d → Smaller c d → Before c d

-- "A cut's function": the value of a variable in a row. "leaf number i (ascending, from 0) is bit i of the row; from the root down, a leaf gives its bit and
-- the walk stops there; variable 0 gives 0; an AND gives the AND of its literals"
pub data Walk (g : Graph) (cut : List ℕ) (row : ℕ) : ℕ → Bool → Type 0 where
  at_leaf : {i v : ℕ} → At cut i v → Walk g cut row v (bit row i)
  at_constant : ¬ Memᴰ 0 cut → Walk g cut row 0 false
  at_and : {a : And} {x y : Bool} → Memᴰ a g.ands → ¬ Memᴰ a.var cut → Walk g cut row (var_of a.left) x → Walk g cut row (var_of a.right) y
      → Walk g cut row a.var (flip (negated a.left) x && flip (negated a.right) y)

-- ---- matching

-- "The 24 orders of places 0 to 3": four places, none twice
pub record IsOrder (places : List ℕ) : Type 0 where
  pub four : length places ≡ 4
  pub apart : Distinct places
  pub small : (p : ℕ) → Memᴰ p places → p < 4

-- a cell on a cut: its number among the cells, "an order and a phase mask"
pub record CellMatch : Type 0 where
  pub cut : List ℕ
  pub cell : ℕ
  pub order : List ℕ
  pub mask : ℕ

-- the row of a cell's table in row r of the cut, "where bit j of r is pin j": "pin j fed from its place, complemented where mask bit j is 1"
pub record PinsRow (c : Cell) (m : CellMatch) (r pins : ℕ) : Type 0 where
  pub pin : (j p : ℕ) → j < c.pins → At m.order j p → bit pins j ≡ flip (bit m.mask j) (bit r p)
  pub absent : (j : ℕ) → c.pins ≤ j → bit pins j ≡ false

-- in row r "the cut's function equals the cell's value"; "For the negative phase the cut's function is complemented."
pub record RowAgrees (g : Graph) (l : ℕ) (c : Cell) (m : CellMatch) (r : ℕ) : Type 0 where
  pub pins : ℕ
  pub is_pins : PinsRow c m r pins
  pub function : Bool
  pub is_function : Walk g m.cut r (var_of l) function
  pub agrees : flip (negated l) function ≡ bit c.table pins

-- phase l by a cell c "matched on a cut other than the variable alone"
pub record Matches (g : Graph) (l : ℕ) (c : Cell) (m : CellMatch) : Type 0 where
  pub is_cut : IsCut g (var_of l) m.cut
  pub nontrivial : ¬ (m.cut ≡ var_of l ∷ [])
  pub is_order : IsOrder m.order
  -- "(no bit at or above m)"
  pub no_high_bit : (j : ℕ) → c.pins ≤ j → bit m.mask j ≡ false
  -- "pin j's place is below the number of leaves for each j < m"
  pub in_leaves : (j p : ℕ) → j < c.pins → At m.order j p → p < length m.cut
  pub rows : (r : ℕ) → r < 16 → RowAgrees g l c m r

-- ---- covers

-- "one source: an input's own positive net; a cell matched on a cut ..; or a one-pin cell with table 0001", by its line
pub data Source : Type 0 where
  own_net : Source
  matched : CellMatch → Source
  inverter : ℕ → Source

-- what may be the source of phase l; "The inverter role stays with listed cells"
pub data Allowed (listed cells : List Cell) (g : Graph) (l : ℕ) : Source → Type 0 where
  own : IsInputSource g l → Allowed listed cells g l own_net
  by_cell : {m : CellMatch} {c : Cell} → At cells m.cell c → Matches g l c m → Allowed listed cells g l (matched m)
  by_inverter : {k : ℕ} {c : Cell} → At listed k c → c.pins ≡ 1 → c.table ≡ 1 → Allowed listed cells g l (inverter k)

-- phase l is fed by phase x, through a pin of delay d: "each pin needing its leaf in the mask's phase", and an inverter "fed by the opposite phase of that
-- variable"
pub data FedBy (cells : List Cell) (l : ℕ) : Source → ℕ → ℕ → Type 0 where
  by_pin : {m : CellMatch} {c : Cell} {j p v d : ℕ} → At cells m.cell c → j < c.pins → At m.order j p → At m.cut p v → At c.delays j d
      → FedBy cells l (matched m) (literal (bit m.mask j) v) d
  by_opposite : {k d : ℕ} {c : Cell} → At cells k c → At c.delays 0 d → FedBy cells l (inverter k) (opposite l) d

-- "A phase is needed if an output is that phase or the source of a needed phase is fed by it."
pub data Needed (cells : List Cell) (outs : List ℕ) (source : ℕ → Source) : ℕ → Type 0 where
  output : {l : ℕ} → Memᴰ l outs → Needed cells outs source l
  fed : {l x d : ℕ} → Needed cells outs source l → FedBy cells l (source l) x d → Needed cells outs source x

-- x feeds l, "directly or through others"
pub data Feeds (cells : List Cell) (source : ℕ → Source) (x : ℕ) : ℕ → Type 0 where
  directly : {l d : ℕ} → FedBy cells l (source l) x d → Feeds cells source x l
  through : {y l d : ℕ} → Feeds cells source x y → FedBy cells l (source l) y d → Feeds cells source x l

-- "A cover gives each needed phase of a variable one source"; "No circle: no phase feeds itself, directly or through others."
pub record Cover (listed cells : List Cell) (g : Graph) (outs : List ℕ) : Type 0 where
  pub source : ℕ → Source
  pub allowed : (l : ℕ) → Needed cells outs source l → Allowed listed cells g l (source l)
  pub no_cycle : (l : ℕ) → Needed cells outs source l → ¬ Feeds cells source l l

-- t is "0 for a cell without pins, otherwise the largest of feeding arrival plus pin delay"
pub record Latest (cells : List Cell) (at : ℕ → ℕ) (l : ℕ) (s : Source) (t : ℕ) : Type 0 where
  pub no_later : (x d : ℕ) → FedBy cells l s x d → at x + d ≤ t
  pub reached : (((x d : ℕ) → ¬ FedBy cells l s x d) × (t ≡ 0)) ⊎ ((x : ℕ) × (d : ℕ) × FedBy cells l s x d × (t ≡ at x + d))

-- the arrival of phase l from a source, where the phases that feed it arrive so: an input's own net has the input's arrival, and "every arrival starts from it"
pub data Arrives (cells : List Cell) (g : Graph) (at : ℕ → ℕ) (l : ℕ) : Source → ℕ → Type 0 where
  as_input : Arrives cells g at l own_net (g.input_arrival (var_of l))
  as_matched : {m : CellMatch} {t : ℕ} → Latest cells at l (matched m) t → Arrives cells g at l (matched m) t
  as_inverter : {k t : ℕ} → Latest cells at l (inverter k) t → Arrives cells g at l (inverter k) t

-- the arrivals of the phases that a cover needs
abbrev pub CoverArrivals : (listed cells : List Cell) (g : Graph) (outs : List ℕ) → Cover listed cells g outs → (ℕ → ℕ) → Type 0
CoverArrivals listed cells g outs c at = (l : ℕ) → Needed cells outs c.source l → Arrives cells g at l (c.source l) (at l)

-- ---- the choice

-- "then cut, cell line, order number, mask, lowest first": orders by their places "in lexicographic order"
pub data MatchPrecedes (m n : CellMatch) : Type 0 where
  by_cut : Before m.cut n.cut → MatchPrecedes m n
  by_line : m.cut ≡ n.cut → m.cell < n.cell → MatchPrecedes m n
  by_order : m.cut ≡ n.cut → m.cell ≡ n.cell → Smaller m.order n.order → MatchPrecedes m n
  by_mask : m.cut ≡ n.cut → m.cell ≡ n.cell → m.order ≡ n.order → m.mask < n.mask → MatchPrecedes m n

-- a source at an arrival comes before another: "earliest arrival; then a matched cell before the inverter; then cut .."; "Inverters: smallest delay, then first
-- line", all of them fed by one phase
pub data Precedes : Source → ℕ → Source → ℕ → Type 0 where
  earlier : {s r : Source} {t u : ℕ} → t < u → Precedes s t r u
  cell_first : {m : CellMatch} {k t : ℕ} → Precedes (matched m) t (inverter k) t
  by_match : {m n : CellMatch} {t : ℕ} → MatchPrecedes m n → Precedes (matched m) t (matched n) t
  by_listed : {j k t : ℕ} → j < k → Precedes (inverter j) t (inverter k) t
