-- What a cover is. Not computed: the choice of `Choice` is held against every cover.
use Rattle.std.specs.Prelude.{◌<◌, ◌≡◌, ◌∷◌}
use Rattle.base.specs.{ℕ, not, List, [], map, Memᴰ, T, length, get_or}
use Rattle.model.specs.Table.{orders}
use Rattle.model.specs.Cells.{cell_at, is_inverter}
use Rattle.model.specs.Graph.{Graph, var_of, negated}
use Rattle.model.specs.Cuts.{cuts_of, cut_at, cut_table}
use Rattle.model.specs.Matching.{phase_table, fits}
use Rattle.model.specs.Choice.{feeds, cell_of, latest}
use Rattle.model.specs.declared.Cell.{Cell}
use Rattle.model.specs.declared.Match.{Match}
use Rattle.model.specs.declared.Source.{Source}
use Rattle.model.specs.declared.Source.TheVariants.{Input, Cell as Matched, Inverter as Inverted, Nothing}

-- "a cell matched on a cut other than the variable alone"
pub record IsMatch (cells : List Cell) (g : Graph) (l : ℕ) (m : Match) : Type 0 where
  pub has_cut : m.cut < length (cuts_of g (var_of l))
  pub nontrivial : ¬ (cut_at (cuts_of g) (var_of l) m.cut ≡ var_of l ∷ [])
  pub has_cell : m.cell < length cells
  pub has_order : m.order < 24
  pub agrees : T (fits (cell_at cells m.cell) (get_or orders m.order []) m.mask (length (cut_at (cuts_of g) (var_of l) m.cut))
      (phase_table (negated l) (cut_table g (cut_at (cuts_of g) (var_of l) m.cut) (var_of l))))

-- "an input's own positive net"
pub record IsInputSource (g : Graph) (l : ℕ) : Type 0 where
  pub positive : T (not (negated l))
  pub is_input : Memᴰ (var_of l) g.inputs

-- "a one-pin cell with table 0001 fed by the opposite phase of that variable"
pub record IsInverting (cells : List Cell) (line : ℕ) : Type 0 where
  pub has_cell : line < length cells
  pub inverts : T (is_inverter (cell_at cells line))

-- what may be the source of phase l
abbrev pub Allowed : List Cell → Graph → ℕ → Source → Type 0
Allowed cells g l Input = IsInputSource g l
Allowed cells g l Nothing = ⊥
Allowed cells g l (Matched m) = IsMatch cells g l m
Allowed cells g l (Inverted c) = IsInverting cells c

-- "A phase is needed if an output is that phase or the source of a needed phase is fed by it."
pub data Needed (cells : List Cell) (g : Graph) (outs : List ℕ) (source : ℕ → Source) : ℕ → Type 0 where
  output : {l : ℕ} → Memᴰ l outs → Needed cells g outs source l
  fed : {l x : ℕ} → Needed cells g outs source l → Memᴰ x (feeds cells (cuts_of g) l (source l)) → Needed cells g outs source x

-- x feeds l, "directly or through others"
pub data Feeds (cells : List Cell) (g : Graph) (source : ℕ → Source) (x : ℕ) : ℕ → Type 0 where
  directly : {l : ℕ} → Memᴰ x (feeds cells (cuts_of g) l (source l)) → Feeds cells g source x l
  through : {y l : ℕ} → Feeds cells g source x y → Memᴰ y (feeds cells (cuts_of g) l (source l)) → Feeds cells g source x l

-- "Arrival: 0 for an input, 0 for a cell without pins, otherwise the largest of feeding arrival plus pin delay." An input's own net has the input's
-- arrival, and "every arrival starts from it"
unfoldable pub arrival_by : List Cell → Graph → (ℕ → ℕ) → ℕ → Source → ℕ
unfolding latest feeds cell_of cuts_of
arrival_by cells g arrival l Input = g.input_arrival (var_of l)
arrival_by cells g arrival l Nothing = 0
arrival_by cells g arrival l (Matched m) = latest (map arrival (feeds cells (cuts_of g) l (Matched m))) (cell_of cells (Matched m)).delays
arrival_by cells g arrival l (Inverted c) = latest (map arrival (feeds cells (cuts_of g) l (Inverted c))) (cell_of cells (Inverted c)).delays

-- "A cover gives each needed phase of a variable one source"; "No circle: no phase feeds itself, directly or through others."
pub record Cover (cells : List Cell) (g : Graph) (outs : List ℕ) : Type 0 where
  pub source : ℕ → Source
  pub allowed : (l : ℕ) → Needed cells g outs source l → Allowed cells g l (source l)
  -- document 01: "circle"
  pub no_cycle : (l : ℕ) → Needed cells g outs source l → ¬ Feeds cells g source l l

-- the arrivals of the phases that a cover needs, by the rule
pub record CoverArrivals (cells : List Cell) (g : Graph) (outs : List ℕ) (c : Cover cells g outs) (at : ℕ → ℕ) : Type 0 where
  pub timed : (l : ℕ) → Needed cells g outs c.source l → at l ≡ arrival_by cells g at l (c.source l)
