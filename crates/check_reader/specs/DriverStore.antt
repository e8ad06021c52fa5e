-- The numbers of a driver in the array, and what is gathered of a text's lines.
use Rattle.std.specs.Prelude.{◌+◌, ◌*◌, ◌≤◌, ◌<◌, ◌≡◌, ◌∷◌, ◌++◌, Result, Ok, Err}
use Rattle.base.specs.{ℕ, suc, List, [], length, get_or, replicate}
use Rattle.model.specs.{each, Read, holds, fault, next, no_cell, cells_of, out_name, Driver, read_names, read_drivers, read_netlist}
use Rattle.model.specs.Graph.{Graph}
use Rattle.model.specs.declared.Library.{Library}
use Rattle.base_words.specs.{put_at}
use Rattle.check_names.specs.declared.Gate.{Gate}
use Rattle.check_names.specs.{code, gate_by}
use Rattle.check_reader.specs.Preamble.{lines_at}
use Rattle.check_reader.specs.declared.Progress.{Progress}

-- a library that was read: cells of at most four pins
pub record Fitting (lib : Library) : Type 0 where
  pub few : lib.n ≤ 32
  pub long : length lib.cells ≡ 32
  pub pins : (i : ℕ) → i < lib.n → (get_or lib.cells i no_cell).pins ≤ 4

-- the eight numbers of what a line says
unfoldable pub gate_words : ℕ → Gate → List ℕ
gate_words offset g = offset ∷ g.table ∷ g.count ∷ get_or g.codes 0 0 ∷ get_or g.codes 1 0 ∷ get_or g.codes 2 0 ∷ get_or g.codes 3 0 ∷ g.net ∷ []

-- those of a driver
unfoldable pub driver_words : Driver → List ℕ
unfolding gate_words
driver_words d = gate_words d.offset (gate_by d)

-- drivers were read from a place on: they stand first in the array, and the outputs' lines are expected
pub record Gates (s : List ℕ) (lib : Library) (first : ℕ) (r : Progress) (before after : List ℕ) : Type 0 where
  pub drivers : List Driver
  pub counted : r.count ≡ length drivers
  pub few : 6 * r.count ≤ r.at
  pub capacity : 8 * r.count ≤ length before
  pub stored : after ≡ put_at before 0 (each driver_words drivers)
  pub expected : (end outs : ℕ)
      → read_drivers (cells_of lib) end outs (lines_at s first) ≡ next (read_names end 0 outs (lines_at s r.at)) (λ ds. holds (drivers ++ ds))

-- a line is at fault: the drivers of the lines before it stand from place i of the array on
pub record Partly (i : ℕ) (before after : List ℕ) : Type 0 where
  pub drivers : List Driver
  pub capacity : 8 * (i + length drivers) ≤ length before
  pub stored : after ≡ put_at before (8 * i) (each driver_words drivers)

-- so, or the line at a place breaks its form
abbrev pub Gathered : List ℕ → Library → ℕ → Result Progress ℕ → List ℕ → List ℕ → Type 0
Gathered s lib first (Ok r) before after = Gates s lib first r before after
Gathered s lib first (Err k) before after =
    (p : Partly 0 before after) × (6 * length p.drivers ≤ k) × ((end outs : ℕ) → read_drivers (cells_of lib) end outs (lines_at s first) ≡ fault 32 k)

-- what output k's `.names` line says, by the number of its net
abbrev pub wire_gate : ℕ → ℕ → Gate
wire_gate net k = record { table = 2; count = 1; codes = net ∷ 0 ∷ 0 ∷ 0 ∷ []; net = code (out_name k) }

-- output k's two lines were read: its driver stands at place i of the array, and the lines behind are expected
pub record Step (s : List ℕ) (k at i p : ℕ) (before after : List ℕ) : Type 0 where
  pub within : at < length s
  pub driver : Driver
  pub stored : after ≡ put_at before (8 * i) (driver_words driver)
  pub far : at + 6 ≤ p
  pub expected : (left : ℕ) → read_names (length s) k (suc left) (lines_at s at) ≡ next (read_names (length s) (suc k) left (lines_at s p)) (λ ds. holds (driver ∷ ds))

-- so, or a line breaks its form or is missing
abbrev pub Stepped : List ℕ → ℕ → ℕ → ℕ → Result ℕ ℕ → List ℕ → List ℕ → Type 0
Stepped s k at i (Ok p) before after = Step s k at i p before after
Stepped s k at i (Err p) before after = (after ≡ before) × ((left : ℕ) → read_names (length s) k (suc left) (lines_at s at) ≡ fault 32 p)

-- the lines of so many outputs were read: their drivers stand from place i of the array on, and what is behind them is expected
pub record Pairs (s : List ℕ) (outs at i p : ℕ) (before after : List ℕ) : Type 0 where
  pub drivers : List Driver
  pub counted : outs ≡ length drivers
  pub capacity : 8 * (i + outs) ≤ length before
  pub stored : after ≡ put_at before (8 * i) (each driver_words drivers)
  pub few : 6 * (i + outs) ≤ p
  pub expected : read_names (length s) 0 outs (lines_at s at) ≡ next (read_names (length s) outs 0 (lines_at s p)) (λ es. holds (drivers ++ es))

-- so, or a line breaks its form or is missing
abbrev pub Paired : List ℕ → ℕ → ℕ → ℕ → Result ℕ ℕ → List ℕ → List ℕ → Type 0
Paired s outs at i (Ok p) before after = Pairs s outs at i p before after
Paired s outs at i (Err p) before after = Partly i before after × (read_names (length s) 0 outs (lines_at s at) ≡ fault 32 p)

-- the lines of a netlist were read: so many drivers stand first in the array
pub record Lines (s : List ℕ) (lib : Library) (g : Graph) (n : ℕ) (before after : List ℕ) : Type 0 where
  pub drivers : List Driver
  pub counted : n ≡ length drivers
  pub stored : after ≡ put_at before 0 (each driver_words drivers)
  pub held : read_netlist (cells_of lib) g s ≡ holds drivers
  pub few : n < 10923

-- so, or a line breaks its form or is missing
abbrev pub LinesRead : List ℕ → Library → Graph → Result ℕ ℕ → List ℕ → List ℕ → Type 0
LinesRead s lib g (Ok n) before after = Lines s lib g n before after
LinesRead s lib g (Err k) before after = read_netlist (cells_of lib) g s ≡ fault 32 k

-- the same, and what is left in the array where a line is at fault
abbrev pub Lined : List ℕ → Library → Graph → Result ℕ ℕ → List ℕ → List ℕ → Type 0
Lined s lib g (Ok n) before after = Lines s lib g n before after
Lined s lib g (Err k) before after = Partly 0 before after × LinesRead s lib g (Err k) before after

-- ---- a netlist read

-- the answer: how many drivers, or where a line breaks its form
unfoldable pub progress_of : Read (List Driver) → Result ℕ ℕ
progress_of (holds ds) = Ok (length ds)
progress_of (fault n k) = Err k

-- what is left in the array: the drivers' numbers first, or zeros
unfoldable pub nets_after : Read (List Driver) → List ℕ → List ℕ
nets_after (holds ds) before = put_at before 0 (each driver_words ds)
nets_after (fault n k) before = replicate (length before) 0

-- a netlist was read: `answer` and `left` say all; what follows from them is what is asked further on
pub record Taken (s : List ℕ) (lib : Library) (g : Graph) (r : Result ℕ ℕ) (before after : List ℕ) : Type 0 where
  pub answer : r ≡ progress_of (read_netlist (cells_of lib) g s)
  pub left : after ≡ nets_after (read_netlist (cells_of lib) g s) before
  pub follows : LinesRead s lib g r before after
