-- The gate that is written, as `model` has it.
use Rattle.std.specs.Prelude.{◌-◌, ◌≤◌}
use Rattle.base.specs.{ℕ, List, length, take, drop}
use Rattle.model.specs.Genlib.{Gate}
use Rattle.genlib_celltext.specs.declared.Gate.{Gate as GateFound}

-- d0 to d3
abbrev pub delays_of : GateFound → List ℕ
delays_of g = g.delays

-- its name, in the text s
abbrev pub name_in : List ℕ → GateFound → List ℕ
name_in s g = take (g.to - g.from) (drop g.from s)

abbrev pub gate_in : List ℕ → GateFound → Gate
gate_in s g = record { name = name_in s g; pins = g.pins; table = g.table; area = g.area; delays = delays_of g }

-- its name stands in the text s
abbrev pub Stands : List ℕ → GateFound → Type 0
Stands s g = (g.from ≤ g.to) × (g.to ≤ length s)
