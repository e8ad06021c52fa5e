-- "Inverters: smallest delay, then first line."
use Rattle.std.specs.Prelude.{◌+◌, ◌∷◌, Option, Some, None}
use Rattle.base.specs.{ℕ, suc, cond, List, [], ltb, get_or}
use Rattle.model.specs.{is_inverter, absent, no_phase}
use Rattle.model.specs.declared.Cell.{Cell}
use Rattle.model.specs.declared.Phase.{Phase}
use Rattle.model.specs.declared.Source.TheVariants.{Inverter as Inverted}

-- the line and the delay of the quickest inverter
abbrev pub Inverter : Type 0
Inverter = Option (ℕ × ℕ)

-- the inverter at a line, if it is quicker than the best of the lines before it
unfoldable pub quicker : Inverter → ℕ → ℕ → Inverter
quicker None line d = Some (line, d)
quicker (Some (l, e)) line d = cond (ltb d e) (Some (line, d)) (Some (l, e))

-- a cell tried
unfoldable pub tried : Inverter → Cell → ℕ → Inverter
unfolding quicker is_inverter
tried best c line = cond (is_inverter c) (quicker best line (get_or c.delays 0 0)) best

unfoldable pub inverter_from : Inverter → List Cell → ℕ → Inverter
unfolding tried
inverter_from best [] line = best
inverter_from best (c ∷ cs) line = inverter_from (tried best c line) cs (suc line)

-- the inverter of a library
unfoldable pub inverter_of : List Cell → Inverter
unfolding inverter_from
inverter_of cells = inverter_from None cells 0

-- the phase that an inverter gives, fed by the other phase
unfoldable pub inverted : Inverter → Phase → Phase
unfolding no_phase absent
inverted None other = no_phase
inverted (Some (line, d)) other = cond (absent other.source) no_phase (record { source = Inverted line; arrival = other.arrival + d })
