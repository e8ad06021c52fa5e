-- What the functions that validate a gate answer.
use Rattle.std.specs.Prelude.{◌+◌, ◌≤◌, ◌≡◌, ◌&&◌, Result, Ok, Err}
use Rattle.base.specs.{ℕ, Option, None, Some, List, leb, length, drop}
use Rattle.model.specs.declared.Refusal.{Refusal}
use Rattle.model.specs.{Read, holds, fault, unless, from?, tokens, pins_of, shallow, gate_from}
use Rattle.model.specs.Genlib.{Gate}
use Rattle.genlib_expression.specs.{part, names_at}
use Rattle.genlib_expression.specs.declared.Pins.{Pins}
use Rattle.genlib_celltext.specs.declared.Gate.{Gate as GateFound}
use Rattle.genlib_celltext.specs.{gate_in, Stands}

-- the name of a gate that was found stands in the text
abbrev pub GateStands : List ℕ → Option GateFound → Type 0
GateStands s (Some g) = Stands s g
GateStands s None = Unit {0}

abbrev pub GateIs : List ℕ → Result GateFound Refusal → Type 0
GateIs s (Ok g) = Stands s g
GateIs s (Err r) = Unit {0}

-- what was found, as `model` reads it
abbrev pub gate_option : List ℕ → Option GateFound → Option Gate
gate_option s (Some g) = Some (gate_in s g)
gate_option s None = None

-- what was found of a group
abbrev pub validated_read : List ℕ → Result GateFound Refusal → Read Gate
validated_read s (Ok g) = holds (gate_in s g)
validated_read s (Err r) = fault r.number r.place

-- 23 and 24
unfoldable pub sized_read : List (List (List ℕ)) → List (List ℕ) → ℕ → Read Gate
unfolding unless from? pins_of shallow gate_from
sized_read lines ts at = unless (leb (length (pins_of (drop 5 ts))) 4 && shallow 0 (drop 5 ts)) 23 at (from? (gate_from lines ts) 24 at)

-- w is the part of s from `at` on
pub record InLine (s : List ℕ) (at : ℕ) (w : List ℕ) : Type 0 where
  pub fits : at + length w ≤ length s
  pub same : w ≡ part s at (at + length w)
  pub short : length w ≤ 65536

-- p holds the pins of the expression of line w
pub record Few (w : List ℕ) (p : Pins) : Type 0 where
  pub four : p.n ≤ 4
  pub names : names_at w p ≡ pins_of (drop 5 (tokens w))
