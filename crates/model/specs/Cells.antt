-- A cell of the library, and the library as the code holds it.
use Rattle.std.specs.Prelude.{◌-◌, ◌&&◌, ◌++◌, Result, Ok}
use Rattle.base.specs.{ℕ, Bool, List, [], eqb, ltb, length, take, get_or, replicate}
use Rattle.model.specs.ReadResult.{Read, holds, fault, refused_with}
use Rattle.model.specs.declared.Cell.{Cell}
use Rattle.model.specs.declared.Library.{Library}
use Rattle.model.specs.declared.Refusal.{Refusal}

-- the cell's name
unfoldable pub name_of : Cell → List ℕ
name_of c = take c.len c.name

-- what stands at a line that is not there: the element that Rattle's own rules take past the end of an array
abbrev pub no_cell : Cell
no_cell = record { name = []; len = 0; pins = 0; table = 0; area = 0; delays = []; mins = [] }

-- the cell at a line, from 0
unfoldable pub cell_at : List Cell → ℕ → Cell
cell_at cells c = get_or cells c no_cell

-- "a one-pin cell with table 0001"; "The inverter role stays with listed cells", and these have names
unfoldable pub is_inverter : Cell → Bool
is_inverter c = eqb c.pins 1 && (eqb c.table 1 && ltb 0 c.len)

-- ---- the library by value

-- the cell of zeros
abbrev pub blank : Cell
blank = record { name = replicate 8 0; len = 0; pins = 0; table = 0; area = 0; delays = replicate 4 0; mins = replicate 4 0 }

-- the library that holds cells: they, and blank ones behind them
unfoldable pub library_of : List Cell → Library
library_of cs = record { n = length cs; cells = cs ++ replicate (32 - length cs) blank }

-- the cells of a library
unfoldable pub cells_of : Library → List Cell
cells_of l = take l.n l.cells

-- the one answer to what a library's text gives
unfoldable pub library_answer : Read (List Cell) → Result Library Refusal
unfolding library_of
library_answer (holds cs) = Ok (library_of cs)
library_answer (fault n k) = refused_with n k
