-- A report's lines, and a tally that can be reported.
use Rattle.std.specs.Prelude.{◌∷◌}
use Rattle.base.specs.{ℕ, List, length, leb}
use Rattle.model.specs.{each, from, Read, holds, unless, decimal, cells_of, cell_line}
use Rattle.model.specs.declared.Library.{Library}
use Rattle.model.specs.declared.Tally.{Tally}

-- the lines of n cells from place i on
unfoldable pub cell_lines : Library → Tally → ℕ → ℕ → List ℕ
unfolding each from cell_line cells_of
cell_lines l t i n = each (cell_line (cells_of l) t) (from i n)

-- a space and a figure
unfoldable pub figure_text : ℕ → List ℕ
figure_text n = 32 ∷ decimal n

-- a text that fits into so many bytes, or 18
unfoldable pub fitting : List ℕ → ℕ → Read (List ℕ)
unfolding unless
fitting r bytes = unless (leb (length r) bytes) 18 (length r) (holds r)
