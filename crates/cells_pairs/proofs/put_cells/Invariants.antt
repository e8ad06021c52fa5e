-- `cells_pairs::put_cells` meets its contract. The invariant: the cells before line i are written.
use Rattle.base.specs.{take, drop}
use Rattle.model.specs.{each}
use Rattle.base_text.proofs.{Partly}
use Rattle.cells_pairs.specs.{cell_bytes}
use Rattle.cells_pairs.proofs.put_cells.Given as goal

abbrev pub invariant-loop-i : goal.invariant-loop-i
invariant-loop-i l = Partly l.initial.records l.records l.at l.next (each cell_bytes (take l.lib.n l.lib.cells)) (each cell_bytes (drop l.i (take l.lib.n l.lib.cells)))
