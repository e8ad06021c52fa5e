-- `check_names::cell_named` meets its contract. The invariant: none of the first i cells has the name.
use Rattle.base.specs.{◌≡◌, drop}
use Rattle.model.specs.{cells_of, cell_named}
use Rattle.check_names.proofs.cell_named.Given as goal

abbrev pub invariant-loop-i : goal.invariant-loop-i
invariant-loop-i l = cell_named (cells_of l.lib) l.w ≡ cell_named (drop l.i (cells_of l.lib)) l.w
