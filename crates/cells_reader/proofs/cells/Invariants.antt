-- `cells_reader::cells` meets its contract. The invariant: the cells so far and what the lines from here on give are what the text gives, and the library holds its cells and nothing else; the measure is the room that is left.
use Rattle.base.specs.{◌≡◌, ◌-◌, ◌≤◌, [], length, drop}
use Rattle.model.specs.{lines_from, read_cells}
use Rattle.cells_reader.proofs.CellLineSteps.{so_far, Tidy}
use Rattle.cells_reader.proofs.cells.Given as goal

abbrev pub invariant-loop-at : goal.invariant-loop-at
invariant-loop-at l = (l.library.n ≤ 32) × (length l.library.cells ≡ 32) × (read_cells l.ranged 0 [] (lines_from l.from [] (drop l.from l.s)) ≡ so_far l.ranged l.library l.s l.at) × Tidy l.library

abbrev pub decreases-loop-at : goal.decreases-loop-at
decreases-loop-at l = 32 - l.library.n
