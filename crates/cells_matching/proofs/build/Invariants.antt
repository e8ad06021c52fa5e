-- `cells_matching::build` meets its contract. The invariant: the cells from line i on are matched.
use Rattle.base.specs.{◌≡◌, drop}
use Rattle.cells_matching.specs.{list_matched}
use Rattle.cells_matching.proofs.build.Given as goal

abbrev pub invariant-loop-i : goal.invariant-loop-i
invariant-loop-i l = l.matches ≡ list_matched (drop l.i l.cells) l.i l.initial.matches
