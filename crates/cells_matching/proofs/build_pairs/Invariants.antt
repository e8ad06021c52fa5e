-- `cells_matching::build_pairs` meets its contract. The invariant: the pairs from number n + i on are matched.
use Rattle.base.specs.{◌≡◌, ◌+◌, drop}
use Rattle.model.specs.{cells_of}
use Rattle.cells_pairs.specs.{cells_by}
use Rattle.cells_matching.specs.{list_matched}
use Rattle.cells_matching.proofs.build_pairs.Given as goal

abbrev pub invariant-loop-i : goal.invariant-loop-i
invariant-loop-i l = l.matches ≡ list_matched (drop (l.lib.n + l.i) (cells_by (cells_of l.lib) l.ids)) (l.lib.n + l.i) l.initial.matches
