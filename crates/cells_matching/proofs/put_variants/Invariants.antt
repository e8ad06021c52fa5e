-- `cells_matching::put_variants` meets its contract. The invariant: the variants from a run of orders on are on the match table.
use Rattle.base.specs.{◌≡◌, ◌+◌, ◌-◌, ◌*◌}
use Rattle.cells_matching.specs.{passed}
use Rattle.cells_matching.proofs.put_variants.Given as goal

abbrev pub invariant-loop-i : goal.invariant-loop-i
invariant-loop-i l =
    l.matches ≡ passed l.pins l.table (384 * l.line + 16 * (l.i * l.run)) (384 - 16 * (l.i * l.run)) l.initial.matches
