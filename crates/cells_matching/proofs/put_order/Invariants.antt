-- `cells_matching::put_order` meets its contract. The invariant: the variants of the order from a mask on are on the match table.
use Rattle.base.specs.{◌≡◌, ◌+◌, ◌-◌, ◌*◌}
use Rattle.cells_matching.specs.{passed}
use Rattle.cells_matching.proofs.put_order.Given as goal

abbrev pub invariant-loop-mask : goal.invariant-loop-mask
invariant-loop-mask l = l.matches ≡ passed l.pins l.table (384 * l.line + 16 * l.order + l.mask) (16 - l.mask) l.initial.matches
