-- `cells_pairs::put_inners` meets its contract. The invariant: the numbers of the first j inner lines are written.
use Rattle.base.specs.{◌-◌, length, take}
use Rattle.model.specs.{from, below}
use Rattle.base_text.proofs.{Partly}
use Rattle.cells_pairs.specs.{inner_ids}
use Rattle.cells_pairs.proofs.put_inners.Given as goal

abbrev pub invariant-loop-j : goal.invariant-loop-j
invariant-loop-j l =
    Partly l.initial.ids l.ids l.at l.next (inner_ids (take l.lib.n l.lib.cells) l.i l.p (below (length (take l.lib.n l.lib.cells)))) (inner_ids (take l.lib.n l.lib.cells) l.i l.p (from l.j (l.lib.n - l.j)))
