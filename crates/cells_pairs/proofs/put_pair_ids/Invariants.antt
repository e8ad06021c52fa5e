-- `cells_pairs::put_pair_ids` meets its contract. The invariant: the numbers before number i are written.
use Rattle.base.specs.{drop}
use Rattle.model.specs.{each}
use Rattle.base_text.proofs.{Partly}
use Rattle.cells_pairs.specs.{id_bytes}
use Rattle.cells_pairs.proofs.put_pair_ids.Given as goal

abbrev pub invariant-loop-k : goal.invariant-loop-k
invariant-loop-k l = Partly l.initial.records l.records l.at l.next (each id_bytes l.ids) (each id_bytes (drop l.k-index l.ids))
