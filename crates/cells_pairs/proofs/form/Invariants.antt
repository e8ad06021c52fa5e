-- `cells_pairs::form` meets its contract. The invariant: the numbers of the first i roots are written.
use Rattle.base.specs.{◌-◌, take}
use Rattle.model.specs.{from}
use Rattle.base_text.proofs.{Partly}
use Rattle.cells_pairs.specs.{root_ids, pair_ids}
use Rattle.cells_pairs.proofs.form.Given as goal

abbrev pub invariant-loop-i : goal.invariant-loop-i
invariant-loop-i l = Partly l.initial.ids l.ids 0 l.next (pair_ids (take l.lib.n l.lib.cells)) (root_ids (take l.lib.n l.lib.cells) (from l.i (l.lib.n - l.i)))
