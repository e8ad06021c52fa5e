-- `cells_pairs::put_pins` meets its contract. The invariant: the numbers of the first p pins are written.
use Rattle.base.specs.{◌-◌}
use Rattle.model.specs.{from, below, cells_of}
use Rattle.base_text.proofs.{Partly}
use Rattle.cells_pairs.specs.{pin_ids}
use Rattle.cells_pairs.proofs.put_pins.Given as goal

abbrev pub invariant-loop-p : goal.invariant-loop-p
invariant-loop-p l =
    Partly l.initial.ids l.ids l.at l.next (pin_ids (cells_of l.lib) l.i (below l.pins)) (pin_ids (cells_of l.lib) l.i (from l.p (l.pins - l.p)))
