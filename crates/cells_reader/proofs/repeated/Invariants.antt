-- `cells_reader::repeated` meets its contract. The invariant: none of the first i cells has the name.
use Rattle.base.specs.{◌≡◌, false}
use Rattle.cells_reader.specs.{is_repeated}
use Rattle.cells_reader.proofs.repeated.Given as goal

abbrev pub invariant-loop-i : goal.invariant-loop-i
invariant-loop-i l = is_repeated l.w l.lib.cells l.i ≡ false
