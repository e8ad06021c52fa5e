-- `check_reader::put_outputs` meets its contract. The invariant: the first i names are written.
use Rattle.base.specs.{◌-◌}
use Rattle.model.specs.{out_name}
use Rattle.base_text.proofs.{Partly}
use Rattle.check_reader.specs.{names_from}
use Rattle.check_reader.proofs.put_outputs.Given as goal

abbrev pub invariant-loop-i : goal.invariant-loop-i
invariant-loop-i l = Partly l.initial.out l.out l.at l.next (names_from out_name 0 l.n) (names_from out_name l.i (l.n - l.i))
