-- `check_reader::put_inputs` meets its contract. The invariant: the first i names are written.
use Rattle.base.specs.{◌-◌}
use Rattle.base_text.proofs.{Partly}
use Rattle.check_reader.specs.{names_from, input_name}
use Rattle.check_reader.proofs.put_inputs.Given as goal

abbrev pub invariant-loop-i : goal.invariant-loop-i
invariant-loop-i l =
    Partly l.initial.out l.out l.at l.next (names_from (input_name l.work l.m) 0 l.n) (names_from (input_name l.work l.m) l.i (l.n - l.i))
