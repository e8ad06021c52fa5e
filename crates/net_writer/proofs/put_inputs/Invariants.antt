-- `net_writer::put_inputs` meets its contract. The invariant: the first i names are written.
use Rattle.base.specs.{◌-◌}
use Rattle.base_text.proofs.{Partly}
use Rattle.net_writer.specs.{input_names_from, spaced}
use Rattle.net_writer.proofs.put_inputs.Given as goal

abbrev pub invariant-loop-i : goal.invariant-loop-i
invariant-loop-i l =
    Partly l.initial.out l.out l.at l.next (spaced (input_names_from l.work l.m 0 l.n)) (spaced (input_names_from l.work l.m l.i (l.n - l.i)))
