-- `net_writer::put_outputs` meets its contract. The invariant: the first i names are written.
use Rattle.base.specs.{◌-◌}
use Rattle.base_text.proofs.{Partly}
use Rattle.net_writer.specs.{output_names_from, spaced}
use Rattle.net_writer.proofs.put_outputs.Given as goal

abbrev pub invariant-loop-i : goal.invariant-loop-i
invariant-loop-i l = Partly l.initial.out l.out l.at l.next (spaced (output_names_from 0 l.n)) (spaced (output_names_from l.i (l.n - l.i)))
