-- `net_writer::outputs_len` meets its contract. The invariant: what is counted and what is left make the whole, at most 12 bytes for each name.
use Rattle.base.specs.{◌≡◌, ◌+◌, ◌-◌, ◌*◌, ◌≤◌, length}
use Rattle.net_writer.specs.{output_names_from, spaced}
use Rattle.net_writer.proofs.outputs_len.Given as goal

abbrev pub invariant-loop-i : goal.invariant-loop-i
invariant-loop-i l = (l.len ≤ 12 * l.i) × (l.len + length (spaced (output_names_from l.i (l.n - l.i))) ≡ length (spaced (output_names_from 0 l.n)))
