-- `net_writer::inputs_len` meets its contract. The invariant: what is counted and what is left make the whole, at most 12 bytes for each name.
use Rattle.base.specs.{◌≡◌, ◌+◌, ◌-◌, ◌*◌, ◌≤◌, length}
use Rattle.net_writer.specs.{input_names_from, spaced}
use Rattle.net_writer.proofs.inputs_len.Given as goal

abbrev pub invariant-loop-i : goal.invariant-loop-i
invariant-loop-i l =
    (l.len ≤ 12 * l.i) × (l.len + length (spaced (input_names_from l.work l.m l.i (l.n - l.i))) ≡ length (spaced (input_names_from l.work l.m 0 l.n)))
