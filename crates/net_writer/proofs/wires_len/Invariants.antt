-- `net_writer::wires_len` meets its contract. The invariant: what is counted and what is left make the whole, at most 35 bytes for each output.
use Rattle.base.specs.{◌≡◌, ◌+◌, ◌-◌, ◌*◌, ◌≤◌, length}
use Rattle.net_writer.specs.{wire_lines_from}
use Rattle.net_writer.proofs.wires_len.Given as goal

abbrev pub invariant-loop-i : goal.invariant-loop-i
invariant-loop-i l =
    (l.len ≤ 35 * l.i) × (l.len + length (wire_lines_from l.work l.m l.i (l.outputs - l.i)) ≡ length (wire_lines_from l.work l.m 0 l.outputs))
