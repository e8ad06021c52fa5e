-- `net_timing::lines_len` meets its contract. The invariant: what is counted and what is left make the whole, at most 43 bytes for each output.
use Rattle.base.specs.{◌≡◌, ◌+◌, ◌-◌, ◌*◌, ◌≤◌, length}
use Rattle.net_timing.specs.{lines_from}
use Rattle.net_timing.proofs.lines_len.Given as goal

abbrev pub invariant-loop-i : goal.invariant-loop-i
invariant-loop-i l =
    (l.len ≤ 43 * l.i) × (l.len + length (lines_from l.work l.m l.i (l.outputs - l.i)) ≡ length (lines_from l.work l.m 0 l.outputs))
