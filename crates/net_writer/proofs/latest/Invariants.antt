-- `net_writer::latest` meets its contract. The invariant: the latest so far and the latest of those left make the latest.
use Rattle.base.specs.{◌≡◌, ◌-◌, max}
use Rattle.net_writer.specs.{latest_from}
use Rattle.net_writer.proofs.latest.Given as goal

abbrev pub invariant-loop-i : goal.invariant-loop-i
invariant-loop-i l = max l.t (latest_from l.work l.m l.i (l.outputs - l.i)) ≡ latest_from l.work l.m 0 l.outputs
