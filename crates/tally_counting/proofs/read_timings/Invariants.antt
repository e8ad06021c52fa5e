-- `tally_counting::read_timings` meets its contract. The invariant: what is expected from here on is what is left of all that is expected.
use Rattle.base.specs.{◌≡◌, ◌-◌, ◌≤◌, length}
use Rattle.model.specs.{expected_lines, timings}
use Rattle.tally_counting.specs.{lines_of}
use Rattle.tally_counting.proofs.ExpectedNetlistLines.{times_from}
use Rattle.tally_counting.proofs.read_timings.Given as goal

abbrev pub invariant-loop-k : goal.invariant-loop-k
invariant-loop-k l = (l.at ≤ length l.s)
    × (expected_lines (length l.s) (timings l.ranged l.outs) (lines_of l.s l.from) ≡ expected_lines (length l.s) (times_from l.k (l.n - l.k)) (lines_of l.s l.at))
