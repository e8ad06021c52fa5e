-- `tally_report::sum_of` meets its contract. The invariant: the places before this one are summed.
use Rattle.base.specs.{◌≡◌, ◌*◌, ◌^◌, ◌≤◌, take}
use Rattle.model.specs.{sum}
use Rattle.tally_report.proofs.sum_of.Given as goal

abbrev pub invariant-loop-i : goal.invariant-loop-i
invariant-loop-i l = (l.total ≡ sum (take l.i l.xs)) × (l.total ≤ l.i * 2 ^ 40)
