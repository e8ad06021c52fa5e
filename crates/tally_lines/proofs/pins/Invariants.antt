-- `tally_lines::pins` meets its contract. The invariant: the steps over the pins from here on lead where all lead.
use Rattle.base.specs.{◌-◌, ◌≡◌}
use Rattle.model.specs.{from, below}
use Rattle.tally_lines.specs.{steps_at}
use Rattle.tally_lines.proofs.GateLineForms.{pin_tests}
use Rattle.tally_lines.proofs.pins.Given as goal

abbrev pub invariant-loop-j : goal.invariant-loop-j
invariant-loop-j l = steps_at (pin_tests (below l.n)) l.w l.from ≡ steps_at (pin_tests (Rattle.model.specs.Base.from l.j (l.n - l.j))) l.w l.at
