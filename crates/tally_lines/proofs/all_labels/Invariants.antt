-- `tally_lines::all_labels` meets its contract. The invariant: the names from here on are names where all are; the measure is what is left of the line.
use Rattle.base.specs.{◌+◌, ◌-◌, ◌≤◌, ◌≡◌, length}
use Rattle.model.specs.{all, is_label}
use Rattle.tally_lines.specs.{fields_at}
use Rattle.tally_lines.proofs.NetlistLineForms.{Labels}
use Rattle.tally_lines.proofs.all_labels.Given as goal

abbrev pub invariant-loop-at : goal.invariant-loop-at
invariant-loop-at l = (l.at ≤ length l.w + 2) × (Labels (is_label l.b) l.w l.at ≡ all (is_label l.b) (fields_at l.w l.from))

abbrev pub decreases-loop-at : goal.decreases-loop-at
decreases-loop-at l = length l.w + 2 - l.at
