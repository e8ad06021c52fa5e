-- `genlib_call::measure` meets its contract. The invariant: the length so far and that of the groups from here on is the whole; each group adds at most 65,600 bytes.
-- The measure is what is left of the text.
use Rattle.base.specs.{◌≡◌, ◌+◌, ◌-◌, ◌*◌, ◌≤◌, length}
use Rattle.model.specs.{groups, read_groups, read_genlib}
use Rattle.genlib_groups.specs.{lines_of}
use Rattle.genlib_call.specs.{measured}
use Rattle.genlib_call.proofs.measure.Given as goal

abbrev pub invariant-loop-at : goal.invariant-loop-at
invariant-loop-at l =
    (l.at ≤ length l.s) × (l.len ≤ 33 + 65600 * l.at) × (measured 33 (read_genlib l.s) ≡ measured l.len (read_groups (groups (lines_of l.s l.at))))

abbrev pub decreases-loop-at : goal.decreases-loop-at
decreases-loop-at l = length l.s - l.at
