-- `genlib_call::write` meets its contract: the names line and the lines of the gates. The invariant: behind the names line, of the lines of all groups,
-- those of the groups from here on are left to write. The measure is what is left of the text.
use Rattle.base.specs.{◌-◌, ◌≤◌, length}
use Rattle.model.specs.{groups}
use Rattle.base_text.proofs.{Partly}
use Rattle.genlib_groups.specs.{lines_of}
use Rattle.genlib_call.specs.{lines_for}
use Rattle.genlib_call.proofs.write.Given as goal

abbrev pub invariant-loop-at : goal.invariant-loop-at
invariant-loop-at l =
    (l.at ≤ length l.s) × Partly l.initial.out l.out l.initial.to l.to (lines_for (groups (lines_of l.s 0))) (lines_for (groups (lines_of l.s l.at)))

abbrev pub decreases-loop-at : goal.decreases-loop-at
decreases-loop-at l = length l.s - l.at
