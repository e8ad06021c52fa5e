-- `program_files::fill` meets its contract. The invariant: the bytes read so far are within the buffer, which keeps its length; the measure is the room left.
use Rattle.base.specs.{◌-◌, ◌≤◌, ◌≡◌, length}
use Rattle.program_files.proofs.fill.Given as goal

abbrev pub invariant-loop-done : goal.invariant-loop-done
invariant-loop-done g l = (l.done ≤ length l.buf) × (length l.buf ≡ length l.initial.buf)

abbrev pub decreases-loop-done : goal.decreases-loop-done
decreases-loop-done g l = length l.buf - l.done
