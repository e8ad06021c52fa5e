-- `checker::main` is safe: the words lent are enough.
use Rattle.base.specs.{ℕ, sym, subst, length-replicate}
use Rattle.checker.specs.BufferBounds.{Enough}
use Rattle.checker.proofs.BufferSizes.{buffer_enough}
use Rattle.checker.proofs.main.Goals as goal

pub slice_bounds-check_files-end-4 : goal.slice_bounds-check_files-end-4
slice_bounds-check_files-end-4 c = sym (length-replicate {A = ℕ} 1036288 0)

pub check_files-requires : goal.check_files-requires
check_files-requires c = subst Enough (sym (length-replicate {A = ℕ} 1036288 0)) buffer_enough
