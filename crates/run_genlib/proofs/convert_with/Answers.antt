-- `run_genlib::convert_with` is safe: the part lent is no longer than what it is a part of.
use Rattle.base.specs.{arith, length-take}
use Rattle.run_genlib.proofs.convert_with.Goals as goal

pub slice_bounds-convert_buffer-end-then-k-text : goal.slice_bounds-convert_buffer-end-then-k-text
slice_bounds-convert_buffer-end-then-k-text g c = simp length-take (omega arith)
