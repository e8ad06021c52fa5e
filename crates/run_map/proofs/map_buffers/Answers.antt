-- `run_map::map_buffers` is safe: a part of the text no longer than it.
use Rattle.base.specs.{arith, length-take}
use Rattle.run_map.proofs.map_buffers.Goals as goal

pub slice_bounds-put-end-then-m-text : goal.slice_bounds-put-end-then-m-text
slice_bounds-put-end-then-m-text g c = simp length-take (omega arith)
