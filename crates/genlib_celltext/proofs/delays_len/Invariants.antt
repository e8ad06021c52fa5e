-- `genlib_celltext::delays_len` meets its contract. The invariant: so long are the delays passed, each at most 6; once one is passed, there are four.
use Rattle.base.specs.{◌≡◌, ◌*◌, ◌≤◌, ◌<◌, length, take}
use Rattle.model.specs.{each, number_text}
use Rattle.genlib_celltext.proofs.delays_len.Given as goal

abbrev pub invariant-loop-d : goal.invariant-loop-d
invariant-loop-d l = (l.n ≡ length (each number_text (take l.d-index l.d-items))) × (l.n ≤ 6 * l.d-index) × (0 < l.d-index → length l.d-items ≡ 4)
