-- `check_outputs::compare` meets its contract. The invariant: what is answered for the assignments from here on is the answer, and inside a block its words are known.
use Rattle.base.specs.{◌≡◌, List, ◌-◌, ◌/◌, ◌%◌, length}
use Rattle.model.specs.Graph.{Graph}
use Rattle.model.specs.{Driver, input_nets, settled, wrong_at, compare_from}
use Rattle.check_outputs.specs.Comparable.{Comparable}
use Rattle.check_outputs.specs.{Wrong}
use Rattle.check_outputs.proofs.compare.Given as goal

abbrev pub invariant-loop-s : goal.invariant-loop-s
invariant-loop-s l =
    (length l.wrong ≡ 4096)
    × ((g : Graph) (ds : List Driver) → Comparable l.work l.h l.nets l.n l.refs l.order g ds
    → (compare_from l.end 0 (wrong_at g (settled (length ds) (input_nets g) ds)) ≡ compare_from (l.end - l.s) l.s (wrong_at g (settled (length ds) (input_nets g) ds)))
    × (¬ (l.s % 64 ≡ 0) → Wrong g ds (l.s / 64) l.wrong))
