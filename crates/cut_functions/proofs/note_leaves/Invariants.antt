-- `cut_functions::note_leaves` meets its contract. The invariant: the leaves from the i-th on are noted.
use Rattle.std.specs.Prelude.{◌≡◌}
use Rattle.base.specs.{take, drop}
use Rattle.cut_functions.specs.{leaf_notes}
use Rattle.cut_functions.proofs.note_leaves.Given as goal

abbrev pub invariant-loop-i : goal.invariant-loop-i
invariant-loop-i l = l.notes ≡ leaf_notes (drop l.i (take l.n l.leaves)) l.i l.base l.initial.notes
