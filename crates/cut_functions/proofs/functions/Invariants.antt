-- `cut_functions::functions` meets its contract. The invariant: the functions of the first i variables are stored, and the notes are below those of the next walk.
use Rattle.base.specs.{◌≡◌, ◌+◌, ◌*◌, ◌≤◌}
use Rattle.model.specs.{cut_limit}
use Rattle.cut_functions.specs.{Early, filled}
use Rattle.cut_functions.proofs.functions.Given as goal

abbrev pub invariant-loop-i : goal.invariant-loop-i
invariant-loop-i l =
    record {
      stored : l.work ≡ filled l.initial.work l.m l.i;
      early : Early l.m l.base l.notes;
      next : l.base ≤ 65536 + 65536 * cut_limit * l.i;
    }
