-- `cut_functions::fill_node` meets its contract. The invariant: the first k functions are stored, and the notes are below those of the next walk.
use Rattle.base.specs.{◌≡◌, ◌+◌, ◌*◌}
use Rattle.cut_functions.specs.{Early}
use Rattle.cut_functions.proofs.FunctionFills.{part}
use Rattle.cut_functions.proofs.fill_node.Given as goal

abbrev pub invariant-loop-k : goal.invariant-loop-k
invariant-loop-k l =
    record {
      stored : l.work ≡ part l.fn.work l.m l.v l.k;
      early : Early l.m l.next l.notes;
      next : l.next ≡ l.base + 65536 * l.k;
    }
