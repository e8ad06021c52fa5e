-- `cut_lists::merge_row` meets its contract. The outer invariant: the keys are `merge_row_keys` over the cuts of v from the j-th on; the inner one: the merge is under way. Of x only its
-- leaves, packed, and their number are at hand in the loops, so both are said of every cut that is packed so. The inner measure is what is left to merge.
use Rattle.base.specs.{◌≡◌, List, ℕ, ◌+◌, ◌≤◌, drop}
use Rattle.base_words.specs.{leaves_at, cuts_at}
use Rattle.cut_lists.specs.{merge_row_keys, key_capacity}
use Rattle.cut_lists.proofs.CutPacking.{Packs, Merged}
use Rattle.cut_lists.proofs.merge_row.Given as goal

abbrev pub invariant-loop-left : goal.invariant-loop-left
invariant-loop-left l = (X : List ℕ) → Packs l.xs l.xn X → Merged X (leaves_at l.work l.m l.v l.j) l.left l.right l.a l.b l.done l.unit

abbrev pub decreases-loop-left : goal.decreases-loop-left
decreases-loop-left l = l.a + l.b

abbrev pub invariant-pairs : goal.invariant-pairs
invariant-pairs l =
    record {
      within : l.n ≤ key_capacity;
      merged : (X : List ℕ) → Packs l.xs l.xn X → drop l.n l.keys ≡ merge_row_keys X (drop l.j (cuts_at l.work l.m l.v)) (drop l.had l.fn.keys);
    }
