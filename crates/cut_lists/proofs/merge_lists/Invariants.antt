-- `cut_lists::merge_lists` meets its contract. The invariant: the keys are `merged_keys` over the cuts of a from the i-th on.
use Rattle.base.specs.{◌≡◌, ◌≤◌, drop}
use Rattle.base_words.specs.{cuts_at}
use Rattle.cut_lists.specs.{merged_keys, key_capacity}
use Rattle.cut_lists.proofs.merge_lists.Given as goal

abbrev pub invariant-loop-i : goal.invariant-loop-i
invariant-loop-i l =
    record {
      within : l.n ≤ key_capacity;
      merged : drop l.n l.keys ≡ merged_keys (drop l.i (cuts_at l.work l.m l.a)) (cuts_at l.work l.m l.b);
    }
