-- `cut_lists::pack_cuts` meets its contract. The invariant: the cuts before the i-th are packed.
use Rattle.base.specs.{◌≡◌, ℕ, ◌<◌, length, get_or}
use Rattle.base_words.specs.{leaves_at}
use Rattle.cut_lists.specs.{pack, column_mask}
use Rattle.cut_lists.proofs.pack_cuts.Given as goal

abbrev pub invariant-loop-i : goal.invariant-loop-i
invariant-loop-i l =
    record {
      packed : (j : ℕ) → j < l.i → get_or l.ys j 0 ≡ pack (leaves_at l.work l.m l.v j);
      masked : (j : ℕ) → j < l.i → get_or l.masks j 0 ≡ column_mask (length (leaves_at l.work l.m l.v j)) (pack (leaves_at l.work l.m l.v j));
    }
