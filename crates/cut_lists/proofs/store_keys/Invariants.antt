-- `cut_lists::store_keys` meets its contract. The invariant: the keys before the k-th are stored.
use Rattle.base.specs.{◌≡◌, map, take}
use Rattle.base_words.specs.{put_cuts}
use Rattle.cut_lists.specs.{key_words}
use Rattle.cut_lists.proofs.store_keys.Given as goal

abbrev pub invariant-loop-k : goal.invariant-loop-k
invariant-loop-k l = l.work ≡ put_cuts l.initial.work l.m l.v 0 (map key_words (take l.k l.keys))
