-- `base_text::put` meets its contract. The invariant: the first i bytes of `from` stand from `at` on, and the others as they were; the length stays.
use Rattle.base.specs.{◌≡◌, length, take}
use Rattle.base_words.specs.{put_at}
use Rattle.base_text.proofs.put.Given as goal

abbrev pub invariant-loop-i : goal.invariant-loop-i
invariant-loop-i l = (length l.out ≡ length l.initial.out) × (l.out ≡ put_at l.initial.out l.at (take l.i l.from))
