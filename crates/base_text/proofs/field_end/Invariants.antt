-- `base_text::field_end` meets its contract. The invariant: the field from here on ends where that from the start does.
use Rattle.base.specs.{◌≡◌}
use Rattle.base_text.specs.{end_at}
use Rattle.base_text.proofs.field_end.Given as goal

abbrev pub invariant-loop-at : goal.invariant-loop-at
invariant-loop-at l = end_at l.s l.from ≡ end_at l.s l.at
