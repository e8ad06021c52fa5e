-- `base_text::line` meets its contract. The invariant: the line from here on stops where that from the start does.
use Rattle.base.specs.{◌≡◌}
use Rattle.base_text.specs.{span_at}
use Rattle.base_text.proofs.line.Given as goal

abbrev pub invariant-loop-at : goal.invariant-loop-at
invariant-loop-at l = span_at l.s l.from ≡ span_at l.s l.at
