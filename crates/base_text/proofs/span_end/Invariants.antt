-- `base_text::span_end` meets its contract. The invariant: from here on the bytes pass up to where they do from the start.
use Rattle.base.specs.{◌≡◌}
use Rattle.base_text.specs.{in_class, span_end}
use Rattle.base_text.proofs.span_end.Given as goal

abbrev pub invariant-loop-at : goal.invariant-loop-at
invariant-loop-at l = span_end (in_class l.class) l.w l.from ≡ span_end (in_class l.class) l.w l.at
