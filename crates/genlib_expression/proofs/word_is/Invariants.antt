-- `genlib_expression::word_is` meets its contract. The invariant: the bytes that are left are the word that is left, just where all are.
use Rattle.base.specs.{◌≡◌, drop}
use Rattle.model.specs.{same, is_word_byte, span}
use Rattle.genlib_expression.proofs.word_is.Given as goal

abbrev pub invariant-loop-b : goal.invariant-loop-b
invariant-loop-b l = same l.t (span is_word_byte (drop l.from l.w)) ≡ same (drop l.b-index l.t) (span is_word_byte (drop l.at l.w))
