-- `genlib_expression::word_is` meets its contract. The invariant: the bytes that are left are the word that is left, just where all are.
use Rattle.base.specs.{le-leb, sym, ap, ◌∙◌, not}
use Rattle.model.specs.{is_word_byte}
use Rattle.base_text.proofs.{word-short, word_other, word_stop, word-step, word_out, word-past}
use Rattle.genlib_expression.proofs.word_is.Goals as goal
use Rattle.genlib_expression.proofs.word_is.Goals.{then-at-w-via-then-at-w, then-at-w-via-else-at-w+then-w-at, then-at-w-via-else-at-w+else-w-at+then-not-is_of}

pub returns-then-at-w : goal.returns-then-at-w
returns-then-at-w c =
    let i = c.loop-b.invariant in
    let t = c.loop-b-test.true in
    elim c.then-at-w.branch [
      | then-at-w-via-then-at-w w ↦ sym (i ∙ word-short is_word_byte _ _ _ _ t w.if-at-w.true)
      | then-at-w-via-else-at-w+then-w-at w ↦ sym (i ∙ word_other is_word_byte _ _ _ _ t w.if-at-w.false w.if-w-at.true)
      | then-at-w-via-else-at-w+else-w-at+then-not-is_of w ↦ sym (i ∙ word_stop is_word_byte _ _ _ _ t w.if-at-w.false (sym w.is_of.ensures ∙ w.if-not-is_of.true))
    ]

pub loop-b-preserved : goal.loop-b-preserved
loop-b-preserved c =
    c.loop-b.invariant
    ∙ word-step is_word_byte _ _ _ _ c.loop-b-test.true c.if-at-w.false c.if-w-at.false (sym c.is_of.ensures ∙ c.if-not-is_of.false)

pub returns-then-at-w-2 : goal.returns-then-at-w-2
returns-then-at-w-2 c = le-leb _ _ c.if-at-w-2.true ∙ sym (c.loop-b.invariant ∙ word-past is_word_byte _ _ _ _ c.loop-b-test.false c.if-at-w-2.true)

pub returns-else-at-w-2 : goal.returns-else-at-w-2
returns-else-at-w-2 c =
    ap not c.is_of-else-at-w-2.ensures ∙ sym (c.loop-b.invariant ∙ word_out is_word_byte _ _ _ _ c.loop-b-test.false c.if-at-w-2.false)
