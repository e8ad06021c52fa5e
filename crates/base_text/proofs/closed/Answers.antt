-- `base_text::closed` meets its contract: each return knows what stands behind the digits.
use Rattle.base.specs.{sym, ◌∙◌}
use Rattle.base_text.proofs.TextWords.{word-step, word-space, word_line, word_out}
use Rattle.base_text.proofs.ByteRuns.{closed_none, closed_some}
use Rattle.base_text.proofs.closed.Goals as goal
use Rattle.base_text.proofs.closed.Goals.{then-s-at-via-then-s-at, then-s-at-via-else-s-at+then-s-at-eq32}
use Rattle.base_text.proofs.closed.Goals.{then-s-at-via-else-s-at+else-s-at-eq32+then-ends_at-ne0}

pub returns-then-s-at : goal.returns-then-s-at
returns-then-s-at c =
    sym
    (closed_none _ _ _
    (elim c.then-s-at.branch [
      | then-s-at-via-then-s-at w ↦ word_out _ _ w.if-s-at.true
      | then-s-at-via-else-s-at+then-s-at-eq32 w ↦ word-space _ _ w.if-s-at.false w.if-s-at-eq32.true
      | then-s-at-via-else-s-at+else-s-at-eq32+then-ends_at-ne0 w ↦ word_line _ _ (λ e. w.if-ends_at-ne0.true (w.ends_at.ensures ∙ e))
    ]))

pub returns : goal.returns
returns c = sym (closed_some _ _ _ _ _ (word-step _ _ c.if-s-at.false c.if-s-at-eq32.false (sym c.ends_at.ensures ∙ c.if-ends_at-ne0.false)))
