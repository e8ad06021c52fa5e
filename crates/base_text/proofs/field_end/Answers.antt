-- `base_text::field_end` meets its contract. The invariant: the field from here on ends where that from the start does; the measure is what is left of the text.
use Rattle.base.specs.{List, ℕ, refl, sym, ◌∙◌}
use Rattle.base_text.specs.{end_at}
use Rattle.base_text.proofs.SearchEnds.{search_ends}
use Rattle.base_text.proofs.TextWords.{word-space, word_line, word_out, end_none, end_step_lem}
use Rattle.base_text.proofs.field_end.Goals as goal
use Rattle.base_text.proofs.field_end.Goals.{then-s-at-eq32-via-then-s-at-eq32, then-s-at-eq32-via-else-s-at-eq32+then-ends_at-ne0}

pub returns-then-s-at-eq32 : goal.returns-then-s-at-eq32
returns-then-s-at-eq32 c =
    sym
    (c.loop-at.invariant
    ∙ end_none _ _
    (elim c.then-s-at-eq32.branch [
      | then-s-at-eq32-via-then-s-at-eq32 w ↦ word-space _ _ c.loop-at-test.true w.if-s-at-eq32.true
      | then-s-at-eq32-via-else-s-at-eq32+then-ends_at-ne0 w ↦ word_line c.args.s.now c.loop-at.at (λ e. w.if-ends_at-ne0.true (w.ends_at.ensures ∙ e))
    ]))

pub loop-at-preserved : goal.loop-at-preserved
loop-at-preserved c =
    c.loop-at.invariant ∙ end_step_lem c.args.s.now c.loop-at.at c.loop-at-test.true c.if-s-at-eq32.false (sym c.ends_at.ensures ∙ c.if-ends_at-ne0.false)

pub returns : goal.returns
returns c =
    let s : List ℕ = c.args.s.now in
    c.max.ensures ∙ sym (search_ends (end_at s) (λ e. e) _ _ _ (λ k h. end_none s k (word_out s k h)) c.loop-at.invariant c.loop-at.auto.at-end c.loop-at-test.false _ refl)
