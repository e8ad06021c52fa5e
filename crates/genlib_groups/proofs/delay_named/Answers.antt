-- `genlib_groups::delay_named` meets its contract, by the line that counts for the word.
use Rattle.base.specs.{sym, ap, ◌∙◌}
use Rattle.model.specs.{delay_of}
use Rattle.genlib_groups.specs.{lines_behind, delay_for}
use Rattle.genlib_groups.proofs.GenlibLineLaws.{bounded, tokens-at}
use Rattle.genlib_groups.proofs.GroupReading.{delay_found, delay_missing}
use Rattle.genlib_groups.proofs.delay_named.Goals as goal

pub returns-in_err-start : goal.returns-in_err-start
returns-in_err-start c =
    let a = c.args in
    c.from_residual.ensures
    ∙ sym (ap (delay_for (lines_behind a.s.now a.from)) (sym c.word_at.ensures) ∙ delay_missing (lines_behind a.s.now a.from) _ c.in_err-start.ensures.found)

pub returns : goal.returns
returns c =
    let a = c.args in
    c.delay_of.ensures
    ∙ ap delay_of (tokens-at _ _ _ (bounded _ _ c.in_ok-start.ensures.within _ c.line-l.ensures))
    ∙ sym (ap (delay_for (lines_behind a.s.now a.from)) (sym c.word_at.ensures) ∙ delay_found (lines_behind a.s.now a.from) _ a.s.now _ c.in_ok-start.ensures.found)

pub slice_bounds-delay_of-count : goal.slice_bounds-delay_of-count
slice_bounds-delay_of-count c = (bounded _ _ c.in_ok-start.ensures.within _ c.line-l.ensures).starts

pub slice_bounds-delay_of-start : goal.slice_bounds-delay_of-start
slice_bounds-delay_of-start c = (bounded _ _ c.in_ok-start.ensures.within _ c.line-l.ensures).starts

pub slice_bounds-delay_of-end : goal.slice_bounds-delay_of-end
slice_bounds-delay_of-end c = (bounded _ _ c.in_ok-start.ensures.within _ c.line-l.ensures).stopped
