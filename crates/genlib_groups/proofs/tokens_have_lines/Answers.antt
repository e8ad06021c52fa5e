-- `genlib_groups::tokens_have_lines` meets its contract. The invariant: all pins have their lines where all that are left do; the measure is what is left of the line.
use Rattle.base.specs.{sym, ap, ◌∙◌, arith}
use Rattle.model.specs.{all}
use Rattle.genlib_expression.proofs.{step, nothing_left_lem, all-step}
use Rattle.genlib_groups.specs.{pin_has, lines_behind}
use Rattle.genlib_groups.proofs.GroupReading.{has-none}
use Rattle.genlib_groups.proofs.tokens_have_lines.Goals as goal

pub slice_bounds-has_line-count : goal.slice_bounds-has_line-count
slice_bounds-has_line-count c = (step _ _ c.loop-at.invariant.1 _ c.next_token-t.ensures).ordered

pub slice_bounds-has_line-start : goal.slice_bounds-has_line-start
slice_bounds-has_line-start c = (step _ _ c.loop-at.invariant.1 _ c.next_token-t.ensures).ordered

pub slice_bounds-has_line-end : goal.slice_bounds-has_line-end
slice_bounds-has_line-end c = (step _ _ c.loop-at.invariant.1 _ c.next_token-t.ensures).within

pub returns-then-not-has_line : goal.returns-then-not-has_line
returns-then-not-has_line c = let l = c.loop-at in let k = step _ _ l.invariant.1 _ c.next_token-t.ensures in let f = pin_has (lines_behind c.args.s.now c.args.from) in sym (l.invariant.2 ∙ all-step f (has-none _) _ _ _ k ∙ rw (sym c.has_line.ensures ∙ c.if-not-has_line.true))

pub loop-at-smaller : goal.loop-at-smaller
loop-at-smaller c = let l = c.loop-at in let k = step _ _ l.invariant.1 _ c.next_token-t.ensures in omega (arith, k.later c.loop-at-test.true)

pub loop-at-preserved : goal.loop-at-preserved
loop-at-preserved c = let l = c.loop-at in let k = step _ _ l.invariant.1 _ c.next_token-t.ensures in let f = pin_has (lines_behind c.args.s.now c.args.from) in (l.invariant.0, k.within, l.invariant.2 ∙ all-step f (has-none _) _ _ _ k ∙ rw (sym c.has_line.ensures ∙ c.if-not-has_line.false))

pub returns : goal.returns
unfolding all
returns c = let l = c.loop-at in sym (l.invariant.2 ∙ ap (all _) (nothing_left_lem _ _ c.loop-at-test.false))
