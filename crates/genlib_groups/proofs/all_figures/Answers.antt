-- `genlib_groups::all_figures` meets its contract. The invariant: all tokens are figures where all that are left are; the measure is what is left of the line.
use Rattle.base.specs.{sym, ap, ◌∙◌, arith}
use Rattle.model.specs.{all, is_figure}
use Rattle.genlib_expression.proofs.{step, nothing_left_lem}
use Rattle.genlib_groups.proofs.all_figures.Goals as goal
use Rattle.genlib_groups.proofs.all_figures.Goals.{else-t-via-then-t+else-not-is_figure, else-t-via-else-t}

pub slice_bounds-is_figure-end : goal.slice_bounds-is_figure-end
slice_bounds-is_figure-end c = (step _ _ c.loop-at.invariant.0 _ c.next_token-t.ensures).within

pub returns-then-not-is_figure : goal.returns-then-not-is_figure
unfolding all
returns-then-not-is_figure c =
    let l = c.loop-at in
    let k = step _ _ l.invariant.0 _ c.next_token-t.ensures in
    sym (l.invariant.1 ∙ ap (all is_figure) (k.one c.if-t.true) ∙ rw (sym c.is_figure.ensures ∙ c.if-not-is_figure.true))

pub loop-at-smaller : goal.loop-at-smaller
loop-at-smaller c =
    let k = step _ _ c.loop-at.invariant.0 _ c.next_token-t.ensures in
    omega (arith, k.later c.loop-at-test.true)

pub loop-at-preserved : goal.loop-at-preserved
unfolding all
loop-at-preserved c =
    let l = c.loop-at in
    let k = step _ _ l.invariant.0 _ c.next_token-t.ensures in (
      k.within,
      l.invariant.1
          ∙ elim c.else-t.branch [
            | else-t-via-then-t+else-not-is_figure y ↦ ap (all is_figure) (k.one y.if-t.true) ∙ rw (sym y.is_figure.ensures ∙ y.if-not-is_figure.false)
            | else-t-via-else-t y ↦ ap (all is_figure) (k.none y.if-t.false).0 ∙ sym (ap (all is_figure) (k.none y.if-t.false).1)
          ],
    )

pub returns : goal.returns
unfolding all
returns c = sym (c.loop-at.invariant.1 ∙ ap (all is_figure) (nothing_left_lem _ _ c.loop-at-test.false))
