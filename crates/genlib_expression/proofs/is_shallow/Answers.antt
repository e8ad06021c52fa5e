-- `genlib_expression::is_shallow` meets its contract. The invariant: the line is shallow where what is left of it is; the measure is what is left.
use Rattle.base.specs.{sym, ap, ◌∙◌, arith, ℕ, ◌+◌, le-leb}
use Rattle.model.specs.{shallow}
use Rattle.genlib_expression.specs.{rest_at}
use Rattle.genlib_expression.proofs.ExpressionWalk.{nothing_left_lem}
use Rattle.genlib_expression.proofs.ExpressionScan.{shallow_byte, shallow-over}
use Rattle.genlib_expression.proofs.is_shallow.Goals as goal

pub returns-then-depth-gt16 : goal.returns-then-depth-gt16
returns-then-depth-gt16 c =
    let l = c.loop-at in
    let w = c.args.w.now in
    sym (l.invariant.1 ∙ shallow_byte w l.at l.depth c.loop-at-test.true l.invariant.0 ∙ shallow-over _ _ (omega (arith, c.step_depth-depth.ensures, c.if-depth-gt16.true)))

pub loop-at-preserved : goal.loop-at-preserved
loop-at-preserved c =
    let l = c.loop-at in
    let w = c.args.w.now in (
      c.if-depth-gt16.false,
      l.invariant.1 ∙ shallow_byte w l.at l.depth c.loop-at-test.true l.invariant.0
          ∙ ap (λ (d : ℕ). shallow d (rest_at w (l.at + 1))) (sym c.step_depth-depth.ensures),
    )

pub returns : goal.returns
unfolding shallow
returns c = let l = c.loop-at in sym (l.invariant.1 ∙ ap (shallow l.depth) (nothing_left_lem _ _ c.loop-at-test.false) ∙ le-leb _ _ l.invariant.0)
