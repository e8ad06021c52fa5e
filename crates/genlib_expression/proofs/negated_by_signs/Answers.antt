-- `genlib_expression::negated_by_signs` meets its contract. The invariant: what the signs from here on make of the value is what all of them make of the first; the measure is what is left of the line.
use Rattle.base.specs.{sym, ap, ◌∙◌, arith}
use Rattle.model.specs.{negated_by_signs}
use Rattle.genlib_expression.proofs.TokenSpans.{behind-yes, behind_no}
use Rattle.genlib_expression.proofs.ExpressionValues.{signs_stop, signs_step}
use Rattle.genlib_expression.proofs.negated_by_signs.Goals as goal

pub returns : goal.returns
returns c =
    let l = c.loop-next in
    (l.invariant.0, l.invariant.1, sym (l.invariant.2 ∙ signs_stop _ _ _ (behind_no _ _ _ c.in_default.ensures)))

pub loop-next-smaller : goal.loop-next-smaller
loop-next-smaller c = let y = behind-yes _ _ _ _ c.in-Some.ensures in omega arith

pub loop-next-preserved : goal.loop-next-preserved
loop-next-preserved c =
    let l = c.loop-next in
    let y = behind-yes _ _ _ _ c.in-Some.ensures in
    (omega arith, y.3, l.invariant.2 ∙ signs_step _ _ _ y.0 ∙ ap (negated_by_signs _ _) y.1)
