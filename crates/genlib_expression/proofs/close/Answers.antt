-- `genlib_expression::close` meets its contract, by the bracket that stands there or not.
use Rattle.base.specs.{sym, ◌∙◌, arith}
use Rattle.genlib_expression.proofs.TokenSpans.{behind-yes, behind_no}
use Rattle.genlib_expression.proofs.ExpressionValues.{close_yes, close_no, quoted-is, in_phase-row}
use Rattle.genlib_expression.proofs.close.Goals as goal

pub returns-in_err-next : goal.returns-in_err-next
returns-in_err-next c = rw c.from_residual.ensures (tt, λ row h. sym (close_no _ _ (behind_no _ _ _ c.in_err-next.ensures)))

pub negated_by_signs-odd_signs-requires : goal.negated_by_signs-odd_signs-requires
negated_by_signs-odd_signs-requires c = (behind-yes _ _ _ _ c.in_ok-next.ensures).3

pub returns : goal.returns
returns c =
    let q = c.negated_by_signs-odd_signs in
    let y = behind-yes _ _ _ _ c.in_ok-next.ensures in (
      (omega (arith, q.ensures.0, y.2), q.ensures.1),
      λ row h. quoted-is c.args.w.now row c.in_phase.result q.result.1 _ _ _ _ (in_phase-row _ _ _ row c.in_phase.ensures (omega arith) h) q.ensures.2 ∙ sym (close_yes _ _ _ y.0 y.1),
    )
