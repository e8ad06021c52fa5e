-- `genlib_expression::is_formed` meets its contract. The invariant: the tokens that are left take the state at hand to where all tokens take the first; the measure is what is left of the line.
use Rattle.base.specs.{◌≡◌, refl, sym, ap, ◌∙◌, arith, false}
use Rattle.model.specs.{scan, is_done, formed}
use Rattle.model.specs.declared.Scan.{Scan}
use Rattle.model.specs.declared.Scan.TheVariants.{Expected, After, Done, Broken}
use Rattle.genlib_expression.specs.{rest_at}
use Rattle.genlib_expression.proofs.ExpressionWalk.{step, nothing_left_lem}
use Rattle.genlib_expression.proofs.ExpressionScan.{scan_step_lem, scan-depth}
use Rattle.genlib_expression.proofs.is_formed.Goals as goal

pub scan_at-s-requires : goal.scan_at-s-requires
scan_at-s-requires c = let k = step _ _ c.loop-at.invariant.0 _ c.next_token-t.ensures in (k.ordered, k.within, omega arith)

pub loop-at-smaller : goal.loop-at-smaller
loop-at-smaller c = let k = step _ _ c.loop-at.invariant.0 _ c.next_token-t.ensures in omega (arith, k.later c.loop-at-test.true)

pub loop-at-preserved : goal.loop-at-preserved
loop-at-preserved c =
    let l = c.loop-at in
    let w = c.args.w.now in
    let k = step _ _ l.invariant.0 _ c.next_token-t.ensures in (
      k.within,
      rw c.scan_at-s.ensures (scan-depth w l.at c.next_token-t.result l.s k c.loop-at-test.true l.invariant.1),
      l.invariant.2 ∙ scan_step_lem w l.at c.next_token-t.result l.s k ∙ sym (ap (λ (x : Scan). scan x (rest_at w c.next_token-t.result.to)) c.scan_at-s.ensures),
    )

pub returns-in-Done : goal.returns-in-Done
unfolding formed scan is_done
returns-in-Done c =
    let l = c.loop-at in
    sym (ap is_done (l.invariant.2 ∙ ap (scan l.s) (nothing_left_lem _ _ c.loop-at-test.false) ∙ c.in-Done.is))

pub returns-in_default : goal.returns-in_default
unfolding formed scan is_done
returns-in_default c = go c.loop-at.s refl ∙ sym (ap is_done (c.loop-at.invariant.2 ∙ ap (scan c.loop-at.s) (nothing_left_lem _ _ c.loop-at-test.false)))
  where
    go : (s : Scan) → c.loop-at.s ≡ s → false ≡ is_done c.loop-at.s
    go (Expected d) e = sym (ap is_done e)
    go (After d) e = sym (ap is_done e)
    go Broken e = sym (ap is_done e)
    go Done e = absurd (c.in_default.not-Done e)
