-- `genlib_expression::nth` meets its contract, by counting. The invariant: the token at hand is token i.
use Rattle.base.specs.{subst, ℕ, arith}
use Rattle.genlib_expression.specs.{Nth}
use Rattle.genlib_expression.proofs.ExpressionWalk.{nth_first, nth_next}
use Rattle.genlib_expression.proofs.nth.Goals as goal

pub loop-i-init : goal.loop-i-init
loop-i-init c = nth_first _ _ c.next_token-t.ensures

pub loop-i-preserved : goal.loop-i-preserved
loop-i-preserved c = nth_next _ _ _ _ c.loop-i.invariant c.next_token-t-in-loop-i.ensures

pub returns : goal.returns
returns c = let l = c.loop-i in subst (λ (i : ℕ). Nth c.args.w.now i l.t) {x = l.i} (omega arith) l.invariant
