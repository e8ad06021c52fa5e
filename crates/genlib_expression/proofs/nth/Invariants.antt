-- `genlib_expression::nth` meets its contract, by counting. The invariant: the token at hand is token i.
use Rattle.genlib_expression.specs.{Nth}
use Rattle.genlib_expression.proofs.nth.Given as goal

abbrev pub invariant-loop-i : goal.invariant-loop-i
invariant-loop-i l = Nth l.w l.i l.t
