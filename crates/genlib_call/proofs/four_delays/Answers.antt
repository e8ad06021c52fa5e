-- `genlib_call::four_delays` meets its contract, delay by delay.
use Rattle.base.specs.{sym}
use Rattle.genlib_call.proofs.GateValidation.{four_is, none_0, none_1, none_2, none_3}
use Rattle.genlib_call.proofs.four_delays.Goals as goal

pub returns : goal.returns
returns c = sym (four_is _ _ _ _ _ _ (sym c.in_ok-d0.ensures) (sym c.in_ok-d1.ensures) (sym c.in_ok-d2.ensures) (sym c.in_ok-d3.ensures))

pub returns-in_err-d0 : goal.returns-in_err-d0
returns-in_err-d0 c = rw c.from_residual.ensures (sym (none_0 _ _ (sym c.in_err-d0.ensures)))

pub returns-in_err-d1 : goal.returns-in_err-d1
returns-in_err-d1 c = rw c.from_residual-in_err-d1.ensures (sym (none_1 _ _ _ (sym c.in_ok-d0.ensures) (sym c.in_err-d1.ensures)))

pub returns-in_err-d2 : goal.returns-in_err-d2
returns-in_err-d2 c = rw c.from_residual-in_err-d2.ensures (sym (none_2 _ _ _ _ (sym c.in_ok-d0.ensures) (sym c.in_ok-d1.ensures) (sym c.in_err-d2.ensures)))

pub returns-in_err-d3 : goal.returns-in_err-d3
returns-in_err-d3 c =
    rw c.from_residual-in_err-d3.ensures (sym (none_3 _ _ _ _ _ (sym c.in_ok-d0.ensures) (sym c.in_ok-d1.ensures) (sym c.in_ok-d2.ensures) (sym c.in_err-d3.ensures)))
