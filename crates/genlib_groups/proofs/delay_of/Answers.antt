-- `genlib_groups::delay_of` meets its contract, by its two figures.
use Rattle.base.specs.{sym, ap, Some}
use Rattle.model.specs.{delay_of, and_then}
use Rattle.genlib_groups.proofs.delay_of.Goals as goal

pub returns : goal.returns
unfolding delay_of and_then
returns c = rw (sym c.in_ok-rise.ensures, sym c.in_ok-fall.ensures) (ap Some c.max.ensures)

pub returns-in_err-rise : goal.returns-in_err-rise
unfolding delay_of and_then
returns-in_err-rise c = rw (c.from_residual.ensures, sym c.in_err-rise.ensures)

pub returns-in_err-fall : goal.returns-in_err-fall
unfolding delay_of and_then
returns-in_err-fall c = rw (c.from_residual-in_err-fall.ensures, sym c.in_ok-rise.ensures, sym c.in_err-fall.ensures)
