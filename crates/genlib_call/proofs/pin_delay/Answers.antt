-- `genlib_call::pin_delay` meets its contract.
use Rattle.base.specs.{sym, ◌∙◌, arith}
use Rattle.genlib_expression.specs.{name_at, names_at}
use Rattle.genlib_expression.proofs.{length-names, name_of_lem}
use Rattle.genlib_groups.specs.{lines_behind}
use Rattle.genlib_call.proofs.GateValidation.{pin-there, pin-absent}
use Rattle.genlib_call.proofs.pin_delay.Goals as goal

pub returns-then-j-p : goal.returns-then-j-p
returns-then-j-p c =
    let h = c.if-j-p.true in
    let a = c.args in
    let w = a.w.now in
    c.delay_named.ensures ∙ sym (pin-there (lines_behind a.s.now a.from) (names_at w a.p) a.j (name_at w a.p a.j) (omega (arith, length-names w a.p)) (name_of_lem w a.p a.j h))

pub returns-else-j-p : goal.returns-else-j-p
returns-else-j-p c =
    let a = c.args in
    let w = a.w.now in
    sym (pin-absent (lines_behind a.s.now a.from) (names_at w a.p) a.j (omega (arith, length-names w a.p, c.if-j-p.false)))
