-- `genlib_groups::has_line` meets its contract, by whether the token is a pin.
use Rattle.base.specs.{sym, ap, ◌∙◌, not}
use Rattle.genlib_groups.specs.{pin_has, lines_behind}
use Rattle.genlib_groups.proofs.GroupReading.{has-found}
use Rattle.genlib_groups.proofs.has_line.Goals as goal

pub returns-then-not-is_pin : goal.returns-then-not-is_pin
unfolding pin_has
returns-then-not-is_pin c = ap not c.if-not-is_pin.true ∙ sym (rw (sym c.is_pin.ensures ∙ c.if-not-is_pin.true))

pub returns-else-not-is_pin : goal.returns-else-not-is_pin
unfolding pin_has
returns-else-not-is_pin c =
    let a = c.args in
    c.is_some.ensures ∙ sym (rw (sym c.is_pin.ensures ∙ c.if-not-is_pin.false) (has-found (lines_behind a.s.now a.from) a.t.now a.s.now c.find_line.result c.find_line.ensures.found))
