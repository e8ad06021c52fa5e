-- `genlib_groups::is_group` meets its contract, by its tests.
use Rattle.base.specs.{sym, ap, ◌∙◌}
use Rattle.model.specs.{all}
use Rattle.genlib_groups.specs.{group_is}
use Rattle.genlib_groups.proofs.is_group.Goals as goal

pub returns-then-all_pin_lines : goal.returns-then-all_pin_lines
unfolding group_is
returns-then-all_pin_lines c =
    sym (rw (sym c.is_gate.ensures ∙ c.if-is_gate.true, sym c.all_pin_lines.ensures ∙ c.if-all_pin_lines.true)
    (ap (all _) (sym c.nth-n.ensures.rest) ∙ sym c.all_have_lines.ensures))

pub returns-else-all_pin_lines : goal.returns-else-all_pin_lines
unfolding group_is
returns-else-all_pin_lines c =
    c.if-all_pin_lines.false ∙ sym (rw (sym c.is_gate.ensures ∙ c.if-is_gate.true, sym c.all_pin_lines.ensures ∙ c.if-all_pin_lines.false))

pub returns-else-is_gate : goal.returns-else-is_gate
unfolding group_is
returns-else-is_gate c = c.if-is_gate.false ∙ sym (rw (sym c.is_gate.ensures ∙ c.if-is_gate.false))
