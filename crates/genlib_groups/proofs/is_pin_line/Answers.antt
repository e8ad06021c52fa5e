-- `genlib_groups::is_pin_line` meets its contract, by its tests.
use Rattle.base.specs.{sym, ap, ◌∙◌, eq-eqb, ne_eqb, ℕ, eqb}
use Rattle.model.specs.{all, is_figure, is_pin_line}
use Rattle.genlib_groups.proofs.is_pin_line.Goals as goal

pub returns-then-is_pin_head : goal.returns-then-is_pin_head
unfolding is_pin_line
returns-then-is_pin_head c =
    sym (rw (ap (λ (x : ℕ). eqb x 9) (sym c.count.ensures) ∙ eq-eqb _ _ c.if-count-eq9.true, sym c.is_pin_head.ensures ∙ c.if-is_pin_head.true)
    (ap (all is_figure) (sym c.nth-n.ensures.rest) ∙ sym c.all_figures.ensures))

pub returns-else-is_pin_head : goal.returns-else-is_pin_head
unfolding is_pin_line
returns-else-is_pin_head c =
    c.if-is_pin_head.false ∙ sym (rw (ap (λ (x : ℕ). eqb x 9) (sym c.count.ensures) ∙ eq-eqb _ _ c.if-count-eq9.true, sym c.is_pin_head.ensures ∙ c.if-is_pin_head.false))

pub returns-else-count-eq9 : goal.returns-else-count-eq9
unfolding is_pin_line
returns-else-count-eq9 c =
    let e = ne_eqb _ _ c.if-count-eq9.false in
    e ∙ sym (rw (ap (λ (x : ℕ). eqb x 9) (sym c.count.ensures) ∙ e))
