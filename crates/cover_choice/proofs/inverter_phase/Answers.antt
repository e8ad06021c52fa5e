-- `cover_choice::inverter_phase` meets its contract: by whether there is something to feed the inverter.
use Rattle.base.specs.{sym, ap, ◌∙◌, Bool, cond, ◌+◌}
use Rattle.model.specs.{no_phase}
use Rattle.model.specs.declared.Source.TheVariants.{Inverter as Inverted}
use Rattle.cells_matching.specs.{inverted}
use Rattle.cover_choice.proofs.inverter_phase.Goals as goal

pub returns-then-is_absent : goal.returns-then-is_absent
unfolding inverted
returns-then-is_absent c =
    let a = c.args in
    c.nothing.ensures
    ∙ sym (ap (λ (b : Bool). cond b no_phase (record { source = Inverted a.line; arrival = a.from.arrival + a.d })) (sym c.is_absent.ensures ∙ c.if-is_absent.true))

pub returns : goal.returns
unfolding inverted
returns c =
    let a = c.args in
    rw c.from.ensures (sym (ap (λ (b : Bool). cond b no_phase (record { source = Inverted a.line; arrival = a.from.arrival + a.d })) (sym c.is_absent.ensures ∙ c.if-is_absent.false)))
