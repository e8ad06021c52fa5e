-- `cover_choice::invert` meets its contract: by whether the library has an inverter.
use Rattle.base.specs.{sym, ap, ◌∙◌}
use Rattle.cells_matching.specs.{Inverter, inverted}
use Rattle.cover_choice.proofs.invert.Goals as goal

pub returns-in-Some : goal.returns-in-Some
returns-in-Some c = let a = c.args in c.inverter_phase.ensures ∙ sym (ap (λ (i : Inverter). inverted i a.from) c.in-Some.is)

pub returns-in-None : goal.returns-in-None
unfolding inverted
returns-in-None c = let a = c.args in c.nothing.ensures ∙ sym (ap (λ (i : Inverter). inverted i a.from) c.in-None.is)
