-- `cover_choice::input_source` meets its contract: when the input arrives.
use Rattle.base.specs.{ap, ℕ}
use Rattle.model.specs.declared.Source.TheVariants.{Input}
use Rattle.cover_choice.specs.{input_phase}
use Rattle.cover_choice.proofs.input_source.Goals as goal

pub returns : goal.returns
unfolding input_phase
returns c = (ap (λ (t : ℕ). record { source = Input; arrival = t }) c.input_arrival.ensures, c.nothing-negative.ensures)
