-- `net_writer::output_arrival` meets its contract.
use Rattle.base.specs.{ap, ◌∙◌}
use Rattle.model.specs.declared.Phase.{Phase}
use Rattle.base_words.specs.{phase_at}
use Rattle.net_writer.proofs.output_arrival.Goals as goal

pub returns : goal.returns
returns c = ap (λ (p : Phase). p.arrival) (c.phase-p.ensures ∙ ap (phase_at c.args.work.now c.args.m) c.output-l.ensures)
