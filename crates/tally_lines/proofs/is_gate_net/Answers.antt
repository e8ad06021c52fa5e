-- `tally_lines::is_gate_net` meets its contract: a phase's net, or one inside a pair.
use Rattle.base.specs.{sym, ◌∙◌}
use Rattle.tally_lines.proofs.FieldDigits.{gate-first, gate-second}
use Rattle.tally_lines.proofs.is_gate_net.Goals as goal

pub returns-else-is_phase_net : goal.returns-else-is_phase_net
returns-else-is_phase_net c = c.is_inner_net.ensures ∙ gate-second _ (sym c.is_phase_net.ensures ∙ c.if-is_phase_net.false)

pub returns-then-is_phase_net : goal.returns-then-is_phase_net
returns-then-is_phase_net c = c.if-is_phase_net.true ∙ gate-first _ (sym c.is_phase_net.ensures ∙ c.if-is_phase_net.true)
