-- `net_writer::is_gate` meets its contract.
use Rattle.base.specs.{sym, ap, ◌∙◌}
use Rattle.model.specs.declared.Phase.{Phase}
use Rattle.base_words.specs.{makes_gate}
use Rattle.net_writer.proofs.GateWalk.{is-gate-needed, is-gate_idle}
use Rattle.net_writer.proofs.is_gate.Goals as goal

pub returns-then-is_needed : goal.returns-then-is_needed
returns-then-is_needed c =
    let a = c.args in
    let needed = sym c.is_needed.ensures ∙ c.if-is_needed.true in
    c.makes_gate.ensures ∙ ap (λ (p : Phase). makes_gate p.source) c.phase.ensures ∙ sym (is-gate-needed a.work.now a.m a.l needed)

pub returns-else-is_needed : goal.returns-else-is_needed
returns-else-is_needed c =
    let a = c.args in
    let idle = sym c.is_needed.ensures ∙ c.if-is_needed.false in
    c.if-is_needed.false ∙ sym (is-gate_idle a.work.now a.m a.l idle)
