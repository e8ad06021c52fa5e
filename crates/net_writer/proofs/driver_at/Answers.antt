-- `net_writer::driver_at` meets its contract.
use Rattle.base.specs.{sym, ap, subst, ◌∙◌, List}
use Rattle.model.specs.declared.Phase.{Phase}
use Rattle.model.specs.{Gate}
use Rattle.net_gates.specs.{Drives, no_driver}
use Rattle.net_gates.proofs.{nothing_drives}
use Rattle.net_writer.specs.{SourceReady, gate_by}
use Rattle.net_writer.proofs.NetlistLength.{gate-needed, gate_idle}
use Rattle.net_writer.proofs.driver_at.Goals as goal

pub driver_of-requires : goal.driver_of-requires
driver_of-requires c = (c.requires.0.capacity, c.requires.1, subst (λ (p : Phase). SourceReady c.args.records.now p.source) (sym c.phase-p.ensures) (c.requires.0.sources c.args.l c.requires.1))

pub returns-then-is_needed : goal.returns-then-is_needed
returns-then-is_needed c =
    let a = c.args in
    let needed = sym c.is_needed.ensures ∙ c.if-is_needed.true in
    subst (λ (ts : List Gate). Drives c.driver_of.result ts)
    (ap (λ (p : Phase). gate_by a.work.now a.records.now a.m a.l p.source) c.phase-p.ensures ∙ sym (gate-needed a.work.now a.records.now a.m a.l needed))
    c.driver_of.ensures

pub returns-else-is_needed : goal.returns-else-is_needed
returns-else-is_needed c =
    let a = c.args in
    let idle = sym c.is_needed.ensures ∙ c.if-is_needed.false in
    subst (λ (ts : List Gate). Drives no_driver ts) (sym (gate_idle a.work.now a.records.now a.m a.l idle)) nothing_drives
