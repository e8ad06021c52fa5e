-- `net_writer::driver_of` meets its contract: in each arm the source is known to be that arm's variant.
use Rattle.base.specs.{sym, subst, arith}
use Rattle.model.specs.declared.Source.{Source}
use Rattle.net_gates.specs.{Drives, no_driver}
use Rattle.net_gates.proofs.{nothing_drives}
use Rattle.net_writer.specs.{SourceReady, gate_by}
use Rattle.net_writer.proofs.driver_of.Goals as goal

pub matched-requires : goal.matched-requires
matched-requires c = (c.requires.0, c.requires.1, subst (SourceReady c.args.records.now) c.in-Cell.is c.requires.2)

pub inverted-requires : goal.inverted-requires
inverted-requires c = (omega (arith, c.requires.0.small, c.requires.1), subst (SourceReady c.args.records.now) c.in-Inverter.is c.requires.2)

pub returns-in-Input : goal.returns-in-Input
unfolding gate_by
returns-in-Input c = let a = c.args in subst (λ (s : Source). Drives no_driver (gate_by a.work.now a.records.now a.m a.l s)) (sym c.in-Input.is) nothing_drives

pub returns-in-Cell : goal.returns-in-Cell
unfolding gate_by
returns-in-Cell c = let a = c.args in subst (λ (s : Source). Drives c.matched.result (gate_by a.work.now a.records.now a.m a.l s)) (sym c.in-Cell.is) c.matched.ensures

pub returns-in-Inverter : goal.returns-in-Inverter
unfolding gate_by
returns-in-Inverter c = let a = c.args in subst (λ (s : Source). Drives c.inverted.result (gate_by a.work.now a.records.now a.m a.l s)) (sym c.in-Inverter.is) c.inverted.ensures

pub returns-in-Nothing : goal.returns-in-Nothing
unfolding gate_by
returns-in-Nothing c = let a = c.args in subst (λ (s : Source). Drives no_driver (gate_by a.work.now a.records.now a.m a.l s)) (sym c.in-Nothing.is) nothing_drives
