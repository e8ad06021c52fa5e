-- `tally_counting::add_netlist` meets its contract: the counts in all places, and one netlist more.
use Rattle.base.specs.{ap, ◌+◌}
use Rattle.model.specs.declared.Tally.{Tally}
use Rattle.tally_counting.proofs.add_netlist.Goals as goal

pub returns : goal.returns
returns c = ap (λ (x : Tally). record { gates = x.gates; areas = x.areas; occurs = x.occurs; netlists = x.netlists + 1 }) c.add_counts.ensures
