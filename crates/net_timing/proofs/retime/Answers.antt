-- `net_timing::retime` meets its contract: both tables are of the cells to map with.
use Rattle.base.specs.{sym, ap, subst, ◌∙◌}
use Rattle.model.specs.{cells_of}
use Rattle.cells_pairs.specs.{cells_by}
use Rattle.cover_choice.specs.{SlotsIn}
use Rattle.net_timing.specs.{retimed_up}
use Rattle.net_timing.proofs.retime.Goals as goal

pub retime_variables-requires : goal.retime_variables-requires
retime_variables-requires c =
    let a = c.args in (
      (cells_by (cells_of a.lib) a.ids.now, c.requires.1, c.pin_counts-pins.ensures, c.min_delay_table-mins.ensures),
      subst (SlotsIn a.work.now a.h.size) (sym c.ordered_count.ensures) c.requires.2,
    )

pub returns : goal.returns
returns c =
    let a = c.args in
    c.retime_variables.ensures (cells_by (cells_of a.lib) a.ids.now) c.requires.1 c.pin_counts-pins.ensures c.min_delay_table-mins.ensures
    ∙ ap (retimed_up (cells_by (cells_of a.lib) a.ids.now) a.work.now a.h.size) c.ordered_count.ensures
