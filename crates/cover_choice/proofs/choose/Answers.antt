-- `cover_choice::choose` meets its contract: the match table is that of the cells to map with, and the listed cells' inverter is theirs.
use Rattle.base.specs.{sym, ap, subst, ◌∙◌}
use Rattle.model.specs.{cells_of}
use Rattle.cells_pairs.specs.{cells_by}
use Rattle.cells_matching.proofs.{inverter_by}
use Rattle.cover_choice.specs.{chosen_up, ToolsIn, Unchosen}
use Rattle.cover_choice.proofs.choose.Goals as goal
use Rattle.cover_choice.proofs.choose.Goals.{After-inverter_of-inv}

-- the match table and the inverter
tools : (c : After-inverter_of-inv) → ToolsIn (cells_by (cells_of c.args.lib) c.args.ids.now) c.args.matches.now c.inverter_of-inv.result
tools c = record { built = c.requires.1; inverter = c.inverter_of-inv.ensures ∙ sym (inverter_by (cells_of c.args.lib) c.args.ids.now) }

pub choose_variables-requires : goal.choose_variables-requires
choose_variables-requires c =
    let a = c.args in (
      (cells_by (cells_of a.lib) a.ids.now, tools (goal.at.choose_variables-requires c).After-inverter_of-inv),
      subst (Unchosen a.work.now a.h.size) (sym c.ordered_count.ensures) c.requires.2,
    )

pub returns : goal.returns
returns c =
    let a = c.args in
    c.choose_variables.ensures (cells_by (cells_of a.lib) a.ids.now) (tools (goal.at.returns c).After-inverter_of-inv)
    ∙ ap (chosen_up (cells_by (cells_of a.lib) a.ids.now) a.work.now a.h.size) c.ordered_count.ensures
