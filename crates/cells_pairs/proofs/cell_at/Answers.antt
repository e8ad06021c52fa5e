-- `cells_pairs::cell_at` meets its contract: what is lent begins at the line's bytes.
use Rattle.base.specs.{ap, ◌∙◌, ◌+◌, ◌-◌, ◌*◌, arith, length, drop, length-drop, take_all}
use Rattle.cells_pairs.specs.{cell_from}
use Rattle.cells_pairs.proofs.cell_at.Goals as goal

pub returns : goal.returns
returns c =
    let at = 1 + 12 * c.args.k in
    c.cell_from.ensures ∙ ap cell_from (take_all (length c.args.records.now - at) (drop at c.args.records.now) (omega (arith, length-drop at c.args.records.now)))
