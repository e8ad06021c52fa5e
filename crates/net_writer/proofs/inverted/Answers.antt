-- `net_writer::inverted` meets its contract.
use Rattle.base.specs.{◌∷◌, [], sym, subst, ◌∙◌, ◌*◌}
use Rattle.model.specs.{opposite}
use Rattle.cells_pairs.specs.{line_cell}
use Rattle.net_gates.specs.{one_driver, Drives}
use Rattle.net_gates.specs.declared.Driver.{Driver}
use Rattle.net_gates.proofs.{drives-inverted}
use Rattle.net_writer.specs.{inverted_gates}
use Rattle.net_writer.proofs.inverted.Goals as goal

pub returns : goal.returns
unfolding inverted_gates
returns c =
    let a = c.args in
    let made = c.one_gate.ensures ∙ (λ i. one_driver (c.cell_at-cell.ensures i) (2 * c.opposite-fed.ensures.0 i ∷ 0 ∷ 0 ∷ 0 ∷ []) 1 a.l) in
    subst (λ (d : Driver). Drives d (inverted_gates a.records.now a.l a.i)) (sym made) (drives-inverted (line_cell a.records.now a.i) (opposite a.l) a.l)
