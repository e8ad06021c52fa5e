-- `tally_lines::is_figures` meets its contract: by steps over its fields.
use Rattle.base.specs.{◌∷◌, [], ap, ◌∙◌}
use Rattle.model.specs.{same, text, decimal, is_figures, are_digits}
use Rattle.tally_lines.specs.{step_at, steps_at, kind_test}
use Rattle.tally_lines.proofs.NetlistLineForms.{line-is}
use Rattle.tally_lines.proofs.is_figures.Goals as goal

pub returns : goal.returns
unfolding is_figures steps_at kind_test text
returns c =
    let a = c.args in
    let w = a.w.now in
    line-is (same (text "#") ∷ same (text "gates") ∷ same (decimal a.gates) ∷ same (text "area") ∷ same (decimal a.area) ∷ same (text "arrival") ∷ are_digits ∷ []) w c.field-g.result
    (c.field-g.ensures
    ∙ ap (step_at are_digits w) (c.word-f.ensures
    ∙ ap (step_at (same (text "arrival")) w) (c.field-e.ensures
    ∙ ap (step_at (same (decimal a.area)) w) (c.word-d.ensures
    ∙ ap (step_at (same (text "area")) w) (c.field-c.ensures
    ∙ ap (step_at (same (decimal a.gates)) w) (c.word-b.ensures
    ∙ ap (step_at (same (text "gates")) w) c.word-a.ensures))))))
