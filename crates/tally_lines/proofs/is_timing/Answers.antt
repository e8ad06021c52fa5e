-- `tally_lines::is_timing` meets its contract: by steps over its fields.
use Rattle.base.specs.{◌∷◌, [], ap, ◌∙◌}
use Rattle.model.specs.{same, text, is_timing, are_digits, is_label}
use Rattle.tally_lines.specs.{step_at, steps_at, kind_test}
use Rattle.tally_lines.proofs.NetlistLineForms.{line-is}
use Rattle.tally_lines.proofs.is_timing.Goals as goal

pub returns : goal.returns
unfolding is_timing steps_at kind_test text
returns c =
    let a = c.args in
    line-is (same (text "#") ∷ same (text "timing") ∷ is_label 111 ∷ are_digits ∷ are_digits ∷ []) a.w.now c.field-e.result
    (c.field-e.ensures ∙ ap (step_at (are_digits) a.w.now) (c.field-d.ensures ∙ ap (step_at (are_digits) a.w.now) (c.field-c.ensures ∙ ap (step_at (is_label 111) a.w.now) (c.word-b.ensures ∙ ap (step_at (same (text "timing")) a.w.now) c.word-a.ensures))))
