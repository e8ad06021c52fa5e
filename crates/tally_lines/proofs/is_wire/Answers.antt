-- `tally_lines::is_wire` meets its contract: by steps over its fields.
use Rattle.base.specs.{◌∷◌, [], ap, ◌∙◌}
use Rattle.model.specs.{same, text, is_wire, is_phase_net, is_label}
use Rattle.tally_lines.specs.{step_at, steps_at, kind_test}
use Rattle.tally_lines.proofs.NetlistLineForms.{line-is}
use Rattle.tally_lines.proofs.is_wire.Goals as goal

pub returns : goal.returns
unfolding is_wire steps_at kind_test text
returns c =
    let a = c.args in
    line-is (same (text ".names") ∷ is_phase_net ∷ is_label 111 ∷ []) a.w.now c.field-c.result
    (c.field-c.ensures ∙ ap (step_at (is_label 111) a.w.now) (c.field-b.ensures ∙ ap (step_at (is_phase_net) a.w.now) c.word-a.ensures))
