-- `tally_lines::is_name_list` meets its contract: by steps over its fields.
use Rattle.base.specs.{arith, ap, ◌∙◌, ℕ}
use Rattle.model.specs.{all, is_label}
use Rattle.tally_lines.specs.{fields_at}
use Rattle.tally_lines.proofs.NetlistLineForms.{list_no, list_yes}
use Rattle.tally_lines.proofs.is_name_list.Goals as goal

pub returns-then-from-w : goal.returns-then-from-w
returns-then-from-w c =
    let a = c.args in
    list_no a.keyword.now a.b a.w.now (omega (arith, c.word-from.ensures))

pub returns : goal.returns
returns c =
    let a = c.args in
    c.all_labels.ensures
    ∙ ap (λ (k : ℕ). all (is_label a.b) (fields_at a.w.now k)) c.word-from.ensures
    ∙ list_yes a.keyword.now a.b a.w.now (omega (arith, c.word-from.ensures))
