-- `tally_lines::field` meets its contract: by the test of the field's bytes.
use Rattle.base.specs.{arith, sym, ◌∙◌}
use Rattle.tally_lines.specs.{kind_test}
use Rattle.tally_lines.proofs.FieldLaws.{end-span, field_fits, field_from}
use Rattle.tally_lines.proofs.NetlistLineForms.{step_past, step_takes, step_fails}
use Rattle.tally_lines.proofs.field.Goals as goal
use Rattle.tally_lines.proofs.field.Goals.{then-at-w-via-then-at-w, then-at-w-via-else-at-w+then-not-is_kind}

pub slice_bounds-is_kind-count : goal.slice_bounds-is_kind-count
slice_bounds-is_kind-count c =
    let a = c.args in
    omega (arith, c.span_end-end.ensures ∙ end-span a.w.now a.at, field_from a.w.now a.at)

pub slice_bounds-is_kind-start : goal.slice_bounds-is_kind-start
slice_bounds-is_kind-start c =
    let a = c.args in
    omega (arith, c.span_end-end.ensures ∙ end-span a.w.now a.at, field_from a.w.now a.at)

pub slice_bounds-is_kind-end : goal.slice_bounds-is_kind-end
slice_bounds-is_kind-end c =
    let a = c.args in
    omega (arith, c.span_end-end.ensures ∙ end-span a.w.now a.at, field_fits a.w.now a.at (omega arith))

pub overflow_add-result-2 : goal.overflow_add-result-2
overflow_add-result-2 c =
    let a = c.args in
    omega (arith, c.span_end-end.ensures ∙ end-span a.w.now a.at, field_fits a.w.now a.at (omega arith))

pub returns-then-at-w : goal.returns-then-at-w
returns-then-at-w c =
    let a = c.args in
    let e = c.span_end-end.ensures ∙ end-span a.w.now a.at in
    elim c.then-at-w.branch [
      | then-at-w-via-then-at-w y ↦ sym (step_past (kind_test a.kind) a.w.now a.at y.if-at-w.true)
      | then-at-w-via-else-at-w+then-not-is_kind y ↦
          step_fails (kind_test a.kind) a.w.now a.at y.if-at-w.false c.span_end-end.result e (sym y.is_kind.ensures ∙ y.if-not-is_kind.true)
    ]

pub returns : goal.returns
returns c =
    let a = c.args in
    let e = c.span_end-end.ensures ∙ end-span a.w.now a.at in
    step_takes (kind_test a.kind) a.w.now a.at c.if-at-w.false c.span_end-end.result e (sym c.is_kind.ensures ∙ c.if-not-is_kind.false)
