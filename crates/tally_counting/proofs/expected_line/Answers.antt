-- `tally_counting::expected_line` meets its contract: by the line at the place.
use Rattle.base.specs.{arith, sym, ◌∙◌, ◌-◌}
use Rattle.tally_counting.specs.{form_test}
use Rattle.tally_counting.proofs.ExpectedNetlistLines.{ten-line, span_bounds, part-short, expected-yes, expected_no, expected_out}
use Rattle.tally_counting.proofs.expected_line.Goals as goal
use Rattle.tally_counting.proofs.expected_line.Goals.{then-next-stop-via-then-next-stop, then-next-stop-via-else-next-stop+then-not-has_form}

pub overflow_add-stop : goal.overflow_add-stop
overflow_add-stop c = omega (arith, span_bounds c.args.s.now c.args.at (omega arith) c.line-l.result c.line-l.ensures)

pub slice_bounds-has_form-count : goal.slice_bounds-has_form-count
slice_bounds-has_form-count c = omega (arith, span_bounds c.args.s.now c.args.at (omega arith) c.line-l.result c.line-l.ensures)

pub slice_bounds-has_form-start : goal.slice_bounds-has_form-start
slice_bounds-has_form-start c = omega (arith, span_bounds c.args.s.now c.args.at (omega arith) c.line-l.result c.line-l.ensures)

pub slice_bounds-has_form-end : goal.slice_bounds-has_form-end
slice_bounds-has_form-end c = omega (arith, span_bounds c.args.s.now c.args.at (omega arith) c.line-l.result c.line-l.ensures)

pub has_form-requires : goal.has_form-requires
has_form-requires c = omega (arith, part-short (c.line-l.result.stop - c.args.at) c.args.at c.args.s.now)

pub returns-then-next-stop : goal.returns-then-next-stop
returns-then-next-stop c =
    let a = c.args in
    let s = a.s.now in
    let l = c.line-l in
    let f = form_test a.form in
    elim c.then-next-stop.branch [
      | then-next-stop-via-then-next-stop y ↦ (expected_out s a.at (omega arith) l.result l.ensures f y.if-next-stop.true, omega arith)
      | then-next-stop-via-else-next-stop+then-not-has_form y ↦
          let ten = ten-line s a.at (omega arith) l.result l.ensures y.if-next-stop.false in
          (expected_no s a.at (omega arith) l.result l.ensures f ten (sym y.has_form.ensures ∙ y.if-not-has_form.true), omega arith)
    ]

pub returns : goal.returns
returns c =
    let a = c.args in
    let s = a.s.now in
    let l = c.line-l in
    let f = form_test a.form in
    let ten = ten-line s a.at (omega arith) l.result l.ensures c.if-next-stop.false in
    (expected-yes s a.at (omega arith) l.result l.ensures f ten (sym c.has_form.ensures ∙ c.if-not-has_form.false), ten.within)
