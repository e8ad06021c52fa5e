-- `tally_counting::read_behind` meets its contract: in the order of the lines.
use Rattle.std.proofs.lemmas.Result.{err_from_is_err_and}
use Rattle.base.specs.{◌∷◌, [], length}
use Rattle.model.specs.{wire_pairs, timings, behind_gates}
use Rattle.tally_counting.specs.declared.Form.TheVariants.{End, Figures}
use Rattle.tally_counting.specs.{form_test}
use Rattle.tally_counting.proofs.ExpectedNetlistLines.{reached, stopped, then_on, then_off, end-yes, end_no, end_off}
use Rattle.tally_counting.proofs.read_behind.Goals as goal

pub returns-in_err-a : goal.returns-in_err-a
unfolding behind_gates form_test
returns-in_err-a c =
    let x = c.args in
    let s = x.s.now in
    let figures = form_test (Figures x.gates x.area) in
    let a = stopped s c.read_wires.ensures.0 c.read_wires.ensures.1 _ c.in_err-a.was in
    let p = err_from_is_err_and c.from_residual.result c.from_residual.ensures.1 in
    rw (p.1, p.2)
    (end_off _ (then_off (length s) (wire_pairs x.outs) (form_test End ∷ figures ∷ timings x.ranged x.outs) _ a.0), a.1)

pub returns-in_err-b : goal.returns-in_err-b
unfolding behind_gates form_test
returns-in_err-b c =
    let x = c.args in
    let s = x.s.now in
    let figures = form_test (Figures x.gates x.area) in
    let a = reached s c.read_wires.ensures.0 c.read_wires.ensures.1 _ c.in_ok-a.was in
    let b = stopped s c.expected_line.ensures.0 c.expected_line.ensures.1 _ c.in_err-b.was in
    let p = err_from_is_err_and c.from_residual-in_err-b.result c.from_residual-in_err-b.ensures.1 in
    rw (p.1, p.2)
    (end_off _ (then_on (length s) (wire_pairs x.outs) (form_test End ∷ figures ∷ timings x.ranged x.outs) _ _ a.0 (then_off (length s) (form_test End ∷ []) (figures ∷ timings x.ranged x.outs) _ b.0)), b.1)

pub returns-in_err-c : goal.returns-in_err-c
unfolding behind_gates form_test
returns-in_err-c c =
    let x = c.args in
    let s = x.s.now in
    let figures = form_test (Figures x.gates x.area) in
    let a = reached s c.read_wires.ensures.0 c.read_wires.ensures.1 _ c.in_ok-a.was in
    let b = reached s c.expected_line.ensures.0 c.expected_line.ensures.1 _ c.in_ok-b.was in
    let d = stopped s c.expected_line-2.ensures.0 c.expected_line-2.ensures.1 _ c.in_err-c.was in
    let p = err_from_is_err_and c.from_residual-in_err-c.result c.from_residual-in_err-c.ensures.1 in
    rw (p.1, p.2)
    (end_off _ (then_on (length s) (wire_pairs x.outs) (form_test End ∷ figures ∷ timings x.ranged x.outs) _ _ a.0 (then_on (length s) (form_test End ∷ []) (figures ∷ timings x.ranged x.outs) _ _ b.0 (then_off (length s) (figures ∷ []) (timings x.ranged x.outs) _ d.0))), d.1)

pub returns-in_err-end : goal.returns-in_err-end
unfolding behind_gates form_test
returns-in_err-end c =
    let x = c.args in
    let s = x.s.now in
    let figures = form_test (Figures x.gates x.area) in
    let a = reached s c.read_wires.ensures.0 c.read_wires.ensures.1 _ c.in_ok-a.was in
    let b = reached s c.expected_line.ensures.0 c.expected_line.ensures.1 _ c.in_ok-b.was in
    let d = reached s c.expected_line-2.ensures.0 c.expected_line-2.ensures.1 _ c.in_ok-c.was in
    let e = stopped s c.read_timings.ensures.0 c.read_timings.ensures.1 _ c.in_err-end.was in
    let p = err_from_is_err_and c.from_residual-in_err-end.result c.from_residual-in_err-end.ensures.1 in
    rw (p.1, p.2)
    (end_off _ (then_on (length s) (wire_pairs x.outs) (form_test End ∷ figures ∷ timings x.ranged x.outs) _ _ a.0 (then_on (length s) (form_test End ∷ []) (figures ∷ timings x.ranged x.outs) _ _ b.0 (then_on (length s) (figures ∷ []) (timings x.ranged x.outs) _ _ d.0 e.0))), e.1)

pub returns-then-end-s : goal.returns-then-end-s
unfolding behind_gates form_test
returns-then-end-s c =
    let x = c.args in
    let s = x.s.now in
    let figures = form_test (Figures x.gates x.area) in
    let a = reached s c.read_wires.ensures.0 c.read_wires.ensures.1 _ c.in_ok-a.was in
    let b = reached s c.expected_line.ensures.0 c.expected_line.ensures.1 _ c.in_ok-b.was in
    let d = reached s c.expected_line-2.ensures.0 c.expected_line-2.ensures.1 _ c.in_ok-c.was in
    let e = reached s c.read_timings.ensures.0 c.read_timings.ensures.1 _ c.in_ok-end.was in
    (end_no s _ c.if-end-s.true (then_on (length s) (wire_pairs x.outs) (form_test End ∷ figures ∷ timings x.ranged x.outs) _ _ a.0 (then_on (length s) (form_test End ∷ []) (figures ∷ timings x.ranged x.outs) _ _ b.0 (then_on (length s) (figures ∷ []) (timings x.ranged x.outs) _ _ d.0 e.0))), e.1)

pub returns : goal.returns
unfolding behind_gates form_test
returns c =
    let x = c.args in
    let s = x.s.now in
    let figures = form_test (Figures x.gates x.area) in
    let a = reached s c.read_wires.ensures.0 c.read_wires.ensures.1 _ c.in_ok-a.was in
    let b = reached s c.expected_line.ensures.0 c.expected_line.ensures.1 _ c.in_ok-b.was in
    let d = reached s c.expected_line-2.ensures.0 c.expected_line-2.ensures.1 _ c.in_ok-c.was in
    let e = reached s c.read_timings.ensures.0 c.read_timings.ensures.1 _ c.in_ok-end.was in
    (end-yes s _ c.if-end-s.false (then_on (length s) (wire_pairs x.outs) (form_test End ∷ figures ∷ timings x.ranged x.outs) _ _ a.0 (then_on (length s) (form_test End ∷ []) (figures ∷ timings x.ranged x.outs) _ _ b.0 (then_on (length s) (figures ∷ []) (timings x.ranged x.outs) _ _ d.0 e.0))), e.1)
