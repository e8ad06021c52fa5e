-- `tally_counting::read_preamble` meets its contract: the three lines in order.
use Rattle.std.proofs.lemmas.Result.{err_from_is_err_and}
use Rattle.base.specs.{◌∷◌, [], length}
use Rattle.model.specs.{preamble}
use Rattle.tally_counting.specs.declared.Form.TheVariants.{Model, Inputs, Outputs}
use Rattle.tally_counting.specs.{form_test, lines_of}
use Rattle.tally_counting.proofs.ExpectedNetlistLines.{reached, stopped, then_on, then_off}
use Rattle.tally_counting.proofs.read_preamble.Goals as goal

pub returns : goal.returns
unfolding preamble form_test
returns c =
    let s = c.args.s.now in
    let a = reached s c.expected_line.ensures.0 c.expected_line.ensures.1 _ c.in_ok-a.was in
    let b = reached s c.expected_line-2.ensures.0 c.expected_line-2.ensures.1 _ c.in_ok-b.was in
    let two = then_on (length s) (form_test Model ∷ []) (form_test Inputs ∷ []) (lines_of s 0) _ a.0 b.0 in
    (then_on (length s) (form_test Model ∷ form_test Inputs ∷ []) (form_test Outputs ∷ []) (lines_of s 0) _ two c.expected_line-3.ensures.0, c.expected_line-3.ensures.1)

pub returns-in_err-a : goal.returns-in_err-a
unfolding preamble form_test
returns-in_err-a c =
    let s = c.args.s.now in
    let a = stopped s c.expected_line.ensures.0 c.expected_line.ensures.1 _ c.in_err-a.was in
    let p = err_from_is_err_and c.from_residual.result c.from_residual.ensures.1 in
    rw (p.1, p.2)
    (then_off (length s) (form_test Model ∷ []) (form_test Inputs ∷ form_test Outputs ∷ []) (lines_of s 0) a.0, a.1)

pub returns-in_err-b : goal.returns-in_err-b
unfolding preamble form_test
returns-in_err-b c =
    let s = c.args.s.now in
    let a = reached s c.expected_line.ensures.0 c.expected_line.ensures.1 _ c.in_ok-a.was in
    let b = stopped s c.expected_line-2.ensures.0 c.expected_line-2.ensures.1 _ c.in_err-b.was in
    let two = then_on (length s) (form_test Model ∷ []) (form_test Inputs ∷ []) (lines_of s 0) _ a.0 b.0 in
    let p = err_from_is_err_and c.from_residual-in_err-b.result c.from_residual-in_err-b.ensures.1 in
    rw (p.1, p.2)
    (then_off (length s) (form_test Model ∷ form_test Inputs ∷ []) (form_test Outputs ∷ []) (lines_of s 0) two, b.1)
