-- `tally_counting::read_wires` meets its contract. The invariant: what is expected from here on is what is left of all that is expected.
use Rattle.std.proofs.lemmas.Result.{err_from_is_err_and}
use Rattle.base.specs.{sym, ap, ◌∙◌, Bool, List, ℕ, ◌∷◌, [], ◌+◌, ◌-◌, length}
use Rattle.model.specs.{expected_lines}
use Rattle.tally_counting.specs.declared.Form.TheVariants.{Wire, One}
use Rattle.tally_counting.specs.{form_test, lines_of}
use Rattle.tally_counting.proofs.ExpectedNetlistLines.{reached, stopped, past_on, then_on, then_off, pairs_from, wires_all, wires_more, wires_none}
use Rattle.tally_counting.proofs.read_wires.Goals as goal

pub loop-k-init : goal.loop-k-init
loop-k-init c =
    let a = c.args in
    let s = a.s.now in
    (c.requires.0, ap (λ (ps : List (List ℕ → Bool)). expected_lines (length s) ps (lines_of s a.from)) (wires_all a.outs))

pub loop-k-preserved : goal.loop-k-preserved
unfolding form_test
loop-k-preserved c =
    let s = c.args.s.now in
    let p = c.loop-k in
    let a = reached s c.expected_line.ensures.0 c.expected_line.ensures.1 _ c.in_ok-second.was in
    let b = reached s c.expected_line-in-loop-k.ensures.0 c.expected_line-in-loop-k.ensures.1 _ c.in_ok-at.was in
    let two = then_on (length s) (form_test Wire ∷ []) (form_test One ∷ []) (lines_of s p.at) _ a.0 b.0 in (
      b.1,
      p.invariant.1 ∙ ap (λ (ps : List (List ℕ → Bool)). expected_lines (length s) ps (lines_of s p.at)) (wires_more p.k c.args.outs c.loop-k-test.true)
          ∙ past_on (length s) (form_test Wire ∷ form_test One ∷ []) (pairs_from (p.k + 1) (c.args.outs - (p.k + 1))) (lines_of s p.at) _ two,
    )

pub returns-in_err-second : goal.returns-in_err-second
unfolding form_test
returns-in_err-second c =
    let s = c.args.s.now in
    let p = c.loop-k in
    let a = stopped s c.expected_line.ensures.0 c.expected_line.ensures.1 _ c.in_err-second.was in
    let e = err_from_is_err_and c.from_residual.result c.from_residual.ensures.1 in
    rw (e.1, e.2) (
      then_off (length s) (form_test Wire ∷ []) (form_test One ∷ pairs_from (p.k + 1) (c.args.outs - (p.k + 1))) (lines_of s p.at) a.0
          ∙ sym (p.invariant.1 ∙ ap (λ (ps : List (List ℕ → Bool)). expected_lines (length s) ps (lines_of s p.at)) (wires_more p.k c.args.outs c.loop-k-test.true)),
      a.1,
    )

pub returns-in_err-at : goal.returns-in_err-at
unfolding form_test
returns-in_err-at c =
    let s = c.args.s.now in
    let p = c.loop-k in
    let a = reached s c.expected_line.ensures.0 c.expected_line.ensures.1 _ c.in_ok-second.was in
    let b = stopped s c.expected_line-in-loop-k.ensures.0 c.expected_line-in-loop-k.ensures.1 _ c.in_err-at.was in
    let two = then_on (length s) (form_test Wire ∷ []) (form_test One ∷ []) (lines_of s p.at) _ a.0 b.0 in
    let e = err_from_is_err_and c.from_residual-in_err-at.result c.from_residual-in_err-at.ensures.1 in
    rw (e.1, e.2) (
      then_off (length s) (form_test Wire ∷ form_test One ∷ []) (pairs_from (p.k + 1) (c.args.outs - (p.k + 1))) (lines_of s p.at) two
          ∙ sym (p.invariant.1 ∙ ap (λ (ps : List (List ℕ → Bool)). expected_lines (length s) ps (lines_of s p.at)) (wires_more p.k c.args.outs c.loop-k-test.true)),
      b.1,
    )

pub returns : goal.returns
unfolding expected_lines
returns c =
    let s = c.args.s.now in
    let p = c.loop-k in
    (sym (p.invariant.1 ∙ ap (λ (ps : List (List ℕ → Bool)). expected_lines (length s) ps (lines_of s p.at)) (wires_none p.k c.args.outs c.loop-k-test.false)), p.invariant.0)
