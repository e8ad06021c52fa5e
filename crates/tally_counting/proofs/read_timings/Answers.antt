-- `tally_counting::read_timings` meets its contract. The invariant: what is expected from here on is what is left of all that is expected.
use Rattle.std.proofs.lemmas.Result.{err_from_is_err_and}
use Rattle.base.specs.{◌≡◌, arith, sym, ap, ◌∙◌, Bool, cond, List, ℕ, ◌∷◌, [], ◌+◌, ◌-◌, length}
use Rattle.model.specs.{expected_lines}
use Rattle.tally_counting.specs.declared.Form.TheVariants.{Timing}
use Rattle.tally_counting.specs.{form_test, lines_of}
use Rattle.tally_counting.proofs.ExpectedNetlistLines.{reached, stopped, past_on, then_off, times_from, times_all, times_more, times_none, count_yes, count_no}
use Rattle.tally_counting.proofs.read_timings.Goals as goal
use Rattle.tally_counting.proofs.read_timings.Goals.{then-ranged, else-ranged}

pub loop-k-init : goal.loop-k-init
loop-k-init c =
    let a = c.args in
    let s = a.s.now in
    let n : c.if-ranged.n ≡ cond a.ranged a.outs 0 = elim c.if-ranged.branch [
      | then-ranged y ↦ count_yes a.ranged a.outs c.if-ranged.n y.if-ranged.true (omega arith)
      | else-ranged y ↦ count_no a.ranged a.outs c.if-ranged.n y.if-ranged.false (omega arith)
    ] in
    (c.requires.0, ap (λ (ps : List (List ℕ → Bool)). expected_lines (length s) ps (lines_of s a.from)) (times_all a.ranged a.outs c.if-ranged.n n))

pub loop-k-preserved : goal.loop-k-preserved
unfolding form_test
loop-k-preserved c =
    let s = c.args.s.now in
    let p = c.loop-k in
    let n = c.if-ranged.n in
    let a = reached s c.expected_line.ensures.0 c.expected_line.ensures.1 _ c.in_ok-at.was in (
      a.1,
      p.invariant.1 ∙ ap (λ (ps : List (List ℕ → Bool)). expected_lines (length s) ps (lines_of s p.at)) (times_more p.k n c.loop-k-test.true)
          ∙ past_on (length s) (form_test Timing ∷ []) (times_from (p.k + 1) (n - (p.k + 1))) (lines_of s p.at) _ a.0,
    )

pub returns-in_err-at : goal.returns-in_err-at
unfolding form_test
returns-in_err-at c =
    let s = c.args.s.now in
    let p = c.loop-k in
    let n = c.if-ranged.n in
    let a = stopped s c.expected_line.ensures.0 c.expected_line.ensures.1 _ c.in_err-at.was in
    let e = err_from_is_err_and c.from_residual.result c.from_residual.ensures.1 in
    rw (e.1, e.2) (
      then_off (length s) (form_test Timing ∷ []) (times_from (p.k + 1) (n - (p.k + 1))) (lines_of s p.at) a.0
          ∙ sym (p.invariant.1 ∙ ap (λ (ps : List (List ℕ → Bool)). expected_lines (length s) ps (lines_of s p.at)) (times_more p.k n c.loop-k-test.true)),
      a.1,
    )

pub returns : goal.returns
unfolding expected_lines
returns c =
    let s = c.args.s.now in
    let p = c.loop-k in
    (sym (p.invariant.1 ∙ ap (λ (ps : List (List ℕ → Bool)). expected_lines (length s) ps (lines_of s p.at)) (times_none p.k c.if-ranged.n c.loop-k-test.false)), p.invariant.0)
