-- `genlib_expression::scan_at` meets its contract, by whether a token is there, and by the state.
use Rattle.base.specs.{refl, sym, ap, ◌∙◌, arith, get_or}
use Rattle.model.specs.declared.Scan.{Scan}
use Rattle.model.specs.{is_word}
use Rattle.genlib_expression.specs.{scan_step, part}
use Rattle.genlib_expression.proofs.ExpressionScan.{scan-one, scan-none}
use Rattle.genlib_expression.proofs.scan_at.Goals as goal

pub returns-then-t : goal.returns-then-t
returns-then-t c = let a = c.args in sym (scan-none a.w.now a.t a.s (omega arith))

pub returns-in-Expected : goal.returns-in-Expected
unfolding scan_step
returns-in-Expected c =
    let a = c.args in
    let b = get_or a.w.now a.t.from 0 in
    c.scan_expected.ensures
    ∙ sym (ap (λ (x : Scan). scan_step x b c.is_word.result) c.in-Expected.is)
    ∙ scan-one a.w.now a.t a.s (omega (arith, c.if-t.false)) c.requires.1 b c.is_word.result refl c.is_word.ensures

pub returns-in-After : goal.returns-in-After
unfolding scan_step
returns-in-After c =
    let a = c.args in
    let b = get_or a.w.now a.t.from 0 in
    let name = is_word (part a.w.now a.t.from a.t.to) in
    c.scan_after.ensures
    ∙ sym (ap (λ (x : Scan). scan_step x b name) c.in-After.is)
    ∙ scan-one a.w.now a.t a.s (omega (arith, c.if-t.false)) c.requires.1 b name refl refl

-- behind the `;`, and in a broken form
pub returns-in-Done : goal.returns-in-Done
unfolding scan_step
returns-in-Done c =
    let a = c.args in
    let b = get_or a.w.now a.t.from 0 in
    let name = is_word (part a.w.now a.t.from a.t.to) in
    sym (ap (λ (x : Scan). scan_step x b name) c.in-Done.is)
    ∙ scan-one a.w.now a.t a.s (omega (arith, c.if-t.false)) c.requires.1 b name refl refl

pub returns-in-Broken : goal.returns-in-Broken
unfolding scan_step
returns-in-Broken c =
    let a = c.args in
    let b = get_or a.w.now a.t.from 0 in
    let name = is_word (part a.w.now a.t.from a.t.to) in
    sym (ap (λ (x : Scan). scan_step x b name) c.in-Broken.is)
    ∙ scan-one a.w.now a.t a.s (omega (arith, c.if-t.false)) c.requires.1 b name refl refl
