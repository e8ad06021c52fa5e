-- `check_reader::expected_line` meets its contract: the line is missing, another, or there.
use Rattle.base.specs.{sym, ◌∙◌, ◌+◌, ◌≤◌, arith, length}
use Rattle.check_reader.proofs.ExpectedNetLines.{expected-missing, expected_other, expected_fine, expected-inside}
use Rattle.check_reader.proofs.expected_line.Goals as goal

pub returns-then-at-s : goal.returns-then-at-s
returns-then-at-s c = let a = c.args in expected-missing a.s.now a.w.now a.at c.if-at-s.true

pub returns-then-not-is_line : goal.returns-then-not-is_line
returns-then-not-is_line c =
    let a = c.args in
    expected_other a.s.now a.w.now a.at c.if-at-s.false (sym c.is_line.ensures ∙ c.if-not-is_line.true)

pub overflow_add-result : goal.overflow_add-result
overflow_add-result c =
    let a = c.args in
    let fits : a.at + length a.w.now ≤ length a.s.now = expected-inside a.s.now a.w.now a.at c.if-at-s.false (sym c.is_line.ensures ∙ c.if-not-is_line.false) in
    omega (arith, c.requires)

pub overflow_add-result-2 : goal.overflow_add-result-2
overflow_add-result-2 c =
    let a = c.args in
    let fits : a.at + length a.w.now ≤ length a.s.now = expected-inside a.s.now a.w.now a.at c.if-at-s.false (sym c.is_line.ensures ∙ c.if-not-is_line.false) in
    omega (arith, c.requires)

pub returns : goal.returns
returns c =
    let a = c.args in
    expected_fine a.s.now a.w.now a.at c.if-at-s.false (sym c.is_line.ensures ∙ c.if-not-is_line.false)
