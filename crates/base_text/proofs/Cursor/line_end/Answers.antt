-- `base_text::Cursor::line_end` meets its contract: `ends_at` says how many bytes of the end stand there.
use Rattle.base.specs.{sym, ap, ◌∙◌, arith, ltb}
use Rattle.base_text.specs.{line_end_at}
use Rattle.base_text.proofs.TextWords.{some_end, end_fits}
use Rattle.base_text.proofs.Cursor.line_end.Goals as goal

pub overflow_add-result : goal.overflow_add-result
overflow_add-result c =
    let a = c.args in
    omega (arith, c.ends_at-n.ensures, end_fits a.s.now a.self.at (λ e. c.if-n-eq0.false (c.ends_at-n.ensures ∙ e)))

pub returns-then-n-eq0 : goal.returns-then-n-eq0
unfolding line_end_at
returns-then-n-eq0 c = rw (ap (ltb 0) (sym c.ends_at-n.ensures ∙ c.if-n-eq0.true))

pub returns : goal.returns
unfolding line_end_at
returns c = rw (some_end _ (λ e. c.if-n-eq0.false (c.ends_at-n.ensures ∙ e)), sym c.ends_at-n.ensures)
