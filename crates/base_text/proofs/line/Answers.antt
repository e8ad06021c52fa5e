-- `base_text::line` meets its contract. The invariant: the line from here on stops where that from the start does; the measure is what is left of the text.
use Rattle.base.specs.{List, sym, ap, ◌∙◌, ℕ, ◌+◌, arith}
use Rattle.base_text.specs.{span_at}
use Rattle.base_text.proofs.SearchEnds.{search_ends}
use Rattle.base_text.proofs.TextWords.{end_fits}
use Rattle.base_text.proofs.Spans.{span_stop, span_out, span-step}
use Rattle.base_text.proofs.line.Goals as goal

pub overflow_add-result : goal.overflow_add-result
overflow_add-result c =
    omega (arith, c.ends_at-n.ensures, end_fits c.args.s.now c.loop-at.at (λ e. c.if-n-ne0.true (c.ends_at-n.ensures ∙ e)))

pub returns-then-n-ne0 : goal.returns-then-n-ne0
returns-then-n-ne0 c =
    let e = c.ends_at-n.ensures in
    sym (c.loop-at.invariant
    ∙ span_stop c.args.s.now c.loop-at.at (λ z. c.if-n-ne0.true (e ∙ z))
    ∙ ap (λ (k : ℕ). record { stop = c.loop-at.at; next = c.loop-at.at + k }) (sym e))

pub loop-at-preserved : goal.loop-at-preserved
loop-at-preserved c =
    c.loop-at.invariant ∙ span-step c.args.s.now c.loop-at.at c.loop-at-test.true (sym c.ends_at-n.ensures ∙ c.if-n-ne0.false)

pub returns : goal.returns
returns c =
    let s : List ℕ = c.args.s.now in
    sym (search_ends (span_at s) (λ e. record { stop = e; next = e }) _ _ _ (λ k h. span_out s k h) c.loop-at.invariant c.loop-at.auto.at-end c.loop-at-test.false _ c.max-end.ensures)
