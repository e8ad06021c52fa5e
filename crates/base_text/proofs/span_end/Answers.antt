-- `base_text::span_end` meets its contract. The invariant: from here on the bytes pass up to where they do from the start; the measure is what is left.
use Rattle.base.specs.{refl, sym, ◌∙◌}
use Rattle.base_text.specs.{in_class, span_end}
use Rattle.base_text.proofs.SearchEnds.{search_ends}
use Rattle.base_text.proofs.ByteClassLaws.{class_stop, class_step, class_out}
use Rattle.base_text.proofs.span_end.Goals as goal

pub returns-then-not-is_of : goal.returns-then-not-is_of
returns-then-not-is_of c =
    let a = c.args in
    sym (c.loop-at.invariant ∙ class_stop (in_class a.class) a.w.now _ c.loop-at-test.true (sym c.is_of.ensures ∙ c.if-not-is_of.true))

pub loop-at-preserved : goal.loop-at-preserved
loop-at-preserved c =
    let a = c.args in
    c.loop-at.invariant ∙ class_step (in_class a.class) a.w.now _ c.loop-at-test.true (sym c.is_of.ensures ∙ c.if-not-is_of.false)

pub returns : goal.returns
returns c =
    let a = c.args in
    let p = in_class a.class in
    c.max.ensures ∙ sym (search_ends (span_end p a.w.now) (λ e. e) _ _ _ (λ k h. class_out p a.w.now k h) c.loop-at.invariant c.loop-at.auto.at-end c.loop-at-test.false _ refl)
