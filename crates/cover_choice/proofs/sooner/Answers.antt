-- `cover_choice::sooner` meets its contract: by which of the phases have a source, and the test of their arrivals.
use Rattle.base.specs.{sym, ◌∙◌}
use Rattle.cells_matching.proofs.{earlier-second, earlier-first, earlier_strict, earlier_tie}
use Rattle.cover_choice.proofs.sooner.Goals as goal

pub returns-then-is_absent : goal.returns-then-is_absent
returns-then-is_absent c = let a = c.args in sym (earlier-second a.a a.b (sym c.is_absent.ensures ∙ c.if-is_absent.true))

pub returns-then-is_absent-2 : goal.returns-then-is_absent-2
returns-then-is_absent-2 c =
    let a = c.args in
    sym (earlier-first a.a a.b (sym c.is_absent.ensures ∙ c.if-is_absent.false) (sym c.is_absent-2.ensures ∙ c.if-is_absent-2.true))

pub returns-then-b-a : goal.returns-then-b-a
returns-then-b-a c =
    let a = c.args in
    sym (earlier_strict a.a a.b (sym c.is_absent.ensures ∙ c.if-is_absent.false) (sym c.is_absent-2.ensures ∙ c.if-is_absent-2.false) c.if-b-a.true)

pub returns-else-b-a : goal.returns-else-b-a
returns-else-b-a c =
    let a = c.args in
    sym (earlier_tie a.a a.b (sym c.is_absent.ensures ∙ c.if-is_absent.false) (sym c.is_absent-2.ensures ∙ c.if-is_absent-2.false) c.if-b-a.false)
