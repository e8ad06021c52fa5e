-- `graph_order::list` meets its contract: an AND's two uses are put before the others of its operands, any other variable has none.
use Rattle.base.specs.{sym, refl, ◌∙◌}
use Rattle.graph_order.proofs.UserLists.{passed_other, listed}
use Rattle.graph_order.proofs.list.Goals as goal

pub returns-then-kind-eq-AND : goal.returns-then-kind-eq-AND
returns-then-kind-eq-AND c =
    let l = listed _ _ _ _ _ c.requires.0 c.requires.1 c.requires.2 c.requires.3 (sym c.kind.ensures ∙ c.if-kind-eq-AND.true) _ _ c.left.ensures c.right.ensures
    _ _ _ _ c.link.ensures.heads c.link.ensures.links c.link-then-kind-eq-AND.ensures.heads c.link-then-kind-eq-AND.ensures.links in
    record { passed = l.0; kept = l.1 }

pub returns-else-kind-eq-AND : goal.returns-else-kind-eq-AND
returns-else-kind-eq-AND c =
    record { passed = passed_other _ _ _ _ _ c.requires.0 c.requires.2 c.requires.3 (λ e. c.if-kind-eq-AND.false (c.kind.ensures ∙ e)); kept = λ o h. refl }
