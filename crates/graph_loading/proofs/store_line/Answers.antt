-- `graph_loading::store_line` meets its contract: each return knows which line is expected.
use Rattle.base.specs.{ap, ◌∙◌, List, ℕ, ◌+◌, ◌/◌, lt-ltb, le-ltb}
use Rattle.graph_order.specs.{put_ordered}
use Rattle.graph_loading.specs.{stored_input, stored_line}
use Rattle.graph_loading.proofs.store_line.Goals as goal

pub returns-then-k-h : goal.returns-then-k-h
unfolding stored_line stored_input
returns-then-k-h c =
    let a = c.args in
    rw (lt-ltb _ _ c.if-k-h.true)
    (c.order_at.ensures ∙ ap (λ (x : List ℕ). put_ordered x a.h.size (a.k + 1) (a.l.first / 2)) c.store_node.ensures)

pub returns-then-k-h-2 : goal.returns-then-k-h-2
unfolding stored_line
returns-then-k-h-2 c =
    rw (le-ltb _ _ c.if-k-h.false, lt-ltb _ _ c.if-k-h-2.true) c.set_output.ensures

pub returns-else-k-h-2 : goal.returns-else-k-h-2
unfolding stored_line
returns-else-k-h-2 c =
    rw (le-ltb _ _ c.if-k-h.false, le-ltb _ _ c.if-k-h-2.false) c.store_node-else-k-h-2.ensures
