-- `graph_order::ready` meets its contract: each return knows the tests that led there, and an AND's operands are literals of the graph.
use Rattle.base.specs.{sym, ap, ◌∙◌, arith, rules}
use Rattle.graph_order.specs.{is_ready, is_ordered}
use Rattle.graph_order.proofs.OrderedWords.{waits-kind}
use Rattle.graph_order.proofs.ready.Goals as goal

pub is_ordered-requires : goal.is_ordered-requires
is_ordered-requires c =
    (search rules, omega (arith, c.left.ensures, c.requires.1.left c.args.v c.requires.2 (waits-kind c.args.work.now c.args.m c.args.v (sym c.waits.ensures ∙ c.if-waits.true))))

pub is_ordered-requires-then-is_ordered : goal.is_ordered-requires-then-is_ordered
is_ordered-requires-then-is_ordered c =
    (search rules, omega (arith, c.right.ensures, c.requires.1.right c.args.v c.requires.2 (waits-kind c.args.work.now c.args.m c.args.v (sym c.waits.ensures ∙ c.if-waits.true))))

pub returns-then-is_ordered : goal.returns-then-is_ordered
unfolding is_ready
returns-then-is_ordered c =
    rw (sym c.waits.ensures ∙ c.if-waits.true, ap (is_ordered c.args.work.now c.args.m) (sym c.left.ensures) ∙ sym c.is_ordered.ensures ∙ c.if-is_ordered.true) (c.is_ordered-then-is_ordered.ensures ∙ ap (is_ordered c.args.work.now c.args.m) c.right.ensures)

pub returns-else-is_ordered : goal.returns-else-is_ordered
unfolding is_ready
returns-else-is_ordered c =
    rw (sym c.waits.ensures ∙ c.if-waits.true, ap (is_ordered c.args.work.now c.args.m) (sym c.left.ensures) ∙ sym c.is_ordered.ensures ∙ c.if-is_ordered.false) c.if-is_ordered.false

pub returns-else-waits : goal.returns-else-waits
unfolding is_ready
returns-else-waits c = rw (sym c.waits.ensures ∙ c.if-waits.false) c.if-waits.false
