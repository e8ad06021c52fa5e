-- `graph_order::first_waiting` meets its contract. The invariant: what is sought from here on is what is sought.
use Rattle.base.specs.{sym, ap, ◌∙◌, ◌+◌, ◌-◌, arith}
use Rattle.graph_order.specs.{in_graph, is_waiting}
use Rattle.graph_order.proofs.ReadySearch.{in_graph-some, in_graph-none, seek-here, seek-past, seek-end}
use Rattle.graph_order.proofs.OrderedWords.{waiting-is}
use Rattle.graph_order.proofs.first_waiting.Goals as goal

pub returns-then-waits : goal.returns-then-waits
returns-then-waits c =
    let found = c.loop-v.invariant ∙ seek-here (is_waiting c.args.work.now c.args.m) _ (c.args.m - c.loop-v.v) _ (omega arith) (sym c.waits.ensures ∙ c.if-waits.true) in
    in_graph-some _ _ (omega arith) ∙ ap (in_graph c.args.m) (sym found)

pub loop-v-preserved : goal.loop-v-preserved
loop-v-preserved c =
    c.loop-v.invariant ∙ seek-past (is_waiting c.args.work.now c.args.m) _ (c.args.m + 1 - (c.loop-v.v + 1)) _ (omega arith) (sym c.waits.ensures ∙ c.if-waits.false)

pub returns : goal.returns
returns c =
    let found = c.loop-v.invariant ∙ seek-end (is_waiting c.args.work.now c.args.m) _ _ (omega arith) in
    in_graph-none _ _ (omega arith) ∙ ap (in_graph c.args.m) (sym found)

pub loop-v-init : goal.loop-v-init
loop-v-init c = waiting-is _ _ _
