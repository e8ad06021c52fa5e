-- `graph_order::first_ready` meets its contract. The invariant: what is sought from here on is what is sought, and what waits below is listed.
use Rattle.base.specs.{ap, refl, sym, ◌∙◌, ◌+◌, ◌-◌, ◌*◌, arith}
use Rattle.graph_order.specs.{in_graph, is_ready}
use Rattle.graph_order.proofs.ReadySearch.{in_graph-some, in_graph-none, seek-here, seek-past, seek-end}
use Rattle.graph_order.proofs.OrderedWords.{ready-is-seek}
use Rattle.graph_order.proofs.UserLists.{kept_on}
use Rattle.graph_order.proofs.first_ready.Goals as goal

pub returns-then-ready : goal.returns-then-ready
returns-then-ready c =
    let i = c.loop-u.invariant in
    let found = i.0 ∙ seek-here (is_ready c.args.work.now c.args.m) _ (c.args.m - c.loop-u.u) _ (omega arith) (sym c.ready.ensures ∙ c.if-ready.true) in
    record { answer = in_graph-some _ _ (omega arith) ∙ ap (in_graph c.args.m) (sym found); passed = rw found i.1; kept = i.2 }

pub loop-u-preserved : goal.loop-u-preserved
loop-u-preserved c =
    let i = c.loop-u.invariant in (
      i.0 ∙ seek-past (is_ready c.args.work.now c.args.m) _ (c.args.m + 1 - (c.loop-u.u + 1)) _ (omega arith) (sym c.ready.ensures ∙ c.if-ready.false),
      c.list.ensures.passed,
      kept_on (2 * c.args.from) (2 * c.loop-u.u) c.args.links.now c.loop-u.links c.list.new.links (omega arith) i.2 c.list.ensures.kept,
    )

pub returns : goal.returns
returns c =
    let i = c.loop-u.invariant in
    let found = i.0 ∙ seek-end (is_ready c.args.work.now c.args.m) _ _ (omega arith) in
    record { answer = in_graph-none _ _ (omega arith) ∙ ap (in_graph c.args.m) (sym found); passed = rw found i.1; kept = i.2 }

pub loop-u-init : goal.loop-u-init
loop-u-init c = (ready-is-seek _ _ _, c.requires.2, λ o h. refl)
