-- `graph_order::order_graph` meets its contract: the words are those of `order_ands`, and the first AND that waits is the first at or behind the mark.
use Rattle.base.specs.{refl, sym, ◌∙◌, arith}
use Rattle.graph_order.proofs.ReadySearch.{some_in, none_in}
use Rattle.graph_order.proofs.OrderedWords.{answer-all, answer-some}
use Rattle.graph_order.proofs.UserLists.{passed_none, ready-none}
use Rattle.graph_order.proofs.order_graph.Goals as goal

pub order_ands-requires : goal.order_ands-requires
order_ands-requires c =
    (c.requires.0, c.requires.1, passed_none _ _, rw c.none-bits.ensures (ready-none _ _))

pub returns-in-None : goal.returns-in-None
returns-in-None c =
    let a = c.args in
    let behind = none_in _ _ (sym c.first_waiting.ensures ∙ c.in-None.is) in
    record { answer = answer-all a.work.now a.h c.requires.0 _ _ c.order_ands.ensures refl behind; left = c.order_ands.ensures }

pub returns-in-Some : goal.returns-in-Some
returns-in-Some c =
    let a = c.args in
    let t = some_in _ _ _ (sym c.first_waiting.ensures ∙ c.in-Some.is) in
    record { answer = answer-some a.work.now a.h c.requires.0 _ _ c.order_ands.ensures (sym t.0) (omega (arith, t.0, t.1)); left = c.order_ands.ensures }
