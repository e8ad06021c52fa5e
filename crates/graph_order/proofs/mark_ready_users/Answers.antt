-- `graph_order::mark_ready_users` meets its contract. The invariant: the users with a use of v above o have their marks, and o is a use of v, or 0; the measure is o, for links lead down.
use Rattle.base.specs.{◌∙◌, arith}
use Rattle.graph_order.proofs.UserLists.{woken}
use Rattle.graph_order.proofs.mark_ready_users.Goals as goal

pub loop-o-preserved : goal.loop-o-preserved
loop-o-preserved c =
    let k = c.requires.3 in
    let i = c.loop-o.invariant.0 (omega (arith, c.loop-o-test.true)) in
    rw (c.from-o-in-loop-o.ensures, c.mark_if_ready.ensures) (
      λ p. let r = k.lists.next c.loop-o.o i.0 p in (r.0, r.1 ∙ i.1),
      woken _ _ _ _ _ c.requires.0 k.lists k.pairs _ i.0 i.1 _ c.loop-o.invariant.1,
    )
