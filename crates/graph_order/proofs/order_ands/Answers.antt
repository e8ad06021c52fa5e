-- `graph_order::order_ands` meets its contract. The invariant: what the slots from here on give is what all slots give.
use Rattle.base.specs.{sym, ◌∙◌, arith}
use Rattle.graph_order.proofs.ReadySearch.{none_in}
use Rattle.graph_order.proofs.UserLists.{next_some}
use Rattle.graph_order.proofs.OrderSlots.{fit_length, fit-capacity}
use Rattle.graph_order.proofs.ReadyInvariant.{filled-first, filled_off, ordered_operands, ordered-length, to_mark, filled_on}
use Rattle.graph_order.proofs.ReadyInvariant.{filled-end}
use Rattle.graph_order.proofs.order_ands.Goals as goal

pub loop-slot-init : goal.loop-slot-init
loop-slot-init c = filled-first _ _ _ _ _ c.requires.1 c.requires.2 c.requires.3

pub returns-in_default : goal.returns-in_default
returns-in_default c =
    filled_off c.args.h c.args.work.now c.requires.0 _ _ _ _ _ _ c.loop-slot.invariant _ _ _ c.next_ready.ensures.next (omega (arith, c.loop-slot-test.true, c.ordered_count-end.ensures)) (none_in _ _ (sym c.next_ready.ensures.answer ∙ c.in_default.is))

pub mark_ready_users-requires : goal.mark_ready_users-requires
mark_ready_users-requires c =
    let t = next_some _ _ _ _ _ _ _ _ c.next_ready.ensures.next (sym c.next_ready.ensures.answer ∙ c.in-Some.is) in (
      fit-capacity _ _ (fit_length c.args.h c.args.work.now _ c.requires.0 (ordered-length c.args.h c.args.work.now c.requires.0 _ _ _ _ _ _ c.loop-slot.invariant _ _ _ t.0 (omega (arith, c.loop-slot-test.true, c.ordered_count-end.ensures)) t.1 _ c.order_at.ensures)),
      ordered_operands c.args.h c.args.work.now c.requires.0 _ _ _ _ _ _ c.loop-slot.invariant _ _ _ t.0 (omega (arith, c.loop-slot-test.true, c.ordered_count-end.ensures)) t.1 _ c.order_at.ensures,
      t.1,
      to_mark c.args.h c.args.work.now c.requires.0 _ _ _ _ _ _ c.loop-slot.invariant _ _ _ t.0 (omega (arith, c.loop-slot-test.true, c.ordered_count-end.ensures)) t.1 _ c.order_at.ensures _ c.take-scan.ensures.left,
    )

pub loop-slot-preserved : goal.loop-slot-preserved
loop-slot-preserved c =
    let t = next_some _ _ _ _ _ _ _ _ c.next_ready.ensures.next (sym c.next_ready.ensures.answer ∙ c.in-Some.is) in
    filled_on c.args.h c.args.work.now c.requires.0 _ _ _ _ _ _ c.loop-slot.invariant _ _ _ t.0 (omega (arith, c.loop-slot-test.true, c.ordered_count-end.ensures)) t.1 _ c.order_at.ensures _ c.take-scan.ensures.answer _ c.mark_ready_users.ensures

pub returns : goal.returns
returns c = filled-end _ _ _ _ _ _ _ _ c.loop-slot.invariant (omega (arith, c.loop-slot-test.false, c.ordered_count-end.ensures))
