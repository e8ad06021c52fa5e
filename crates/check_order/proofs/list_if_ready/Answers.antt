-- `check_order::list_if_ready` meets its contract.
use Rattle.base.specs.{sym, ◌∙◌, arith}
use Rattle.check_order.proofs.DriverLists.{listed-capacity}
use Rattle.check_order.proofs.ReadyDrivers.{attempted_marked, attempted_stuck, attempted_next}
use Rattle.check_order.proofs.SortSteps.{list_marked, list_waits, list_listed}
use Rattle.check_order.proofs.list_if_ready.Goals as goal

pub returns-then-flags-i-ne0 : goal.returns-then-flags-i-ne0
returns-then-flags-i-ne0 c =
    let a = c.args in
    (attempted_marked a.refs.now a.n c.requires.0 a.flags.now a.order.now a.m a.i c.requires.2 c.if-flags-i-ne0.true, list_marked a.refs.now a.flags.now a.order.now a.m a.i c.if-flags-i-ne0.true)

pub returns-then-not-is_ready : goal.returns-then-not-is_ready
returns-then-not-is_ready c =
    let a = c.args in
    let t = c.is_ready in
    let waits = c.if-not-is_ready.true in
    (attempted_stuck a.refs.now a.n c.requires.0 a.flags.now a.order.now a.m a.i c.requires.2 (t.ensures.stuck waits), list_waits a.refs.now a.flags.now a.order.now a.m a.i c.if-flags-i-ne0.false (sym waits ∙ t.ensures.is))

pub append-requires : goal.append-requires
append-requires c =
    let a = c.args in
    (omega (arith, c.requires.0.few, listed-capacity a.n a.flags.now a.order.now a.m c.requires.0.few c.requires.2.listed a.i c.requires.1 c.if-flags-i-ne0.false), omega (arith, c.requires.0.few, c.requires.1))

pub returns : goal.returns
returns c =
    let a = c.args in
    let goes = c.if-not-is_ready.false in (
      attempted_next a.refs.now a.n c.requires.0 a.flags.now a.order.now a.m a.i c.requires.2 c.requires.1 c.if-flags-i-ne0.false (c.is_ready.ensures.ready goes) _ _ c.append.ensures.0 c.append.ensures.1,
      list_listed a.refs.now a.flags.now a.order.now a.m a.i c.if-flags-i-ne0.false (sym goes ∙ c.is_ready.ensures.is) _ _ c.append.ensures.0 c.append.ensures.1,
    )
