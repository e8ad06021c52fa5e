-- `check_nets::reach_pin` meets its contract.
use Rattle.base.specs.{◌+◌, ◌*◌, arith}
use Rattle.check_order.proofs.{stepped_found, stepped_seen, stepped_append, stepped_capacity}
use Rattle.check_nets.proofs.reach_pin.Goals as goal

pub returns-then-y-i : goal.returns-then-y-i
returns-then-y-i c =
    let a = c.args in
    stepped_found a.refs.now a.n a.i a.k a.j a.m c.pin-x.result a.seen.now a.queue.now c.requires.0 c.requires.1 c.requires.2 c.requires.3 c.requires.4 c.requires.5 c.pin-x.ensures c.if-x-lt12.false c.if-y-i.true _ _

pub bounds-seen-y : goal.bounds-seen-y
bounds-seen-y c =
    let a = c.args in
    omega (arith, c.pin-x.ensures, c.requires.0.few, c.requires.0.most (4 * a.k + a.j) (omega (arith, c.requires.3, c.requires.4)))

pub returns-then-seen-y-ne0 : goal.returns-then-seen-y-ne0
returns-then-seen-y-ne0 c =
    let a = c.args in
    stepped_seen a.refs.now a.n a.i a.k a.j a.m c.pin-x.result a.seen.now a.queue.now c.requires.0 c.requires.1 c.requires.2 c.requires.3 c.requires.4 c.requires.5 c.pin-x.ensures c.if-x-lt12.false c.if-y-i.false c.if-seen-y-ne0.true

pub append-requires : goal.append-requires
append-requires c =
    let a = c.args in
    let capacity = stepped_capacity a.refs.now a.n a.i a.k a.j a.m c.pin-x.result a.seen.now a.queue.now c.requires.0 c.requires.1 c.requires.2 c.requires.3 c.requires.4 c.requires.5 c.pin-x.ensures c.if-x-lt12.false c.if-seen-y-ne0.false in
    (capacity.0, capacity.1)

pub returns : goal.returns
returns c =
    let a = c.args in
    stepped_append a.refs.now a.n a.i a.k a.j a.m c.pin-x.result a.seen.now a.queue.now c.requires.0 c.requires.1 c.requires.2 c.requires.3 c.requires.4 c.requires.5 c.pin-x.ensures c.if-x-lt12.false c.if-y-i.false c.if-seen-y-ne0.false _ _ c.append.ensures.0 c.append.ensures.1
