-- `check_order::is_fed` meets its contract.
use Rattle.base.specs.{◌+◌, ◌*◌, arith}
use Rattle.check_order.proofs.ReadyDrivers.{fed-input, fed-marked, fed-waits}
use Rattle.check_order.proofs.is_fed.Goals as goal

pub returns-then-x-lt12 : goal.returns-then-x-lt12
returns-then-x-lt12 c =
    let a = c.args in
    fed-input a.refs.now a.flags.now a.i a.j c.pin-x.result c.requires.2 c.pin-x.ensures c.if-x-lt12.true

pub bounds-flags-x : goal.bounds-flags-x
bounds-flags-x c =
    omega (arith, c.pin-x.ensures, c.requires.0.few, c.requires.0.most (4 * c.args.i + c.args.j) (omega (arith, c.requires.1, c.requires.2)))

pub returns-then-flags-x-eq0 : goal.returns-then-flags-x-eq0
returns-then-flags-x-eq0 c =
    let a = c.args in
    fed-waits a.refs.now a.flags.now a.i a.j c.pin-x.result c.requires.2 c.pin-x.ensures c.if-x-lt12.false c.if-flags-x-eq0.true

pub returns : goal.returns
returns c =
    let a = c.args in
    fed-marked a.refs.now a.flags.now a.i a.j c.pin-x.result c.requires.2 c.pin-x.ensures c.if-x-lt12.false c.if-flags-x-eq0.false
