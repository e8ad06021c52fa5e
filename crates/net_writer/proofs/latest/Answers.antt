-- `net_writer::latest` meets its contract. The invariant: the latest so far and the latest of those left make the latest.
use Rattle.base.specs.{◌≡◌, ap, ◌-◌, arith}
use Rattle.net_writer.specs.{latest_from}
use Rattle.net_writer.proofs.NetlistLength.{latest-next, latest-none}
use Rattle.net_writer.proofs.latest.Goals as goal

pub loop-i-init : goal.loop-i-init
loop-i-init c =
    let a = c.args in
    let e : a.outputs - 0 ≡ a.outputs = omega arith in
    omega (arith, ap (latest_from a.work.now a.m 0) e)

pub output_arrival-requires : goal.output_arrival-requires
output_arrival-requires c = (c.requires.capacity, c.loop-i-test.true, c.requires.within c.loop-i.i c.loop-i-test.true)

pub loop-i-preserved : goal.loop-i-preserved
loop-i-preserved c =
    let a = c.args in
    omega (arith, latest-next a.work.now a.m a.outputs c.loop-i.i (omega arith))

pub returns : goal.returns
returns c =
    let a = c.args in
    let l = c.loop-i in
    omega (arith, l.invariant, latest-none a.work.now a.m a.outputs l.i c.loop-i-test.false)
