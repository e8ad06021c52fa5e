-- `net_writer::put_wires` meets its contract. The invariant: the lines of the first i outputs are written.
use Rattle.base.specs.{◌≡◌, ap, ◌-◌, arith, length, length-append}
use Rattle.base_text.proofs.{begin, step, kept, end}
use Rattle.net_writer.specs.{wire_lines_from}
use Rattle.net_writer.proofs.NetlistLength.{wire-length, wires-next, wires-none}
use Rattle.net_writer.proofs.FollowingText.{left}
use Rattle.net_writer.proofs.put_wires.Goals as goal

pub loop-i-init : goal.loop-i-init
loop-i-init c =
    let a = c.args in
    let e : a.outputs ≡ a.outputs - 0 = omega arith in
    begin a.out.now a.at (ap (wire_lines_from a.work.now a.m 0) e)

pub put_wire-next-requires : goal.put_wire-next-requires
put_wire-next-requires c =
    let a = c.args in
    let next = rw (← c.output_net-net.ensures) at (wires-next a.work.now a.m a.outputs c.loop-i.i (omega arith)) in
    let capacity = left c.requires.2 c.loop-i.invariant in
    omega (arith, simp (length-append, wire-length) at (ap length next))

pub loop-i-preserved : goal.loop-i-preserved
loop-i-preserved c =
    let a = c.args in
    let next = rw (← c.output_net-net.ensures) at (wires-next a.work.now a.m a.outputs c.loop-i.i (omega arith)) in
    step c.requires.2 c.loop-i.invariant _ _ _ _ next c.put_wire-next.ensures

pub shape_of-out : goal.shape_of-out
shape_of-out c = kept c.requires.2 c.loop-i.invariant

pub returns : goal.returns
returns c =
    end c.requires.2 c.loop-i.invariant (wires-none c.args.work.now c.args.m c.args.outputs c.loop-i.i c.loop-i-test.false)
