-- `net_writer::put_gates` meets its contract. The invariant: the lines of the phases before l are written. The measure is the number of
-- phases left.
use Rattle.base.specs.{◌≡◌, ◌+◌, ◌-◌, ◌*◌, arith}
use Rattle.model.specs.{each, gate_line}
use Rattle.base_text.proofs.{begin, step, capacity, kept, end}
use Rattle.net_gates.specs.{gates_of}
use Rattle.net_writer.proofs.NetlistLength.{lines_none}
use Rattle.net_writer.proofs.GateWalk.{gates_left, comes, lines-on}
use Rattle.net_writer.proofs.put_gates.Goals as goal

pub loop-l-init : goal.loop-l-init
loop-l-init c =
    let a = c.args in
    let k = comes (omega arith) c.gate_from-l.ensures in
    let e : 2 * (a.m + 1) - 0 ≡ 2 * (a.m + 1) = omega arith in
    (k.high, begin a.out.now a.at (rw (← k.same a.records.now, e)))

pub put_driver-next-requires : goal.put_driver-next-requires
put_driver-next-requires c =
    let w = c.args.work.now in
    let records = c.args.records.now in
    let here = each gate_line (gates_of c.driver_at-d.result) in
    let later = each gate_line (gates_left w records c.args.m (c.loop-l.l + 1)) in
    let e = lines-on w records c.args.m c.loop-l.l (omega arith) c.driver_at-d.ensures in
    (c.driver_at-d.ensures.few, capacity c.requires.1 c.loop-l.invariant.1 here later e)

pub loop-l-preserved : goal.loop-l-preserved
loop-l-preserved c =
    let p = c.put_driver-next in
    let k = comes (omega arith) c.gate_after-l.ensures in
    let e = lines-on c.args.work.now c.args.records.now c.args.m c.loop-l.l (omega arith) c.driver_at-d.ensures in
    (k.high, step c.requires.1 c.loop-l.invariant.1 _ _ _ _ (rw (k.same c.args.records.now) at e) p.ensures)

pub shape_of-out : goal.shape_of-out
shape_of-out c = kept c.requires.1 c.loop-l.invariant.1

pub returns : goal.returns
returns c =
    let none = lines_none c.args.work.now c.args.records.now c.args.m (2 * (c.args.m + 1)) c.loop-l.l c.loop-l-test.false in
    end c.requires.1 c.loop-l.invariant.1 none

pub loop-l-smaller : goal.loop-l-smaller
loop-l-smaller c = omega (arith, (comes (omega arith) c.gate_after-l.ensures).low)
