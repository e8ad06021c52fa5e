-- `net_writer::count_gates` meets its contract. The invariant: what is counted, with the gates of the phases from l on, is the count of all.
-- The measure is the number of phases left.
use Rattle.base.specs.{◌≡◌, sym, ap, ◌∙◌, ◌+◌, ◌-◌, ◌*◌, arith}
use Rattle.net_gates.specs.{gates_of}
use Rattle.net_writer.specs.declared.Tally.{Tally}
use Rattle.net_writer.specs.{tallied}
use Rattle.net_writer.proofs.NetlistLength.{gates-none, tally_append, tally_none}
use Rattle.net_writer.proofs.GateWalk.{gates_left, comes, gates-on}
use Rattle.net_writer.proofs.count_gates.Goals as goal

pub loop-l-init : goal.loop-l-init
loop-l-init c =
    let a = c.args in
    let k = comes (omega arith) c.gate_from-l.ensures in
    let e : 2 * (a.m + 1) - 0 ≡ 2 * (a.m + 1) = omega arith in (
      k.high,
      record { length = omega arith; gates = omega arith; area = omega arith },
      rw (← k.same a.records.now, e),
    )

pub loop-l-preserved : goal.loop-l-preserved
loop-l-preserved c =
    let w = c.args.work.now in
    let records = c.args.records.now in
    let t = c.count_driver-t in
    let k = comes (omega arith) c.gate_after-l.ensures in (
      k.high,
      record { length = omega arith; gates = omega arith; area = omega arith },
      ap (tallied t.result) (sym (k.same records))
          ∙ ap (λ (x : Tally). tallied x (gates_left w records c.args.m (c.loop-l.l + 1))) t.ensures.0
          ∙ tally_append c.loop-l.t (gates_of c.driver_at-d.result) _
          ∙ ap (tallied c.loop-l.t) (sym (gates-on w records c.args.m c.loop-l.l (omega arith) c.driver_at-d.ensures))
          ∙ c.loop-l.invariant.2,
    )

pub returns : goal.returns
returns c =
    let l = c.loop-l in
    let a = c.args in
    let none = gates-none a.work.now a.records.now a.m (2 * (a.m + 1)) l.l c.loop-l-test.false in (
      sym (tally_none l.t) ∙ ap (tallied l.t) (sym none) ∙ l.invariant.2,
      record { length = omega arith; gates = omega arith; area = omega arith },
    )

pub loop-l-smaller : goal.loop-l-smaller
loop-l-smaller c = omega (arith, (comes (omega arith) c.gate_after-l.ensures).low)
