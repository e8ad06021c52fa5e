-- `net_writer::gate_from` meets its contract. The invariant: the first gate from g on is the first from l on.
use Rattle.base.specs.{◌≡◌, sym, ◌∙◌, ◌+◌, ◌*◌, arith}
use Rattle.net_writer.proofs.GateWalk.{gate-here, gate-later, gate-end}
use Rattle.net_writer.proofs.gate_from.Goals as goal

pub returns-then-is_gate : goal.returns-then-is_gate
returns-then-is_gate c =
    let a = c.args in
    let g = c.loop-g in
    sym (g.invariant.1 ∙ gate-here a.work.now a.m g.g (2 * (a.m + 1)) c.loop-g-test.true (sym c.is_gate.ensures ∙ c.if-is_gate.true))

pub loop-g-preserved : goal.loop-g-preserved
loop-g-preserved c =
    let a = c.args in
    let g = c.loop-g in
    (omega arith, g.invariant.1 ∙ gate-later a.work.now a.m g.g (2 * (a.m + 1)) c.loop-g-test.true (sym c.is_gate.ensures ∙ c.if-is_gate.false))

pub returns : goal.returns
returns c =
    let a = c.args in
    let e : c.max.result ≡ c.loop-g.g = omega (arith, c.max.ensures) in
    e ∙ sym (c.loop-g.invariant.1 ∙ gate-end a.work.now a.m c.loop-g.g (2 * (a.m + 1)) c.loop-g-test.false)
