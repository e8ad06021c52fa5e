-- `net_writer::wires_len` meets its contract. The invariant: what is counted and what is left make the whole, at most 35 bytes for each output.
use Rattle.base.specs.{◌≡◌, ap, ℕ, ◌-◌, arith, length, length-append}
use Rattle.net_writer.specs.{wire_lines_from}
use Rattle.net_writer.proofs.NetlistLength.{wire-length, wires-next, wires-none}
use Rattle.net_writer.proofs.wires_len.Goals as goal

pub loop-i-init : goal.loop-i-init
loop-i-init c =
    let a = c.args in
    let e : a.outputs - 0 ≡ a.outputs = omega arith in
    omega (arith, ap (λ (k : ℕ). length (wire_lines_from a.work.now a.m 0 k)) e)

pub loop-i-preserved : goal.loop-i-preserved
loop-i-preserved c =
    let a = c.args in
    let next = rw (← c.output_net.ensures) at (wires-next a.work.now a.m a.outputs c.loop-i.i (omega arith)) in
    omega (arith, simp (length-append, wire-length) at (ap length next))

pub returns : goal.returns
returns c =
    let a = c.args in
    omega (arith, ap length (wires-none a.work.now a.m a.outputs c.loop-i.i c.loop-i-test.false))
