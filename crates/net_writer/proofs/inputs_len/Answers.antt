-- `net_writer::inputs_len` meets its contract. The invariant: what is counted and what is left make the whole, at most 12 bytes for each name.
use Rattle.base.specs.{◌≡◌, ap, ℕ, ◌-◌, arith, length, length-append}
use Rattle.net_writer.specs.{input_names_from, spaced}
use Rattle.net_writer.proofs.NetlistLength.{inputs-next, inputs-none}
use Rattle.net_writer.proofs.inputs_len.Goals as goal

pub loop-i-init : goal.loop-i-init
loop-i-init c =
    let a = c.args in
    let e : a.n - 0 ≡ a.n = omega arith in
    omega (arith, ap (λ (k : ℕ). length (spaced (input_names_from a.work.now a.m 0 k))) e)

pub loop-i-preserved : goal.loop-i-preserved
loop-i-preserved c =
    let a = c.args in
    let next = rw (← c.input_net.ensures) at (inputs-next a.work.now a.m a.n c.loop-i.i (omega arith)) in
    omega (arith, simp length-append at (ap length next))

pub returns : goal.returns
returns c =
    let a = c.args in
    omega (arith, ap length (inputs-none a.work.now a.m a.n c.loop-i.i c.loop-i-test.false))
