-- `net_writer::outputs_len` meets its contract. The invariant: what is counted and what is left make the whole, at most 12 bytes for each name.
use Rattle.base.specs.{◌≡◌, ap, ℕ, ◌-◌, arith, length, length-append}
use Rattle.net_writer.specs.{output_names_from, spaced}
use Rattle.net_writer.proofs.NetlistLength.{outputs-next, outputs-none}
use Rattle.net_writer.proofs.outputs_len.Goals as goal

pub loop-i-init : goal.loop-i-init
loop-i-init c =
    let n = c.args.n in
    let e : n - 0 ≡ n = omega arith in
    omega (arith, ap (λ (k : ℕ). length (spaced (output_names_from 0 k))) e)

pub loop-i-preserved : goal.loop-i-preserved
loop-i-preserved c =
    omega (arith, simp length-append at (ap length (outputs-next c.args.n c.loop-i.i (omega arith))))

pub returns : goal.returns
returns c = omega (arith, ap length (outputs-none c.args.n c.loop-i.i c.loop-i-test.false))
