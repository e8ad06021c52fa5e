-- `net_writer::put_outputs` meets its contract. The invariant: the first i names are written.
use Rattle.base.specs.{◌≡◌, ap, ℕ, ◌-◌, ◌≤◌, arith, length, length-append}
use Rattle.base_text.proofs.{begin, step, kept, end}
use Rattle.net_writer.specs.{output_names_from, spaced}
use Rattle.net_writer.proofs.NetlistLength.{outputs-next, outputs-none}
use Rattle.net_writer.proofs.FollowingText.{then, left}
use Rattle.net_writer.proofs.put_outputs.Goals as goal

pub loop-i-init : goal.loop-i-init
loop-i-init c =
    let a = c.args in
    let e : a.n ≡ a.n - 0 = omega arith in
    begin a.out.now a.at (ap (λ (k : ℕ). spaced (output_names_from 0 k)) e)

pub put_byte-place-requires : goal.put_byte-place-requires
put_byte-place-requires c =
    let next = outputs-next c.args.n c.loop-i.i (omega arith) in
    omega (arith, left c.requires.1 c.loop-i.invariant, simp length-append at (ap length next))

pub put_out-next-requires : goal.put_out-next-requires
put_out-next-requires c =
    let next = outputs-next c.args.n c.loop-i.i (omega arith) in
    omega (arith, left c.requires.1 c.loop-i.invariant, simp length-append at (ap length next))

pub loop-i-preserved : goal.loop-i-preserved
loop-i-preserved c =
    let p = c.put_out-next in
    let next = outputs-next c.args.n c.loop-i.i (omega arith) in
    let h : p.result ≤ length p.new.out = omega (arith, left c.requires.1 c.loop-i.invariant, simp length-append at (ap length next)) in
    step c.requires.1 c.loop-i.invariant _ _ _ _ next (then h c.put_byte-place.ensures p.ensures)

pub shape_of-out : goal.shape_of-out
shape_of-out c = kept c.requires.1 c.loop-i.invariant

pub returns : goal.returns
returns c =
    end c.requires.1 c.loop-i.invariant (outputs-none c.args.n c.loop-i.i c.loop-i-test.false)
