-- `net_writer::put_inputs` meets its contract. The invariant: the first i names are written.
use Rattle.base.specs.{◌≡◌, ap, ℕ, ◌-◌, ◌≤◌, arith, length, length-append}
use Rattle.base_text.proofs.{begin, step, kept, end}
use Rattle.net_writer.specs.{input_names_from, spaced}
use Rattle.net_writer.proofs.NetlistLength.{inputs-next, inputs-none}
use Rattle.net_writer.proofs.FollowingText.{then, left}
use Rattle.net_writer.proofs.put_inputs.Goals as goal

pub loop-i-init : goal.loop-i-init
loop-i-init c =
    let a = c.args in
    let e : a.n ≡ a.n - 0 = omega arith in
    begin a.out.now a.at (ap (λ (k : ℕ). spaced (input_names_from a.work.now a.m 0 k)) e)

pub put_byte-place-requires : goal.put_byte-place-requires
put_byte-place-requires c =
    let next = inputs-next c.args.work.now c.args.m c.args.n c.loop-i.i (omega arith) in
    omega (arith, left c.requires.2 c.loop-i.invariant, simp length-append at (ap length next))

pub put_net-next-requires : goal.put_net-next-requires
put_net-next-requires c =
    let next = rw (← c.input_net-net.ensures) at (inputs-next c.args.work.now c.args.m c.args.n c.loop-i.i (omega arith)) in
    omega (arith, left c.requires.2 c.loop-i.invariant, simp length-append at (ap length next))

pub loop-i-preserved : goal.loop-i-preserved
loop-i-preserved c =
    let p = c.put_net-next in
    let next = rw (← c.input_net-net.ensures) at (inputs-next c.args.work.now c.args.m c.args.n c.loop-i.i (omega arith)) in
    let h : p.result ≤ length p.new.out = omega (arith, left c.requires.2 c.loop-i.invariant, simp length-append at (ap length next)) in
    step c.requires.2 c.loop-i.invariant _ _ _ _ next (then h c.put_byte-place.ensures p.ensures)

pub shape_of-out : goal.shape_of-out
shape_of-out c = kept c.requires.2 c.loop-i.invariant

pub returns : goal.returns
returns c =
    end c.requires.2 c.loop-i.invariant (inputs-none c.args.work.now c.args.m c.args.n c.loop-i.i c.loop-i-test.false)
