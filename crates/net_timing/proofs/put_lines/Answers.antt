-- `net_timing::put_lines` meets its contract. The invariant: the lines of the first i outputs are written.
use Rattle.base.specs.{◌≡◌, sym, ap, subst, ℕ, ◌-◌, ◌/◌, ◌≤◌, arith, length, length-append}
use Rattle.base_words.proofs.{capacity-need}
use Rattle.base_text.proofs.{begin, step, kept, end}
use Rattle.net_writer.proofs.{left}
use Rattle.net_timing.specs.{lines_from}
use Rattle.net_timing.proofs.TimingLength.{line-length, lines_next, lines_none}
use Rattle.net_timing.proofs.put_lines.Goals as goal

pub loop-i-init : goal.loop-i-init
loop-i-init c =
    let a = c.args in
    let e : a.outputs ≡ a.outputs - 0 = omega arith in
    begin a.out.now a.at (ap (lines_from a.work.now a.m 0) e)

pub output-l-requires : goal.output-l-requires
output-l-requires c = (c.requires.0.capacity, omega arith)

pub min_arrival-min_arrival-requires : goal.min_arrival-min_arrival-requires
min_arrival-min_arrival-requires c =
    (capacity-need _ _ _ c.requires.0.capacity, subst (λ (x : ℕ). x / 2 ≤ c.args.m) (sym c.output-l.ensures) (c.requires.0.within c.loop-i.i (omega arith)))

pub phase-p-requires : goal.phase-p-requires
phase-p-requires c =
    (capacity-need _ _ _ c.requires.0.capacity, subst (λ (x : ℕ). x / 2 ≤ c.args.m) (sym c.output-l.ensures) (c.requires.0.within c.loop-i.i (omega arith)))

pub put_line-next-requires : goal.put_line-next-requires
put_line-next-requires c =
    let next = lines_next c.args.work.now c.args.m c.args.outputs c.loop-i.i (omega arith) in
    let here = rw (← c.output-l.ensures, ← c.min_arrival-min_arrival.ensures, ← c.phase-p.ensures) at next in
    omega (arith, left c.requires.2 c.loop-i.invariant, simp (length-append, line-length) at (ap length here))

pub loop-i-preserved : goal.loop-i-preserved
loop-i-preserved c =
    let next = lines_next c.args.work.now c.args.m c.args.outputs c.loop-i.i (omega arith) in
    let here = rw (← c.output-l.ensures, ← c.min_arrival-min_arrival.ensures, ← c.phase-p.ensures) at next in
    step c.requires.2 c.loop-i.invariant _ _ _ _ here c.put_line-next.ensures

pub shape_of-out : goal.shape_of-out
shape_of-out c = kept c.requires.2 c.loop-i.invariant

pub returns : goal.returns
returns c =
    end c.requires.2 c.loop-i.invariant (lines_none c.args.work.now c.args.m c.args.outputs c.loop-i.i c.loop-i-test.false)
