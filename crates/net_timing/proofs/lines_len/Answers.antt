-- `net_timing::lines_len` meets its contract. The invariant: what is counted and what is left make the whole, at most 43 bytes for each output.
use Rattle.base.specs.{◌≡◌, sym, ap, subst, ℕ, ◌-◌, ◌/◌, ◌≤◌, arith, length, length-append}
use Rattle.base_words.proofs.{capacity-need}
use Rattle.net_timing.specs.{lines_from}
use Rattle.net_timing.proofs.TimingLength.{line-length, lines_next, lines_none}
use Rattle.net_timing.proofs.lines_len.Goals as goal

pub loop-i-init : goal.loop-i-init
loop-i-init c =
    let a = c.args in
    let e : a.outputs - 0 ≡ a.outputs = omega arith in
    omega (arith, ap (λ (k : ℕ). length (lines_from a.work.now a.m 0 k)) e)

pub output-l-requires : goal.output-l-requires
output-l-requires c = (c.requires.0.capacity, omega arith)

pub min_arrival-min_arrival-requires : goal.min_arrival-min_arrival-requires
min_arrival-min_arrival-requires c =
    (capacity-need _ _ _ c.requires.0.capacity, subst (λ (x : ℕ). x / 2 ≤ c.args.m) (sym c.output-l.ensures) (c.requires.0.within c.loop-i.i (omega arith)))

pub phase-p-requires : goal.phase-p-requires
phase-p-requires c =
    (capacity-need _ _ _ c.requires.0.capacity, subst (λ (x : ℕ). x / 2 ≤ c.args.m) (sym c.output-l.ensures) (c.requires.0.within c.loop-i.i (omega arith)))

pub loop-i-preserved : goal.loop-i-preserved
loop-i-preserved c =
    let a = c.args in
    let next = lines_next a.work.now a.m a.outputs c.loop-i.i (omega arith) in
    let here = rw (← c.output-l.ensures, ← c.min_arrival-min_arrival.ensures, ← c.phase-p.ensures) at next in
    omega (arith, simp (length-append, line-length) at (ap length here))

pub returns : goal.returns
returns c =
    let a = c.args in
    omega (arith, ap length (lines_none a.work.now a.m a.outputs c.loop-i.i c.loop-i-test.false))
