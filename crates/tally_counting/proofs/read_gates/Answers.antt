-- `tally_counting::read_gates` meets its contract. The invariant: what was counted and what is left are all gates; the measure is what is left of the text.
use Rattle.base.specs.{arith, refl, sym, ap, subst, ◌∙◌, ◌<◌}
use Rattle.tally_counting.specs.declared.Counts.{Counts}
use Rattle.tally_counting.proofs.GateCounts.{SoFar, so_far-first, so_far_last, so_far-listed, so_far-later, so_far_more}
use Rattle.tally_counting.proofs.read_gates.Goals as goal

pub loop-k-init : goal.loop-k-init
loop-k-init c =
    let a = c.args in
    subst (SoFar a.lib a.s.now a.from) (sym c.no_gates-c.ensures) (so_far-first a.lib a.s.now a.from (omega arith))

pub offset_bounds-lib-k : goal.offset_bounds-lib-k
offset_bounds-lib-k c =
    let p = c.loop-k in
    omega (arith, so_far-listed c.args.lib c.requires.2 c.args.s.now c.args.from p.c p.invariant c.in-Some.k _ (sym c.gate_at.ensures ∙ c.in-Some.is), c.requires.2.few)

pub bounds-lib-k : goal.bounds-lib-k
bounds-lib-k c =
    let p = c.loop-k in
    omega (arith, so_far-listed c.args.lib c.requires.2 c.args.s.now c.args.from p.c p.invariant c.in-Some.k _ (sym c.gate_at.ensures ∙ c.in-Some.is), c.requires.2.few)

pub add_gate-c-requires : goal.add_gate-c-requires
add_gate-c-requires c =
    let p = c.loop-k in
    let e = sym c.gate_at.ensures ∙ c.in-Some.is in
    let k = c.in-Some.k in
    let h = so_far-listed c.args.lib c.requires.2 c.args.s.now c.args.from p.c p.invariant k _ e in
    let g = so_far-later c.args.lib c.requires.2 c.args.s.now c.args.from p.c p.invariant k _ e in
    let few : p.c.gates < 65536 = omega (arith, p.invariant.few, g.0, g.1, c.requires.1) in
    (omega (arith, h, c.requires.2.few), omega (arith, p.invariant.each k (omega (arith, h, c.requires.2.few))), few, omega (arith, p.invariant.small))

pub loop-k-smaller : goal.loop-k-smaller
loop-k-smaller c =
    let p = c.loop-k in
    let e = sym c.gate_at.ensures ∙ c.in-Some.is in
    let k = c.in-Some.k in
    let g = so_far-later c.args.lib c.requires.2 c.args.s.now c.args.from p.c p.invariant k _ e in
    omega (arith, g.0, g.1, ap (λ (x : Counts). x.at) c.add_gate-c.ensures.0)

pub loop-k-preserved : goal.loop-k-preserved
loop-k-preserved c =
    let p = c.loop-k in
    let e = sym c.gate_at.ensures ∙ c.in-Some.is in
    let k = c.in-Some.k in
    subst (SoFar c.args.lib c.args.s.now c.args.from) (sym c.add_gate-c.ensures.0)
    (so_far_more c.args.lib c.requires.2 c.args.s.now c.args.from p.c p.invariant k _ e _ refl c.add_gate-c.ensures.1)

pub returns : goal.returns
returns c =
    let p = c.loop-k in
    so_far_last c.args.lib c.args.s.now c.args.from p.c c.requires.1 p.invariant (sym c.gate_at.ensures ∙ c.in_default.is)

pub gate_at-requires : goal.gate_at-requires
gate_at-requires c = (c.loop-k.invariant.inside, omega arith, c.requires.2)
