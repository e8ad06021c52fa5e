-- `genlib_groups::next_gate` meets its contract. The invariant: the groups behind the lines from here on are those behind the lines from the start; the measure is what is left of the text.
use Rattle.base.specs.{sym, ◌∙◌, arith}
use Rattle.genlib_groups.proofs.GenlibLineLaws.{bounded, starts-gate}
use Rattle.genlib_groups.proofs.GroupReading.{gate-here, line-here, none_here}
use Rattle.genlib_groups.proofs.next_gate.Goals as goal

pub slice_bounds-names_gate-count : goal.slice_bounds-names_gate-count
slice_bounds-names_gate-count c = (bounded _ _ c.loop-at-test.true _ c.line-l.ensures).starts

pub slice_bounds-names_gate-start : goal.slice_bounds-names_gate-start
slice_bounds-names_gate-start c = (bounded _ _ c.loop-at-test.true _ c.line-l.ensures).starts

pub slice_bounds-names_gate-end : goal.slice_bounds-names_gate-end
slice_bounds-names_gate-end c = (bounded _ _ c.loop-at-test.true _ c.line-l.ensures).stopped

pub returns-then-names_gate : goal.returns-then-names_gate
returns-then-names_gate c =
    let i = c.loop-at.invariant in
    let b = bounded _ _ c.loop-at-test.true _ c.line-l.ensures in
    (i.0, i.1, i.2 ∙ (gate-here _ _ _ _ b.lines (sym (starts-gate _ _ _ b) ∙ sym c.names_gate.ensures ∙ c.if-names_gate.true)).1)

pub loop-at-smaller : goal.loop-at-smaller
loop-at-smaller c =
    let b = bounded _ _ c.loop-at-test.true _ c.line-l.ensures in
    omega (arith, b.later, b.within)

pub loop-at-preserved : goal.loop-at-preserved
loop-at-preserved c =
    let i = c.loop-at.invariant in
    let b = bounded _ _ c.loop-at-test.true _ c.line-l.ensures in
    (omega (arith, i.0, b.later), b.within, i.2 ∙ (line-here _ _ _ _ b.lines (sym (starts-gate _ _ _ b) ∙ sym c.names_gate.ensures ∙ c.if-names_gate.false)).1)

pub returns : goal.returns
returns c = let i = c.loop-at.invariant in (i.0, i.1, i.2 ∙ (none_here _ _ c.loop-at-test.false).1)
