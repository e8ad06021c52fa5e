-- `genlib_groups::all_pin_lines` meets its contract. The invariant: all lines are PIN lines where all from here on are; the measure is what is left of the text.
use Rattle.base.specs.{sym, ap, ◌∙◌, arith}
use Rattle.model.specs.{all, line_is, is_pin_line}
use Rattle.genlib_groups.proofs.GenlibLineLaws.{bounded, starts-gate, not-ended, is-ended}
use Rattle.genlib_groups.proofs.GroupReading.{gate-here, line-here, none_here}
use Rattle.genlib_groups.proofs.all_pin_lines.Goals as goal
use Rattle.genlib_groups.proofs.all_pin_lines.Goals.{then-l-via-then-l, then-l-via-else-l+then-not-is_pin_line}

pub slice_bounds-names_gate-count : goal.slice_bounds-names_gate-count
slice_bounds-names_gate-count c = (bounded _ _ c.loop-at-test.true _ c.line-l.ensures).starts

pub slice_bounds-names_gate-start : goal.slice_bounds-names_gate-start
slice_bounds-names_gate-start c = (bounded _ _ c.loop-at-test.true _ c.line-l.ensures).starts

pub slice_bounds-names_gate-end : goal.slice_bounds-names_gate-end
slice_bounds-names_gate-end c = (bounded _ _ c.loop-at-test.true _ c.line-l.ensures).stopped

pub returns-then-names_gate : goal.returns-then-names_gate
unfolding all
returns-then-names_gate c =
    let i = c.loop-at.invariant in
    let b = bounded _ _ c.loop-at-test.true _ c.line-l.ensures in
    sym (i.1 ∙ ap (all (line_is is_pin_line)) (gate-here _ _ _ _ b.lines (sym (starts-gate _ _ _ b) ∙ sym c.names_gate.ensures ∙ c.if-names_gate.true)).0)

pub slice_bounds-is_pin_line-count : goal.slice_bounds-is_pin_line-count
slice_bounds-is_pin_line-count c = (bounded _ _ c.loop-at-test.true _ c.line-l.ensures).starts

pub slice_bounds-is_pin_line-start : goal.slice_bounds-is_pin_line-start
slice_bounds-is_pin_line-start c = (bounded _ _ c.loop-at-test.true _ c.line-l.ensures).starts

pub returns-then-l : goal.returns-then-l
unfolding all
returns-then-l c =
    let i = c.loop-at.invariant in
    let b = bounded _ _ c.loop-at-test.true _ c.line-l.ensures in
    let more = i.1 ∙ ap (all (line_is is_pin_line)) (line-here _ _ _ _ b.lines (sym (starts-gate _ _ _ b) ∙ sym c.names_gate.ensures ∙ c.if-names_gate.false)).0 in
    elim c.then-l.branch [
      | then-l-via-then-l y ↦ sym (more ∙ rw (not-ended _ _ _ b is_pin_line y.if-l.true))
      | then-l-via-else-l+then-not-is_pin_line y ↦
          sym (more ∙ rw (is-ended _ _ _ b is_pin_line y.if-l.false ∙ sym y.is_pin_line.ensures ∙ y.if-not-is_pin_line.true))
    ]

pub loop-at-smaller : goal.loop-at-smaller
loop-at-smaller c =
    let b = bounded _ _ c.loop-at-test.true _ c.line-l.ensures in
    omega (arith, b.later, b.within)

pub loop-at-preserved : goal.loop-at-preserved
unfolding all
loop-at-preserved c =
    let i = c.loop-at.invariant in
    let b = bounded _ _ c.loop-at-test.true _ c.line-l.ensures in
    (b.within, i.1 ∙ ap (all (line_is is_pin_line)) (line-here _ _ _ _ b.lines (sym (starts-gate _ _ _ b) ∙ sym c.names_gate.ensures ∙ c.if-names_gate.false)).0 ∙ rw (is-ended _ _ _ b is_pin_line c.if-l.false ∙ sym c.is_pin_line.ensures ∙ c.if-not-is_pin_line.false))

pub returns : goal.returns
unfolding all
returns c = let i = c.loop-at.invariant in sym (i.1 ∙ ap (all (line_is is_pin_line)) (none_here _ _ c.loop-at-test.false).0)
