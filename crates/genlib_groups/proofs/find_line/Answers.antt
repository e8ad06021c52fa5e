-- `genlib_groups::find_line` meets its contract. The invariant: the first line that fits is the first from here on; the measure is what is left of the text.
use Rattle.base.specs.{sym, ap, ◌∙◌, arith}
use Rattle.model.specs.Genlib.{fits}
use Rattle.model.specs.{pin_line}
use Rattle.genlib_groups.proofs.GenlibLineLaws.{bounded, starts-gate, tokens-at}
use Rattle.genlib_groups.proofs.GroupReading.{gate-here, line-here, none_here, lines_end, lines_more}
use Rattle.genlib_groups.proofs.find_line.Goals as goal

pub slice_bounds-names_gate-count : goal.slice_bounds-names_gate-count
slice_bounds-names_gate-count c = (bounded _ _ c.loop-at-test.true _ c.line-l.ensures).starts

pub slice_bounds-names_gate-start : goal.slice_bounds-names_gate-start
slice_bounds-names_gate-start c = (bounded _ _ c.loop-at-test.true _ c.line-l.ensures).starts

pub slice_bounds-names_gate-end : goal.slice_bounds-names_gate-end
slice_bounds-names_gate-end c = (bounded _ _ c.loop-at-test.true _ c.line-l.ensures).stopped

pub returns-then-names_gate-clause-found : goal.returns-then-names_gate-clause-found
unfolding pin_line
returns-then-names_gate-clause-found c =
    let l = c.loop-at in
    let s = c.args in
    let b = bounded _ _ c.loop-at-test.true _ c.line-l.ensures in
    l.invariant.1
    ∙ ap (pin_line s.name.now) (lines_end _ _ (gate-here _ _ _ _ b.lines (sym (starts-gate _ _ _ b) ∙ sym c.names_gate.ensures ∙ c.if-names_gate.true)).0)

pub slice_bounds-fits_line-count : goal.slice_bounds-fits_line-count
slice_bounds-fits_line-count c = (bounded _ _ c.loop-at-test.true _ c.line-l.ensures).starts

pub slice_bounds-fits_line-start : goal.slice_bounds-fits_line-start
slice_bounds-fits_line-start c = (bounded _ _ c.loop-at-test.true _ c.line-l.ensures).starts

pub returns-then-fits_line-clause-found : goal.returns-then-fits_line-clause-found
unfolding pin_line
returns-then-fits_line-clause-found c =
    let l = c.loop-at in
    let s = c.args in
    let b = bounded _ _ c.loop-at-test.true _ c.line-l.ensures in
    let f = ap (fits s.name.now) (sym (tokens-at _ _ _ b)) ∙ sym c.fits_line.ensures ∙ c.if-fits_line.true in
    l.invariant.1
    ∙ ap (pin_line s.name.now) (lines_more _ _ _ _ (line-here _ _ _ _ b.lines (sym (starts-gate _ _ _ b) ∙ sym c.names_gate.ensures ∙ c.if-names_gate.false)).0)
    ∙ rw f

pub loop-at-smaller : goal.loop-at-smaller
loop-at-smaller c =
    let b = bounded _ _ c.loop-at-test.true _ c.line-l.ensures in
    omega (arith, b.later, b.within)

pub loop-at-preserved : goal.loop-at-preserved
unfolding pin_line
loop-at-preserved c =
    let l = c.loop-at in
    let s = c.args in
    let b = bounded _ _ c.loop-at-test.true _ c.line-l.ensures in
    let f = ap (fits s.name.now) (sym (tokens-at _ _ _ b)) ∙ sym c.fits_line.ensures ∙ c.if-fits_line.false in (
      b.within,
      l.invariant.1
          ∙ ap (pin_line s.name.now) (lines_more _ _ _ _ (line-here _ _ _ _ b.lines (sym (starts-gate _ _ _ b) ∙ sym c.names_gate.ensures ∙ c.if-names_gate.false)).0)
          ∙ rw f,
    )

pub returns-clause-found : goal.returns-clause-found
unfolding pin_line
returns-clause-found c =
    let l = c.loop-at in
    let s = c.args in
    l.invariant.1
    ∙ ap (pin_line s.name.now) (lines_end _ _ (none_here _ _ c.loop-at-test.false).0)
