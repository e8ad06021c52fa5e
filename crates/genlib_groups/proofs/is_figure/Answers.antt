-- `genlib_groups::is_figure` meets its contract, by where its digits end.
use Rattle.base.specs.{sym, ap, ◌∙◌, arith, ℕ, eqb, length, lt-ltb, le-ltb, ne_eqb}
use Rattle.genlib_groups.proofs.GenlibFigures.{figure-none, figure-whole, figure_other, figure_point, digits-past, digits_from_lem}
use Rattle.genlib_groups.proofs.is_figure.Goals as goal
use Rattle.genlib_groups.proofs.is_figure.Goals.{then-end-eq0-via-then-end-eq0, then-end-eq0-via-else-end-eq0+then-w-end}

pub returns-then-end-eq0 : goal.returns-then-end-eq0
returns-then-end-eq0 c =
    let e = c.span_end-end.ensures in
    let end = c.span_end-end.result in
    elim c.then-end-eq0.branch [
      | then-end-eq0-via-then-end-eq0 y ↦ le-ltb 0 end (omega arith) ∙ sym (figure-none _ _ e y.if-end-eq0.true)
      | then-end-eq0-via-else-end-eq0+then-w-end y ↦ lt-ltb 0 end (omega arith) ∙ sym (figure-whole _ _ e y.if-end-eq0.false y.if-w-end.true)
    ]

pub returns-then-from-w : goal.returns-then-from-w
returns-then-from-w c =
    let w = c.args.w.now in
    let in_line = c.if-w-end.false in
    ap (λ (n : ℕ). eqb n (length w)) c.span_end.ensures ∙ sym (figure_point w _ c.span_end-end.ensures c.if-end-eq0.false in_line c.if-w-end-eq46.true ∙ digits_from_lem w _ c.if-from-w.true)

pub returns-else-from-w : goal.returns-else-from-w
returns-else-from-w c =
    let w = c.args.w.now in
    let in_line = c.if-w-end.false in
    le-ltb _ _ c.if-from-w.false ∙ sym (figure_point w _ c.span_end-end.ensures c.if-end-eq0.false in_line c.if-w-end-eq46.true ∙ digits-past w _ c.if-from-w.false)

pub returns-else-w-end-eq46 : goal.returns-else-w-end-eq46
returns-else-w-end-eq46 c =
    ne_eqb _ _ c.if-w-end-eq46.false ∙ sym (figure_other _ _ c.span_end-end.ensures c.if-end-eq0.false c.if-w-end.false c.if-w-end-eq46.false)
