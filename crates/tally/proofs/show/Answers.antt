-- `tally::show` meets its contract: the length that `report` answers is within text memory.
use Rattle.base.specs.{arith, sym, ◌∙◌, length, length-take}
use Rattle.tally.proofs.TallyBounds.{report-within}
use Rattle.tally.proofs.show.Goals as goal

pub slice_bounds-put-end : goal.slice_bounds-put-end
slice_bounds-put-end g c =
    let r = c.report in
    let a = c.args in
    let h = report-within a.t a.cells.now (length a.text.now) c.in-Ok.n (sym c.in-Ok.is ∙ r.ensures.0) in omega arith

pub slice_bounds-put-end-in-Ok : goal.slice_bounds-put-end-in-Ok
slice_bounds-put-end-in-Ok g c =
    let r = c.report in
    let a = c.args in
    let h = report-within a.t a.cells.now (length a.text.now) c.in-Ok.n (sym c.in-Ok.is ∙ r.ensures.0) in
    omega (arith, length-take c.in-Ok.n r.new.text)
