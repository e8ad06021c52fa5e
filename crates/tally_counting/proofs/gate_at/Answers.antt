-- `tally_counting::gate_at` meets its contract: by the line at the place.
use Rattle.base.specs.{arith, sym, ◌∙◌, ◌-◌, None}
use Rattle.tally_counting.proofs.ExpectedNetlistLines.{ten-line, not-ended, span_bounds, part-short}
use Rattle.tally_counting.proofs.GateCounts.{gate-none, gate-line}
use Rattle.tally_counting.proofs.gate_at.Goals as goal

pub overflow_add-stop : goal.overflow_add-stop
overflow_add-stop c =
    let a = c.args in
    let b = span_bounds a.s.now a.at (omega arith) c.line-l.result c.line-l.ensures in omega arith

pub returns-then-next-stop : goal.returns-then-next-stop
returns-then-next-stop c =
    let a = c.args in
    gate-none a.lib a.s.now a.at (not-ended a.s.now a.at (omega arith) c.line-l.result c.line-l.ensures c.if-next-stop.true)

pub slice_bounds-gate_of-count : goal.slice_bounds-gate_of-count
slice_bounds-gate_of-count c =
    let a = c.args in
    let b = span_bounds a.s.now a.at (omega arith) c.line-l.result c.line-l.ensures in omega arith

pub slice_bounds-gate_of-start : goal.slice_bounds-gate_of-start
slice_bounds-gate_of-start c =
    let a = c.args in
    let b = span_bounds a.s.now a.at (omega arith) c.line-l.result c.line-l.ensures in omega arith

pub slice_bounds-gate_of-end : goal.slice_bounds-gate_of-end
slice_bounds-gate_of-end c =
    let a = c.args in
    let b = span_bounds a.s.now a.at (omega arith) c.line-l.result c.line-l.ensures in omega arith

pub gate_of-requires : goal.gate_of-requires
gate_of-requires c =
    let a = c.args in
    (omega (arith, part-short (c.line-l.result.stop - a.at) a.at a.s.now), c.requires.2)

pub returns : goal.returns
returns c =
    let a = c.args in
    let l = c.line-l in
    let t = ten-line a.s.now a.at (omega arith) l.result l.ensures (omega arith) in
    gate-line a.lib a.s.now a.at l.result t _ (sym c.in_ok-k.was ∙ c.gate_of.ensures)

pub returns-in_err-k : goal.returns-in_err-k
returns-in_err-k c =
    let a = c.args in
    let l = c.line-l in
    let t = ten-line a.s.now a.at (omega arith) l.result l.ensures (omega arith) in
    rw c.from_residual.ensures (gate-line a.lib a.s.now a.at l.result t None (sym c.in_err-k.was ∙ c.gate_of.ensures))
