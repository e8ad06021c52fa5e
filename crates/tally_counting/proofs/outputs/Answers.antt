-- `tally_counting::outputs` meets its contract: the third line's fields, less the keyword.
use Rattle.base.specs.{arith, ◌∙◌}
use Rattle.tally_counting.proofs.ExpectedNetlistLines.{span_bounds, outputs-none, outputs-some}
use Rattle.tally_counting.proofs.outputs.Goals as goal

pub returns-then-s-from : goal.returns-then-s-from
returns-then-s-from c =
    let s = c.args.s.now in
    outputs-none s c.line-a.result c.line-b.result c.line-a.ensures c.line-b.ensures c.if-s-from.true

pub slice_bounds-names_in-count : goal.slice_bounds-names_in-count
slice_bounds-names_in-count c =
    let s = c.args.s.now in
    let b = span_bounds s c.line-b.result.next (omega arith) c.line-c.result c.line-c.ensures in omega arith

pub slice_bounds-names_in-start : goal.slice_bounds-names_in-start
slice_bounds-names_in-start c =
    let s = c.args.s.now in
    let b = span_bounds s c.line-b.result.next (omega arith) c.line-c.result c.line-c.ensures in omega arith

pub slice_bounds-names_in-end : goal.slice_bounds-names_in-end
slice_bounds-names_in-end c =
    let s = c.args.s.now in
    let b = span_bounds s c.line-b.result.next (omega arith) c.line-c.result c.line-c.ensures in omega arith

pub returns : goal.returns
returns c =
    let s = c.args.s.now in c.names_in.ensures
    ∙ outputs-some s c.line-a.result c.line-b.result c.line-a.ensures c.line-b.ensures (omega arith) c.line-c.result c.line-c.ensures
