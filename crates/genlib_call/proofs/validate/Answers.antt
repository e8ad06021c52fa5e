-- `genlib_call::validate` meets its contract: the line and its end, the form, and the gate.
use Rattle.base.specs.{sym, ◌∙◌, arith, le-ltb}
use Rattle.genlib_groups.proofs.{bounded}
use Rattle.genlib_call.proofs.GateValidation.{at_unended, at-broken, at-formed, apart, in_line}
use Rattle.genlib_call.proofs.validate.Goals as goal
use Rattle.genlib_call.proofs.validate.Goals.{then-l-via-then-l, then-l-via-else-l+then-not-is_group}

pub slice_bounds-is_group-count : goal.slice_bounds-is_group-count
slice_bounds-is_group-count c = (bounded _ _ c.requires.0 _ c.line-l.ensures).starts

pub slice_bounds-is_group-start : goal.slice_bounds-is_group-start
slice_bounds-is_group-start c = (bounded _ _ c.requires.0 _ c.line-l.ensures).starts

pub slice_bounds-is_group-end : goal.slice_bounds-is_group-end
slice_bounds-is_group-end c = (bounded _ _ c.requires.0 _ c.line-l.ensures).stopped

pub is_group-requires : goal.is_group-requires
is_group-requires c = (bounded _ _ c.requires.0 _ c.line-l.ensures).within

pub returns-then-l : goal.returns-then-l
returns-then-l c =
    let l = c.line-l.result in
    let b = bounded _ _ c.requires.0 _ c.line-l.ensures in
    elim c.then-l.branch [
      | then-l-via-then-l y ↦ (tt, sym (at_unended _ _ _ b.lines (sym b.ends ∙ le-ltb l.stop l.next (omega (arith, y.if-l.true)))))
      | then-l-via-else-l+then-not-is_group y ↦
          (tt, sym (at-broken _ _ _ b.lines _ b.bytes (sym b.ends ∙ apart _ _ b.ordered y.if-l.false) (sym y.is_group.ensures ∙ y.if-not-is_group.true)))
    ]

pub slice_bounds-sized_gate-count : goal.slice_bounds-sized_gate-count
slice_bounds-sized_gate-count c = (bounded _ _ c.requires.0 _ c.line-l.ensures).starts

pub slice_bounds-sized_gate-start : goal.slice_bounds-sized_gate-start
slice_bounds-sized_gate-start c = (bounded _ _ c.requires.0 _ c.line-l.ensures).starts

pub slice_bounds-sized_gate-end : goal.slice_bounds-sized_gate-end
slice_bounds-sized_gate-end c = (bounded _ _ c.requires.0 _ c.line-l.ensures).stopped

pub sized_gate-requires : goal.sized_gate-requires
sized_gate-requires c =
    let b = bounded _ _ c.requires.0 _ c.line-l.ensures in
    (b.within, in_line _ _ _ b.starts b.stopped c.requires.1)

pub returns : goal.returns
returns c =
    let b = bounded _ _ c.requires.0 _ c.line-l.ensures in
    let r = c.sized_gate.ensures in
    (r.0, r.1 ∙ sym (at-formed _ _ _ b.lines _ b.bytes (sym b.ends ∙ apart _ _ b.ordered c.if-l.false) (sym c.is_group.ensures ∙ c.if-not-is_group.false)))
