-- `graph_arrivals::read_lines` meets its contract. The invariant: what the lines from here on give with what is stored and marked is what the text gives; the measure is what is left of the text.
use Rattle.std.specs.Prelude.{Err}
use Rattle.std.proofs.lemmas.Result.{err_from_is_err_and}
use Rattle.base.specs.{◌∙◌, refl, sym, ap, ◌∙◌, arith}
use Rattle.graph_arrivals.proofs.ArrivalLines.{validated-good}
use Rattle.graph_arrivals.proofs.ArrivalSteps.{so_far-first, so_far_last, so_far_stop, so_far_more}
use Rattle.graph_arrivals.proofs.read_lines.Goals as goal

pub loop-at-init : goal.loop-at-init
loop-at-init c =
    so_far-first c.args.s.now c.args.from c.args.h.size c.args.h.inputs c.args.work.now _ c.requires refl

pub store_arrival-requires : goal.store_arrival-requires
store_arrival-requires c =
    let f = c.loop-at.invariant in
    let g = validated-good _ _ _ _ _ _ _ (sym c.validate.ensures ∙ c.in_ok-i.was) in
    (f.ready.capacity, omega (arith, g.0, f.ready.few), f.ready.within _ g.0)

pub bounds-seen-i : goal.bounds-seen-i
bounds-seen-i c =
    let f = c.loop-at.invariant in
    let g = validated-good _ _ _ _ _ _ _ (sym c.validate.ensures ∙ c.in_ok-i.was) in
    omega (arith, g.0, f.ready.few, f.ready.capacity.small)

pub loop-at-smaller : goal.loop-at-smaller
loop-at-smaller c =
    let g = validated-good _ _ _ _ _ _ _ (sym c.validate.ensures ∙ c.in_ok-i.was) in
    omega (arith, g.1, c.loop-at-test.true)

pub loop-at-preserved : goal.loop-at-preserved
loop-at-preserved c =
    let args = c.args in
    so_far_more args.s.now args.from args.h.size args.h.inputs args.work.now c.loop-at.seen c.loop-at.at c.loop-at.work c.loop-at.invariant
    c.loop-at-test.true _ _ _ (sym c.validate.ensures ∙ c.in_ok-i.was) _ _ c.store_arrival.ensures
    refl

pub returns-in_err-i : goal.returns-in_err-i
returns-in_err-i c =
    let args = c.args in
    let l = c.loop-at in
    let e = so_far_stop args.s.now args.from args.h.size args.h.inputs args.work.now l.seen l.at l.work l.invariant c.loop-at-test.true _
    (sym c.validate.ensures ∙ c.in_err-i.was) in
    let p = err_from_is_err_and c.from_residual.result c.from_residual.ensures.1 in
    record { value = p.1 ∙ ap Err p.2 ∙ e.0; work_after = e.1 }

pub returns : goal.returns
returns c =
    let args = c.args in
    let l = c.loop-at in
    let e = so_far_last args.s.now args.from args.h.size args.h.inputs args.work.now l.seen l.at l.work l.invariant c.loop-at-test.false in
    record { value = e.0; work_after = e.1 }
