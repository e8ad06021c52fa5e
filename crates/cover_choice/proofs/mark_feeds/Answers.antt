-- `cover_choice::mark_feeds` meets its contract: in each arm the source is known to be that arm's.
use Rattle.base.specs.{sym, ap, ◌∙◌, ℕ, ◌/◌, arith}
use Rattle.model.specs.{var_of}
use Rattle.model.specs.declared.Phase.{Phase}
use Rattle.theory_graph.proofs.{opposite-var}
use Rattle.base_words.specs.{put_needed}
use Rattle.cover_choice.specs.{put_all}
use Rattle.cover_choice.proofs.NeededMarks.{feeds-matched, feeds-inverted, feeds-input, feeds-nothing}
use Rattle.cover_choice.proofs.mark_feeds.Goals as goal

pub mark_match-requires : goal.mark_match-requires
mark_match-requires c =
    let a = c.args in
    let p = c.phase-p in
    let e = ap (λ (x : Phase). x.source) (sym p.ensures) ∙ c.in-Cell.is in
    let r = c.requires.0.1 in
    ((c.requires.0.0, r.in_bounds, r.matches a.l c.requires.1 c.in-Cell.x e, c.requires.0.2), r.cuts, c.requires.1)

pub mark_needed-requires : goal.mark_needed-requires
unfolding var_of
mark_needed-requires c =
    (c.requires.0.1.cuts.capacity, omega (arith, ap (λ (y : ℕ). y / 2) c.opposite.ensures.0, opposite-var c.args.l, c.requires.1))

pub returns-in-Cell : goal.returns-in-Cell
returns-in-Cell c cells r pins =
    let a = c.args in
    let x = c.in-Cell.x in
    let e = ap (λ (p : Phase). p.source) (sym c.phase-p.ensures) ∙ c.in-Cell.is in
    let i = r.matches a.l c.requires.1 x e in
    c.mark_match.ensures cells r.in_bounds i pins
    ∙ ap (put_all a.work.now a.m) (sym (feeds-matched cells a.work.now a.m a.l x i e))

pub returns-in-Inverter : goal.returns-in-Inverter
unfolding put_all
returns-in-Inverter c cells r pins =
    let a = c.args in
    let x = c.in-Inverter.field-0 in
    let e = ap (λ (p : Phase). p.source) (sym c.phase-p.ensures) ∙ c.in-Inverter.is in
    c.mark_needed.ensures
    ∙ ap (put_needed a.work.now a.m) c.opposite.ensures.0
    ∙ ap (put_all a.work.now a.m) (sym (feeds-inverted cells a.work.now a.m a.l x e))

pub returns-in-Input : goal.returns-in-Input
unfolding put_all
returns-in-Input c cells r pins =
    let a = c.args in
    let e = ap (λ (p : Phase). p.source) (sym c.phase-p.ensures) ∙ c.in-Input.is in
    ap (put_all a.work.now a.m) (sym (feeds-input cells a.work.now a.m a.l e))

pub returns-in-Nothing : goal.returns-in-Nothing
unfolding put_all
returns-in-Nothing c cells r pins =
    let a = c.args in
    let e = ap (λ (p : Phase). p.source) (sym c.phase-p.ensures) ∙ c.in-Nothing.is in
    ap (put_all a.work.now a.m) (sym (feeds-nothing cells a.work.now a.m a.l e))
