-- `net_timing::own_min_arrival` meets its contract, by what the source is.
use Rattle.base.specs.{sym, ap, ◌∙◌}
use Rattle.model.specs.declared.Phase.{Phase}
use Rattle.net_timing.specs.{own_min}
use Rattle.net_timing.proofs.own_min_arrival.Goals as goal

pub match_min_arrival-requires : goal.match_min_arrival-requires
match_min_arrival-requires c =
    let r = c.requires.0.1 in
    let i = r.matches c.args.l c.requires.1 _ (ap (λ (q : Phase). q.source) (sym c.phase-p.ensures) ∙ c.in-Cell.is) in
    ((c.requires.0.0, r.in_bounds, i, c.requires.0.2), r.cuts, c.requires.1)

pub returns-in-Input : goal.returns-in-Input
unfolding own_min
returns-in-Input c cells r pins mins =
    let a = c.args in
    c.input_arrival.ensures ∙ sym (ap (own_min cells a.work.now a.m a.l) (ap (λ (q : Phase). q.source) (sym c.phase-p.ensures) ∙ c.in-Input.is))

pub returns-in-Cell : goal.returns-in-Cell
unfolding own_min
returns-in-Cell c cells r pins mins =
    let a = c.args in
    let e = ap (λ (q : Phase). q.source) (sym c.phase-p.ensures) ∙ c.in-Cell.is in
    c.match_min_arrival.ensures cells r.in_bounds (r.matches a.l c.requires.1 _ e) pins mins
    ∙ sym (ap (own_min cells a.work.now a.m a.l) e)

pub returns-in-Inverter : goal.returns-in-Inverter
unfolding own_min
returns-in-Inverter c cells r pins mins =
    let a = c.args in
    sym (ap (own_min cells a.work.now a.m a.l) (ap (λ (q : Phase). q.source) (sym c.phase-p.ensures) ∙ c.in-Inverter.is))

pub returns-in-Nothing : goal.returns-in-Nothing
unfolding own_min
returns-in-Nothing c cells r pins mins =
    let a = c.args in
    sym (ap (own_min cells a.work.now a.m a.l) (ap (λ (q : Phase). q.source) (sym c.phase-p.ensures) ∙ c.in-Nothing.is))
