-- `net_timing::pins_min_arrival` meets its contract. The invariant: the latest of the pins from here on.
use Rattle.base.specs.{◌≡◌, sym, ap, ap₂, subst, ◌∙◌, List, ℕ, ◌-◌, ◌/◌, ◌≤◌, max, arith, drop, get_or, get_or-drop}
use Rattle.model.specs.{fed_nets}
use Rattle.base_words.specs.{min_arrival_at}
use Rattle.base_truth.specs.{places_of, pin_net}
use Rattle.net_timing.specs.{after, latest_min}
use Rattle.net_timing.proofs.MinDelayLaws.{net-var, pins-none, pins-step}
use Rattle.net_timing.proofs.pins_min_arrival.Goals as goal

pub loop-j-init : goal.loop-j-init
loop-j-init c =
    let a = c.args in
    sym (pins-none a.work.now a.m a.leaves a.order a.mask a.pins (drop a.at a.mins.now) c.requires.1.known c.requires.1.four)

pub min_arrival-requires : goal.min_arrival-requires
min_arrival-requires c =
    let a = c.args in (
      c.requires.0,
      subst (λ (x : ℕ). x / 2 ≤ a.m) (sym c.pin_net-net.ensures.0)
          (net-var a.leaves a.order a.mask (c.loop-j.j - 1) a.m (c.requires.1.within (c.loop-j.j - 1) (omega arith))),
    )

pub loop-j-preserved : goal.loop-j-preserved
loop-j-preserved c =
    let a = c.args in
    let k : ℕ = c.loop-j.j in
    let ds : List ℕ = drop a.at a.mins.now in
    c.max-t.ensures
    ∙ ap (λ (x : ℕ). max x c.loop-j.t)
    (c.later-fed.ensures
    ∙ ap₂ after (c.min_arrival.ensures ∙ ap (min_arrival_at a.work.now a.m) c.pin_net-net.ensures.0) (sym (get_or-drop a.at a.mins.now (k - 1) 0)))
    ∙ ap (max (after (min_arrival_at a.work.now a.m (pin_net (places_of a.order) a.mask a.leaves (k - 1))) (get_or ds (k - 1) 0))) c.loop-j.invariant
    ∙ pins-step a.work.now a.m a.leaves a.order a.mask a.pins ds c.requires.1.known c.requires.1.four k c.loop-j-test.true (omega arith)

pub returns : goal.returns
returns c =
    let a = c.args in
    let e : c.loop-j.j ≡ 0 = omega (arith, c.loop-j-test.false) in
    c.loop-j.invariant ∙ ap (λ (i : ℕ). latest_min a.work.now a.m (drop i (fed_nets a.pins (places_of a.order) a.mask a.leaves)) (drop i (drop a.at a.mins.now))) e
