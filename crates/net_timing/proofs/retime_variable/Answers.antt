-- `net_timing::retime_variable` meets its contract: both own arrivals are known before either is stored.
use Rattle.base.specs.{◌≡◌, sym, ap, subst, ◌∙◌, List, ℕ, ◌+◌, ◌*◌, ◌/◌, ◌≤◌, arith}
use Rattle.model.specs.declared.Phase.{Phase}
use Rattle.base_words.specs.{HasCapacity, phase_at}
use Rattle.net_timing.specs.{inverter_min, put_min, retimed_step, InverterIn}
use Rattle.net_timing.proofs.MinDelayLaws.{kept-capacity, put-kept}
use Rattle.net_timing.proofs.retime_variable.Goals as goal

pub own_min_arrival-p-requires : goal.own_min_arrival-p-requires
own_min_arrival-p-requires c = ((c.requires.0.0, c.requires.0.1.matches, c.requires.0.2), omega arith)

pub own_min_arrival-n-requires : goal.own_min_arrival-n-requires
own_min_arrival-n-requires c = ((c.requires.0.0, c.requires.0.1.matches, c.requires.0.2), omega (arith, c.requires.1))

pub inverter_arrival-positive-requires : goal.inverter_arrival-positive-requires
inverter_arrival-positive-requires c =
    (c.requires.0.0, subst (λ (p : Phase). InverterIn c.requires.0.0 p.source) (sym c.phase.ensures) (c.requires.0.1.inverters (2 * c.args.v) (omega (arith, c.requires.1))))

pub inverter_arrival-negative-requires : goal.inverter_arrival-negative-requires
inverter_arrival-negative-requires c =
    (c.requires.0.0, subst (λ (p : Phase). InverterIn c.requires.0.0 p.source) (sym c.phase-2.ensures) (c.requires.0.1.inverters (2 * c.args.v + 1) (omega (arith, c.requires.1))))

pub overflow_mul-v-5 : goal.overflow_mul-v-5
overflow_mul-v-5 c =
    omega (arith, c.requires.1, c.requires.0.1.matches.cuts.capacity.small)

pub set_min_arrival-requires : goal.set_min_arrival-requires
set_min_arrival-requires c =
    (c.requires.0.1.matches.cuts.capacity, omega (arith, c.requires.1))

pub overflow_mul-v-6 : goal.overflow_mul-v-6
overflow_mul-v-6 c =
    omega (arith, c.requires.1, c.requires.0.1.matches.cuts.capacity.small)

pub overflow_add-v-3 : goal.overflow_add-v-3
overflow_add-v-3 c =
    omega (arith, c.requires.1, c.requires.0.1.matches.cuts.capacity.small)

pub set_min_arrival-requires-2 : goal.set_min_arrival-requires-2
set_min_arrival-requires-2 c =
    let a = c.args in
    let r = c.requires.0.1.matches.cuts.capacity in (
      subst (λ (x : List ℕ). HasCapacity x a.m) (sym c.set_min_arrival.ensures)
          (kept-capacity a.m a.work.now _ (put-kept a.work.now a.m (2 * a.v) _ r (omega (arith, c.requires.1))) r),
      omega (arith, c.requires.1),
    )

pub returns : goal.returns
unfolding retimed_step
returns c cells r pins mins =
    let a = c.args in
    let w : List ℕ = a.work.now in
    let mine : (l : ℕ) → l / 2 ≤ a.m → InverterIn cells (phase_at w a.m l).source = r.inverters in
    let first : InverterIn cells c.phase.result.source = subst (λ (x : Phase). InverterIn cells x.source) (sym c.phase.ensures) (mine (2 * a.v) (omega (arith, c.requires.1))) in
    let second : InverterIn cells c.phase-2.result.source = subst (λ (x : Phase). InverterIn cells x.source) (sym c.phase-2.ensures) (mine (2 * a.v + 1) (omega (arith, c.requires.1))) in
    let own = c.own_min_arrival-p.ensures cells r.matches pins mins in
    let other = c.own_min_arrival-n.ensures cells r.matches pins mins in
    let positive : c.inverter_arrival-positive.result ≡ _ = c.inverter_arrival-positive.ensures cells first mins ∙ (λ i. inverter_min cells (own i) (other i) (c.phase.ensures i).source) in
    let negative : c.inverter_arrival-negative.result ≡ _ = c.inverter_arrival-negative.ensures cells second mins ∙ (λ i. inverter_min cells (other i) (own i) (c.phase-2.ensures i).source) in
    c.set_min_arrival-2.ensures
    ∙ ap (λ (x : List ℕ). put_min x a.m (2 * a.v + 1) c.inverter_arrival-negative.result) c.set_min_arrival.ensures
    ∙ (λ i. put_min (put_min a.work.now a.m (2 * a.v) (positive i)) a.m (2 * a.v + 1) (negative i))
