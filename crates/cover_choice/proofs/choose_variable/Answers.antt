-- `cover_choice::choose_variable` meets its contract: what is stored has room, and is the choice with inverters.
use Rattle.base.specs.{◌≡◌, sym, ap, subst, ◌∙◌, true, false, List, ℕ, ◌+◌, arith, length}
use Rattle.model.specs.{joined}
use Rattle.model.specs.declared.Phase.{Phase}
use Rattle.base_words.specs.{put_at, HasCapacity, positive_addr, negative_addr, PhaseFits, phase_words}
use Rattle.base_words.proofs.{length-put, length-phase}
use Rattle.cover_choice.specs.{uninverted_at, put_phases, chosen_step}
use Rattle.cover_choice.proofs.PhaseBounds.{Fitting, uninverted-fit}
use Rattle.cover_choice.proofs.ChoiceSteps.{sooner_is, step-fit}
use Rattle.cover_choice.proofs.choose_variable.Goals as goal

pub invert-requires : goal.invert-requires
invert-requires c =
    let a = c.args in
    let f : Fitting (1073741823 + 131071) (uninverted_at c.requires.0.0 a.work.now a.m a.v true) = uninverted-fit c.requires.0.0 c.requires.0.1.built.matchable a.work.now a.m 1073741823 c.requires.1.early c.requires.1.cuts c.requires.1.input_arrival a.v c.requires.2 true in
    omega (arith, ap (λ (p : Phase). p.arrival) (c.uninverted_source-b.ensures c.requires.0.0 c.requires.0.1.built).1, f.soon)

pub invert-requires-2 : goal.invert-requires-2
invert-requires-2 c =
    let a = c.args in
    let f : Fitting (1073741823 + 131071) (uninverted_at c.requires.0.0 a.work.now a.m a.v false) = uninverted-fit c.requires.0.0 c.requires.0.1.built.matchable a.work.now a.m 1073741823 c.requires.1.early c.requires.1.cuts c.requires.1.input_arrival a.v c.requires.2 false in
    omega (arith, ap (λ (p : Phase). p.arrival) (c.uninverted_source-b.ensures c.requires.0.0 c.requires.0.1.built).0, f.soon)

pub set_positive-requires : goal.set_positive-requires
set_positive-requires c =
    let a = c.args in
    let one =
    sooner_is c.requires.0.0 a.inv c.uninverted_source-b.result.positive c.uninverted_source-b.result.negative (uninverted_at c.requires.0.0 a.work.now a.m a.v false) (uninverted_at c.requires.0.0 a.work.now a.m a.v true)
    c.invert.result c.sooner-positive.result c.requires.0.1.inverter (c.uninverted_source-b.ensures c.requires.0.0 c.requires.0.1.built).0 (c.uninverted_source-b.ensures c.requires.0.0 c.requires.0.1.built).1 c.invert.ensures c.sooner-positive.ensures in
    (c.requires.1.cuts.capacity, c.requires.2, subst PhaseFits (sym one) (step-fit c.requires.0.0 c.requires.0.1.built.matchable a.work.now a.m 1073741823 c.requires.1.cuts c.requires.1.input_arrival c.requires.1.early a.v c.requires.2 false).fit)

pub set_negative-requires : goal.set_negative-requires
set_negative-requires c =
    let a = c.args in
    let w' : List ℕ = c.set_positive.new.work in
    let l : length w' ≡ length a.work.now =
    ap length c.set_positive.ensures
    ∙ length-put a.work.now (positive_addr a.m a.v) (phase_words c.sooner-positive.result) (omega (arith, c.requires.1.cuts.capacity.capacity, length-phase c.sooner-positive.result)) in
    let r : HasCapacity w' a.m = record { small = c.requires.1.cuts.capacity.small; capacity = omega (arith, c.requires.1.cuts.capacity.capacity) } in
    let two =
    sooner_is c.requires.0.0 a.inv c.uninverted_source-b.result.negative c.uninverted_source-b.result.positive (uninverted_at c.requires.0.0 a.work.now a.m a.v true) (uninverted_at c.requires.0.0 a.work.now a.m a.v false)
    c.invert-2.result c.sooner-negative.result c.requires.0.1.inverter (c.uninverted_source-b.ensures c.requires.0.0 c.requires.0.1.built).1 (c.uninverted_source-b.ensures c.requires.0.0 c.requires.0.1.built).0 c.invert-2.ensures c.sooner-negative.ensures in
    (r, c.requires.2, subst PhaseFits (sym two) (step-fit c.requires.0.0 c.requires.0.1.built.matchable a.work.now a.m 1073741823 c.requires.1.cuts c.requires.1.input_arrival c.requires.1.early a.v c.requires.2 true).fit)

pub returns : goal.returns
unfolding chosen_step put_phases joined
returns c =
    let a = c.args in
    let w : List ℕ = a.work.now in
    λ cells tools.
    let one =
    sooner_is cells a.inv c.uninverted_source-b.result.positive c.uninverted_source-b.result.negative (uninverted_at cells a.work.now a.m a.v false) (uninverted_at cells a.work.now a.m a.v true)
    c.invert.result c.sooner-positive.result tools.inverter (c.uninverted_source-b.ensures cells tools.built).0 (c.uninverted_source-b.ensures cells tools.built).1 c.invert.ensures c.sooner-positive.ensures in
    let two =
    sooner_is cells a.inv c.uninverted_source-b.result.negative c.uninverted_source-b.result.positive (uninverted_at cells a.work.now a.m a.v true) (uninverted_at cells a.work.now a.m a.v false)
    c.invert-2.result c.sooner-negative.result tools.inverter (c.uninverted_source-b.ensures cells tools.built).1 (c.uninverted_source-b.ensures cells tools.built).0 c.invert-2.ensures c.sooner-negative.ensures in
    c.set_negative.ensures
    ∙ ap (λ (x : List ℕ). put_at x (negative_addr a.m a.v) (phase_words c.sooner-negative.result)) c.set_positive.ensures
    ∙ (λ i. put_at (put_at w (positive_addr a.m a.v) (phase_words (one i))) (negative_addr a.m a.v) (phase_words (two i)))
