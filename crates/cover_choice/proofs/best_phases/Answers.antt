-- `cover_choice::best_phases` meets its contract. The invariant: `positive` and `negative` are the choice among the cuts below number k.
use Rattle.base.specs.{◌≡◌, ap, ◌∙◌, true, false, List, ℕ, arith}
use Rattle.model.specs.{choose, earlier}
use Rattle.model.specs.declared.Phase.{Phase}
use Rattle.base_words.specs.{count_at}
use Rattle.cover_choice.specs.{found_at}
use Rattle.cover_choice.proofs.CoveredOutputs.{from-none, from_more, from_all}
use Rattle.cover_choice.proofs.best_phases.Goals as goal

pub loop-k-init : goal.loop-k-init
loop-k-init c =
    let a = c.args in
    λ cells matches. (
      c.none_found-none.ensures ∙ from-none cells a.work.now a.m a.v false,
      c.none_found-none.ensures ∙ from-none cells a.work.now a.m a.v true,
    )

pub loop-k-preserved : goal.loop-k-preserved
loop-k-preserved c =
    let a = c.args in
    let w : List ℕ = a.work.now in
    let k : ℕ = c.loop-k.k in
    λ cells matches. (
      (c.cut_phases-found.ensures cells matches).0
          ∙ ap (λ (z : Phase). earlier z (choose (found_at cells w a.m a.v false k))) (c.loop-k.invariant cells matches).0
          ∙ from_more cells w a.m a.v false k,
      (c.cut_phases-found.ensures cells matches).1
          ∙ ap (λ (z : Phase). earlier z (choose (found_at cells w a.m a.v true k))) (c.loop-k.invariant cells matches).1
          ∙ from_more cells w a.m a.v true k,
    )

pub returns : goal.returns
returns c =
    let a = c.args in
    let e : c.loop-k.k ≡ count_at a.work.now a.m a.v = omega (arith, c.loop-k-test.false, c.count-k-end.ensures) in
    λ cells matches. (
      c.found_phase.ensures ∙ (c.loop-k.invariant cells matches).0 ∙ from_all cells a.work.now a.m a.v false c.loop-k.k e,
      c.found_phase-2.ensures ∙ (c.loop-k.invariant cells matches).1 ∙ from_all cells a.work.now a.m a.v true c.loop-k.k e,
    )
