-- `cover_choice::match_phase` meets its contract: by whether a match is earlier.
use Rattle.base.specs.{ap, ◌∙◌, arith}
use Rattle.cells_matching.specs.declared.Best.{Best}
use Rattle.cells_matching.specs.{phase_as}
use Rattle.cells_matching.proofs.{under_first, under_rest}
use Rattle.cover_choice.proofs.match_phase.Goals as goal

pub returns-then-best-last : goal.returns-then-best-last
returns-then-best-last c =
    let a = c.args in
    λ cells matches.
    let e = c.best_match-best.ensures cells matches in
    ap (phase_as a.k) e
    ∙ under_first a.former.cut a.former.best cells a.t.now a.k a.f (omega (arith, c.if-best-last.true, ap (λ (z : Best). z.arrival) e))

pub returns : goal.returns
returns c =
    let a = c.args in
    λ cells matches.
    let e = c.best_match-best.ensures cells matches in
    under_rest a.former.cut a.former.best cells a.t.now a.k a.f (omega (arith, c.if-best-last.false, ap (λ (z : Best). z.arrival) e))
