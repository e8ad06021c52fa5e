-- `cover_choice::best_phases` meets its contract. The invariant: `positive` and `negative` are the choice among the cuts below number k.
use Rattle.base.specs.{◌≡◌, true, false, List}
use Rattle.model.specs.{choose}
use Rattle.model.specs.declared.Cell.{Cell}
use Rattle.cells_matching.specs.{MatchTable}
use Rattle.cover_choice.specs.{found_phase, found_from}
use Rattle.cover_choice.proofs.best_phases.Given as goal

abbrev pub invariant-loop-k : goal.invariant-loop-k
invariant-loop-k l =
    (cells : List Cell) → MatchTable cells l.matches
    → (found_phase l.found.positive ≡ choose (found_from cells l.work l.m l.v false 0 l.k)) × (found_phase l.found.negative ≡ choose (found_from cells l.work l.m l.v true 0 l.k))
