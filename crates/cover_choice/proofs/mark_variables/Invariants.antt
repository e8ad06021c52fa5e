-- `cover_choice::mark_variables` meets its contract. The invariant: the variables that are left, done, give the same words as all.
use Rattle.base.specs.{◌≡◌, List, length}
use Rattle.model.specs.declared.Cell.{Cell}
use Rattle.cover_choice.specs.{PinsOf, MatchesIn, SlotsIn, fed_down}
use Rattle.cover_choice.proofs.mark_variables.Given as goal

abbrev pub invariant-loop-i : goal.invariant-loop-i
invariant-loop-i l =
    SlotsIn l.work l.m l.n × (length l.work ≡ length l.initial.work)
    × ((cells : List Cell) → MatchesIn cells l.initial.work l.m → PinsOf cells l.pins → MatchesIn cells l.work l.m × (fed_down cells l.work l.m l.i ≡ fed_down cells l.initial.work l.m l.n))
