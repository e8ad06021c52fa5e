-- `net_timing::retime_variables` meets its contract. The invariant: the first i variables are timed.
use Rattle.base.specs.{◌≡◌, List, length}
use Rattle.model.specs.declared.Cell.{Cell}
use Rattle.cover_choice.specs.{PinsOf, SlotsIn}
use Rattle.net_timing.specs.{retimed_up, Retimable, MinsOf}
use Rattle.net_timing.proofs.retime_variables.Given as goal

abbrev pub invariant-loop-i : goal.invariant-loop-i
invariant-loop-i l =
    SlotsIn l.work l.m l.n × (length l.work ≡ length l.initial.work)
    × ((cells : List Cell) → Retimable cells l.initial.work l.m → PinsOf cells l.pins → MinsOf cells l.mins → Retimable cells l.work l.m × (l.work ≡ retimed_up cells l.initial.work l.m l.i))
