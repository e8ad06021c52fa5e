-- `cover_choice::choose_variables` meets its contract. The invariant: the first i variables are chosen.
use Rattle.base.specs.{◌≡◌, List}
use Rattle.model.specs.declared.Cell.{Cell}
use Rattle.cover_choice.specs.{chosen_up, ToolsIn}
use Rattle.cover_choice.proofs.choose_variables.Given as goal

abbrev pub invariant-loop-i : goal.invariant-loop-i
invariant-loop-i l = (cells : List Cell) → ToolsIn cells l.matches l.inv → l.work ≡ chosen_up cells l.initial.work l.m l.i
