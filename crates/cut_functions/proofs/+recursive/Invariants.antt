-- The measure of `cut_functions::recursive`: the place of the variable in topological order.
use Rattle.base_words.specs.{position_at}
use Rattle.cut_functions.proofs.+recursive.Given as goal

abbrev pub decreases-recursive : goal.decreases-recursive
decreases-recursive l = position_at l.work.now l.m l.v
