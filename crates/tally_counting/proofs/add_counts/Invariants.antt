-- `tally_counting::add_counts` meets its contract. The invariant: the places before this one are added.
use Rattle.base.specs.{◌≡◌}
use Rattle.tally_counting.specs.{added_up_to}
use Rattle.tally_counting.proofs.add_counts.Given as goal

abbrev pub invariant-loop-i : goal.invariant-loop-i
invariant-loop-i l = l.t ≡ added_up_to l.i l.lib l.c l.initial.t
