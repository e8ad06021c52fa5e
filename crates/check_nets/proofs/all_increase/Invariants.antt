-- `check_nets::all_increase` meets its contract. The invariant: the drivers passed rise.
use Rattle.base.specs.{ℕ, ◌<◌}
use Rattle.check_nets.specs.{Rising}
use Rattle.check_nets.proofs.all_increase.Given as goal

abbrev pub invariant-loop-i : goal.invariant-loop-i
invariant-loop-i l = (k : ℕ) → k < l.i → Rising l.refs l.components 0 k
