-- `check_outputs::first_wrong` meets its contract. The invariant: what is sought from here on is what is sought.
use Rattle.base.specs.{◌≡◌, ◌-◌, get_or}
use Rattle.model.specs.{bit}
use Rattle.graph_order.specs.{seek}
use Rattle.check_outputs.proofs.first_wrong.Given as goal

abbrev pub invariant-loop-j : goal.invariant-loop-j
invariant-loop-j l = seek (λ j. bit (get_or l.wrong j 0) l.t) l.outputs 0 ≡ seek (λ j. bit (get_or l.wrong j 0) l.t) (l.outputs - l.j) l.j
