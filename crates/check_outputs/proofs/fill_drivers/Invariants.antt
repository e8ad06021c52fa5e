-- `check_outputs::fill_drivers` meets its contract. The invariant: the drivers passed have their words.
use Rattle.base.specs.{◌≡◌, length, get_or, ℕ, ◌<◌}
use Rattle.check_outputs.specs.{DriversStep}
use Rattle.check_outputs.proofs.fill_drivers.Given as goal

abbrev pub invariant-loop-p : goal.invariant-loop-p
invariant-loop-p l =
    ((values : ℕ → ℕ) → DriversStep l.nets l.refs l.order l.n l.b values → (q : ℕ) → q < l.p → get_or l.drivers (get_or l.order q 0) 0 ≡ values (get_or l.order q 0)) × (length l.drivers ≡ 10923)
