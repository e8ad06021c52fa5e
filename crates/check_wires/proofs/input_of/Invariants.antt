-- `check_wires::input_of` meets its contract. The invariant: none of the inputs passed has the number.
use Rattle.base.specs.{ℕ, ◌<◌, ◌≡◌, get_or}
use Rattle.check_wires.proofs.input_of.Given as goal

abbrev pub invariant-loop-k : goal.invariant-loop-k
invariant-loop-k l = ((m : ℕ) → m < l.k → get_or l.inputs m 0 ≡ l.x → ⊥)
