-- `check_outputs::fill_slots` meets its contract. The invariant: the variables of the slots passed have their words.
use Rattle.base.specs.{◌≡◌, length, get_or, ℕ, ◌<◌}
use Rattle.base_words.specs.{slot_at}
use Rattle.check_outputs.specs.{SlotsStep}
use Rattle.check_outputs.proofs.fill_slots.Given as goal

abbrev pub invariant-loop-i : goal.invariant-loop-i
invariant-loop-i l =
    ((values : ℕ → ℕ) → SlotsStep l.work l.m l.inputs l.n l.b values → (j : ℕ) → j < l.i → get_or l.variables (slot_at l.work l.m j) 0 ≡ values (slot_at l.work l.m j)) × (length l.variables ≡ 4096)
