-- `check_outputs::fill_differences` meets its contract. The invariant: the outputs passed have their words.
use Rattle.base.specs.{length, get_or, ◌≡◌, ℕ, ◌+◌, ◌/◌, ◌<◌}
use Rattle.base_words.specs.{output_at}
use Rattle.check_outputs.specs.{literal_word, differences}
use Rattle.check_outputs.proofs.fill_differences.Given as goal

abbrev pub invariant-loop-k : goal.invariant-loop-k
invariant-loop-k l =
    ((j : ℕ) → j < l.k → get_or l.wrong j 0
    ≡ differences (literal_word (output_at l.work l.m j) (get_or l.variables (output_at l.work l.m j / 2) 0)) (get_or l.drivers (l.first + j) 0))
    × (length l.wrong ≡ 4096)
