-- What is answered and left of the lent bytes.
use Rattle.std.specs.Prelude.{◌≡◌}
use Rattle.base.specs.{List, ℕ}
use Rattle.model.specs.{written_answer, written_pair, written_by, written_after, Read, Written}

-- a text written, or the refusal
abbrev pub TextLeft : Read (List ℕ) → List ℕ → Written → List ℕ → Type 0
TextLeft o text r text' = (r ≡ written_answer o) × (text' ≡ written_after o text)

-- the same with the values that are returned
abbrev pub TextReturned : Read (List ℕ) → List ℕ → Written → List ℕ → Type 0
TextReturned o text r text' = (r ≡ written_answer o) × ((text' ≡ written_after o text) × (written_pair r ≡ written_by o))
