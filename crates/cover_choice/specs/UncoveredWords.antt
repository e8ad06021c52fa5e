-- The first output without a source, as the words have it.
use Rattle.base.specs.{ℕ, List, map}
use Rattle.model.specs.{from, refused_at, first_of, uncovered, Verdict}
use Rattle.base_words.specs.{output_at, phase_at}

-- n outputs' literals from output k on
unfoldable pub outputs_from : List ℕ → ℕ → ℕ → ℕ → List ℕ
unfolding from
outputs_from w m k n = map (output_at w m) (from k n)

-- "An output has no cover; place, the lowest such index, from 0.": from output k on
unfoldable pub missing_from : List ℕ → ℕ → ℕ → ℕ → Verdict
unfolding refused_at first_of uncovered outputs_from
missing_from w m k n = refused_at 17 (first_of (uncovered (phase_at w m) k (outputs_from w m k n)))

-- of all outputs
unfoldable pub missing : List ℕ → ℕ → ℕ → Verdict
unfolding missing_from
missing w m o = missing_from w m 0 o
