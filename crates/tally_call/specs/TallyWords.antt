-- A tally put into 97 numbers.
use Rattle.std.specs.Prelude.{◌∷◌}
use Rattle.base.specs.{ℕ, List, []}
use Rattle.model.specs.declared.Tally.{Tally}
use Rattle.base_words.specs.{put_at}

unfoldable pub stored : List ℕ → Tally → List ℕ
unfolding put_at
stored s t = put_at (put_at (put_at (put_at s 0 t.gates) 32 t.areas) 64 t.occurs) 96 (t.netlists ∷ [])
