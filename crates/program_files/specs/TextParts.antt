-- Where a text that byte 0 ends does so.
use Rattle.std.specs.Prelude.{◌+◌, ◌∷◌}
use Rattle.base.specs.{ℕ, suc, cond, List, [], eqb, drop}

-- the bytes before the first byte 0
unfoldable pub before : List ℕ → ℕ
before [] = 0
before (b ∷ bs) = cond (eqb b 0) 0 (suc (before bs))

-- the end of the text that begins at a place
unfoldable pub end_from : List ℕ → ℕ → ℕ
unfolding before
end_from s from = from + before (drop from s)
