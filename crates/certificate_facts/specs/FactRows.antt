-- The rows that lent words hold, four words each; what is left over is no row.
use Rattle.std.specs.Prelude.{◌∷◌}
use Rattle.base.specs.{ℕ, List, []}
use Rattle.certificate_model.specs.declared.Row.{Row}

unfoldable pub rows_in : List ℕ → List Row
rows_in [] = []
rows_in (a ∷ []) = []
rows_in (a ∷ b ∷ []) = []
rows_in (a ∷ b ∷ c ∷ []) = []
rows_in (a ∷ b ∷ c ∷ d ∷ ws) = record { a = a; b = b; c = c; d = d } ∷ rows_in ws
