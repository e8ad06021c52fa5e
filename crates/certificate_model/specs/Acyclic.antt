-- A graph whose variables are defined once and which has no cycle, by two numbers for each variable that the certificate gives: the place at which it is defined,
-- counted from 1 over the constant, the inputs and the ANDs; and a rank that rises along every AND. No search, and no order of the ANDs is asked for.
use Rattle.std.specs.Prelude.{◌&&◌, ◌∷◌, ◌++◌}
use Rattle.base.specs.{ℕ, suc, Bool, true, List, [], eqb, ltb, get_or}
use Rattle.model.specs.{And, var_of, and_vars}
use Rattle.model.specs.Graph.{Graph}

-- the variables of a list have the places from k on: so none stands twice
unfoldable pub ordered : List ℕ → ℕ → List ℕ → Bool
ordered places k [] = true
ordered places k (v ∷ vs) = eqb (get_or places v 0) k && ordered places (suc k) vs

-- the ranks rise along every AND
unfoldable pub rises : List ℕ → List And → Bool
unfolding var_of
rises ranks [] = true
rises ranks (a ∷ as') =
    ltb (get_or ranks (var_of a.left) 0) (get_or ranks a.var 0) && (ltb (get_or ranks (var_of a.right) 0) (get_or ranks a.var 0) && rises ranks as')

-- the constant, the inputs and the ANDs
unfoldable pub defined_vars : Graph → List ℕ
defined_vars g = 0 ∷ g.inputs ++ and_vars g

unfoldable pub is_acyclic : List ℕ → List ℕ → Graph → Bool
unfolding ordered rises defined_vars
is_acyclic places ranks g = ordered places 1 (defined_vars g) && rises ranks g.ands
