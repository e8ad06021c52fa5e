-- A graph and a library free of the refusals that their texts can bring, as far as mapping depends on it.
use Rattle.std.specs.Prelude.{◌^◌, ◌≡◌, ◌&&◌, ◌∷◌, ◌++◌}
use Rattle.base.specs.{ℕ, Bool, true, not, List, [], Memᴰ, T, eqb, leb, ltb, length}
use Rattle.model.specs.{all, each, elem, same, is_name, name_of, And, var_of, unordered, and_vars}
use Rattle.model.specs.Graph.{Graph}
use Rattle.model.specs.declared.Cell.{Cell}

-- no number stands twice
unfoldable pub distinct : List ℕ → Bool
unfolding elem
distinct [] = true
distinct (x ∷ xs) = not (elem x xs) && distinct xs

-- a graph free of refusals 9 and 12 to 15
pub record Accepted (g : Graph) : Type 0 where
  pub defined : T (distinct (0 ∷ g.inputs ++ and_vars g))
  pub in_range : T (all (λ (v : ℕ). leb v g.size) (g.inputs ++ and_vars g))
  pub used : (l : ℕ) → Memᴰ l (g.outputs ++ each (λ (a : And). a.left ∷ a.right ∷ []) g.ands) → Memᴰ (var_of l) (0 ∷ g.inputs ++ and_vars g)
  pub ordered : unordered g ≡ []

-- a cell free of refusals 4 and 6
unfoldable pub cell_fits : Cell → Bool
unfolding is_name name_of
cell_fits c = is_name (name_of c) && (leb c.pins 4 && (ltb c.table (2 ^ 2 ^ c.pins) && eqb (length c.delays) 4))

-- a library free of refusals 3 to 6: no name is repeated
unfoldable pub library_fits : List Cell → Bool
unfolding cell_fits same all name_of
library_fits [] = true
library_fits (c ∷ cs) = cell_fits c && (all (λ (d : Cell). not (same (name_of c) (name_of d))) cs && library_fits cs)
