-- A graph that is read is in the limits.
use Rattle.std.specs.Prelude.{◌+◌, ◌*◌, ◌≤◌}
use Rattle.base.specs.{ℕ, Memᴰ, length}
use Rattle.model.specs.{And}
use Rattle.model.specs.Graph.{Graph}

-- "A literal exceeds 2M+1": none does
pub record LowLiterals (g : Graph) : Type 0 where
  pub outputs : (l : ℕ) → Memᴰ l g.outputs → l ≤ 2 * g.size + 1
  pub lefts : (a : And) → Memᴰ a g.ands → a.left ≤ 2 * g.size + 1
  pub rights : (a : And) → Memᴰ a g.ands → a.right ≤ 2 * g.size + 1

-- "M exceeds 4,095, O exceeds 4,096, or I + A exceeds M": none of them
pub record GraphFits (g : Graph) : Type 0 where
  pub size : g.size ≤ 4095
  pub outputs : length g.outputs ≤ 4096
  pub variables : length g.inputs + length g.ands ≤ g.size
  pub low : LowLiterals g
