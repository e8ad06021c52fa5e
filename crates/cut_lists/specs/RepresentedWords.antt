-- The words in which the ordering leaves a graph: its nodes and its topological order, and no cuts.
use Rattle.std.specs.Prelude.{◌≡◌, ◌+◌, ◌*◌, ◌≤◌, ◌<◌}
use Rattle.base.specs.{List, ℕ, length, get_or}
use Rattle.model.specs.Graph.{Graph}
use Rattle.model.specs.{node, topological_order}
use Rattle.base_words.specs.{HasCapacity, left_at, right_at, slot_at, position_at, count_at, node_at}

-- the words hold graph g of M = m, of which n variables are ordered. All of this stands below the counts, and no layer above changes it
pub record Represents (w : List ℕ) (m n : ℕ) (g : Graph) : Type 0 where
  pub capacity : HasCapacity w m
  pub size : g.size ≡ m
  pub nodes : (v : ℕ) → v ≤ m → node_at w m v ≡ node g v
  pub lefts : (v : ℕ) → v ≤ m → left_at w m v ≤ 2 * m + 1
  pub rights : (v : ℕ) → v ≤ m → right_at w m v ≤ 2 * m + 1
  pub within : n ≤ m + 1
  pub long : length (topological_order g) ≡ n
  pub order : (i : ℕ) → i < n → slot_at w m i ≡ get_or (topological_order g) i 0
  pub places : (i : ℕ) → i < n → position_at w m (get_or (topological_order g) i 0) ≡ i + 1

-- no variable has cuts yet
pub record Uncut (w : List ℕ) (m : ℕ) : Type 0 where
  pub none_yet : (v : ℕ) → v ≤ m → count_at w m v ≡ 0
