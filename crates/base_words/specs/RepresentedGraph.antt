-- What the lent words hold between the passes, in terms of `model`: the graph, its topological order, its cuts, the chosen phases and the needed ones.
use Rattle.std.specs.Prelude.{◌≡◌, ◌+◌, ◌*◌, ◌≤◌, ◌<◌}
use Rattle.base.specs.{List, [], Memᴰ, ℕ, length, get_or}
use Rattle.model.specs.{elem, node, topological_order, cuts_of, cut_table, chosen, needed}
use Rattle.model.specs.Graph.{Graph}
use Rattle.model.specs.declared.Cell.{Cell}
use Rattle.base_words.specs.Layout.{HasCapacityFor, slot_at, position_at, input_arrival_at, output_at}
use Rattle.base_words.specs.CutRecord.{node_at, cuts_at, function_of}
use Rattle.base_words.specs.Phases.{phase_at, is_needed}

-- the nodes and the outputs of a graph, and when its inputs arrive
pub record RepresentsGraph (w : List ℕ) (g : Graph) : Type 0 where
  pub capacity : HasCapacityFor w g.size (length g.outputs)
  pub nodes : (v : ℕ) → v ≤ g.size → node_at w g.size v ≡ node g v
  pub outputs : (i : ℕ) → i < length g.outputs → output_at w g.size i ≡ get_or g.outputs i 0
  pub input_arrival : (v : ℕ) → v ≤ g.size → input_arrival_at w g.size v ≡ g.input_arrival v

-- its topological order: slot i has the i-th ordered variable, and a variable's place is 1 and its slot
pub record RepresentsOrder (w : List ℕ) (g : Graph) : Type 0 where
  pub slots : (i : ℕ) → i < length (topological_order g) → slot_at w g.size i ≡ get_or (topological_order g) i 0
  pub places : (i : ℕ) → i < length (topological_order g) → position_at w g.size (get_or (topological_order g) i 0) ≡ i + 1
  pub waiting : (v : ℕ) → v ≤ g.size → ¬ Memᴰ v (topological_order g) → position_at w g.size v ≡ 0

-- its cuts, in listed order, with their functions
pub record RepresentsCuts (w : List ℕ) (g : Graph) : Type 0 where
  pub lists : (v : ℕ) → v ≤ g.size → cuts_at w g.size v ≡ cuts_of g v
  pub functions : (v : ℕ) → Memᴰ v (topological_order g) → (k : ℕ) → k < length (cuts_of g v)
      → function_of w g.size v k ≡ cut_table g (get_or (cuts_of g v) k []) v

-- the chosen phases
pub record RepresentsPhases (w : List ℕ) (cells : List Cell) (g : Graph) : Type 0 where
  pub phases : (l : ℕ) → l ≤ 2 * g.size + 1 → phase_at w g.size l ≡ chosen cells g l

-- the needed ones
pub record RepresentsNeeded (w : List ℕ) (cells : List Cell) (g : Graph) : Type 0 where
  pub marks : (l : ℕ) → l ≤ 2 * g.size + 1 → is_needed w g.size l ≡ elem l (needed cells g (chosen cells g))
