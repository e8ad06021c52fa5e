-- Words that hold a graph, every word of them said: the nodes and the first slots of the topological order in their columns, zeros in the other columns,
-- the output literals, and all other words as they were.
use Rattle.std.specs.Prelude.{◌≡◌, ◌+◌, ◌*◌, ◌≤◌, ◌<◌}
use Rattle.base.specs.{List, Memᴰ, ℕ, length, get_or}
use Rattle.model.specs.{And, Node, constant, input, undefined, both, node}
use Rattle.model.specs.Graph.{Graph}
use Rattle.model.specs.declared.Header.{Header}
use Rattle.base_words.specs.{HasCapacityFor, undefined_kind, constant_kind, input_kind, and_kind, kind_at, left_at, right_at, slot_at, position_at, output_at}
use Rattle.base_words.specs.{count_addr, lists_from, output_addr}

-- enough words for an accepted header
pub record Fit (h : Header) (w : List ℕ) : Type 0 where
  pub capacity : HasCapacityFor w h.size h.outputs
  pub outs : h.outputs ≤ 4096
  pub lines : h.inputs + h.ands ≤ h.size

-- the three words of a node
abbrev pub kind_of : Node → ℕ
kind_of constant = constant_kind
kind_of input = input_kind
kind_of undefined = undefined_kind
kind_of (both l r) = and_kind

abbrev pub left_of : Node → ℕ
left_of constant = 0
left_of input = 0
left_of undefined = 0
left_of (both l r) = l

abbrev pub right_of : Node → ℕ
right_of constant = 0
right_of input = 0
right_of undefined = 0
right_of (both l r) = r

-- the variables of a list are ordered, in its order, and no others
pub record InOrder (w : List ℕ) (m : ℕ) (order : List ℕ) : Type 0 where
  pub slots : (i : ℕ) → i < length order → slot_at w m i ≡ get_or order i 0
  pub empty : (i : ℕ) → length order ≤ i → i ≤ m → slot_at w m i ≡ 0
  pub places : (i : ℕ) → i < length order → position_at w m (get_or order i 0) ≡ i + 1
  pub waiting : (v : ℕ) → v ≤ m → ¬ Memᴰ v order → position_at w m v ≡ 0

-- the words w hold the graph g, with `order` ordered; the words before were w₀
pub record Loaded (w₀ : List ℕ) (m : ℕ) (w : List ℕ) (g : Graph) (order : List ℕ) : Type 0 where
  pub long : length w ≡ length w₀
  pub kinds : (v : ℕ) → v ≤ m → kind_at w m v ≡ kind_of (node g v)
  pub lefts : (v : ℕ) → v ≤ m → left_at w m v ≡ left_of (node g v)
  pub rights : (v : ℕ) → v ≤ m → right_at w m v ≡ right_of (node g v)
  pub in_order : InOrder w m order
  pub zero : (a : ℕ) → count_addr m 0 ≤ a → a < lists_from m → get_or w a 0 ≡ 0
  pub others : (a : ℕ) → lists_from m ≤ a → a < output_addr m 0 → get_or w a 0 ≡ get_or w₀ a 0
  pub outs : (i : ℕ) → i < length g.outputs → output_at w m i ≡ get_or g.outputs i 0
  pub behind : (a : ℕ) → output_addr m (length g.outputs) ≤ a → get_or w a 0 ≡ get_or w₀ a 0

-- ---- the graph of an accepted text

-- elements of a list are at most m
abbrev pub Within : ℕ → List ℕ → Type 0
Within m xs = (i : ℕ) → i < length xs → get_or xs i 0 ≤ m

-- an AND of the graph is its variable's node, and its literals are in range
pub record Sure (m : ℕ) (g : Graph) (a : And) : Type 0 where
  pub var : a.var ≤ m
  pub node : node g a.var ≡ both a.left a.right
  pub left : a.left ≤ 2 * m + 1
  pub right : a.right ≤ 2 * m + 1

-- the words w hold the graph g of an accepted text with this header, with `order` ordered; w₀ were the words before
pub record LoadedGraph (w₀ : List ℕ) (h : Header) (w : List ℕ) (g : Graph) (order : List ℕ) : Type 0 where
  pub size : g.size ≡ h.size
  pub ins : length g.inputs ≡ h.inputs
  pub outs : length g.outputs ≡ h.outputs
  pub gates : length g.ands ≡ h.ands
  pub represented : Loaded w₀ h.size w g order
  pub small : Within h.size order
  pub sure : (a : And) → Memᴰ a g.ands → Sure h.size g a
