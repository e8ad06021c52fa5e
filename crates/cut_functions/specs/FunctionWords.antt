-- The functions of all cuts, in topological order, and the words that hold them.
use Rattle.std.specs.Prelude.{◌≡◌, ◌+◌, ◌/◌, ◌≤◌, ◌<◌}
use Rattle.base.specs.{List, map, ℕ, zero, suc, Option, None, Some}
use Rattle.base_words.specs.{and_kind, kind_at, left_at, right_at, position_at, slot_at, count_at, node_at, leaves_at, cuts_at, function_of, put_functions}
use Rattle.base_words.specs.{Sound}
use Rattle.cut_functions.specs.ConeTable.{walk_word, Ordered}

-- the function of the cut of v that has these leaves
unfoldable pub cut_word : List ℕ → ℕ → ℕ → List ℕ → ℕ
unfolding walk_word
cut_word w m v ls = walk_word (position_at w m v) (node_at w m) ls v

-- those of all cuts of v
unfoldable pub functions_of : List ℕ → ℕ → ℕ → List ℕ
unfolding cut_word cuts_at
functions_of w m v = map (cut_word w m v) (cuts_at w m v)

-- the words with the functions of the first n variables of the topological order
unfoldable pub filled : List ℕ → ℕ → ℕ → List ℕ
unfolding functions_of
filled w m zero = w
filled w m (suc i) = put_functions (filled w m i) m (slot_at w m i) 0 (functions_of w m (slot_at w m i))

-- the cut of u that is found, if there is one, has the leaves ls
abbrev pub SameCut : List ℕ → ℕ → ℕ → List ℕ → Option ℕ → Type 0
SameCut w m u ls None = Unit {0}
SameCut w m u ls (Some r) = (r < count_at w m u) × (leaves_at w m u r ≡ ls)

-- every cut of u has its function
pub record Done (w : List ℕ) (m u : ℕ) : Type 0 where
  pub stored : (k : ℕ) → k < count_at w m u → function_of w m u k ≡ cut_word w m u (leaves_at w m u k)

-- it is v's turn: the functions of its operands are stored
pub record Reached (w : List ℕ) (m v : ℕ) : Type 0 where
  pub ordered : Ordered w m
  pub inside : v ≤ m
  pub alive : 0 < position_at w m v
  pub sound : (u : ℕ) → u ≤ m → Sound w m u
  pub left-done : kind_at w m v ≡ and_kind → Done w m (left_at w m v / 2)
  pub right-done : kind_at w m v ≡ and_kind → Done w m (right_at w m v / 2)

-- the variable u stands in a slot before slot i
pub record Earlier (w : List ℕ) (m i u : ℕ) : Type 0 where
  pub slot : ℕ
  pub before : slot < i
  pub there : slot_at w m slot ≡ u

-- the words hold an ordered graph with its cut lists, of which n variables are ordered
pub record Ready (w : List ℕ) (m n : ℕ) : Type 0 where
  pub ordered : Ordered w m
  pub within : n ≤ m + 1
  pub slots : (i : ℕ) → i < n → slot_at w m i ≤ m
  pub alive : (i : ℕ) → i < n → 0 < position_at w m (slot_at w m i)
  pub sound : (u : ℕ) → u ≤ m → Sound w m u
  pub left-earlier : (i : ℕ) → i < n → kind_at w m (slot_at w m i) ≡ and_kind → Earlier w m i (left_at w m (slot_at w m i) / 2)
  pub right-earlier : (i : ℕ) → i < n → kind_at w m (slot_at w m i) ≡ and_kind → Earlier w m i (right_at w m (slot_at w m i) / 2)
