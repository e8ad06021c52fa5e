-- The function of a cut as a word of 16 rows, by the walk from the root down, and what a walk has noted.
use Rattle.std.specs.Prelude.{◌≡◌, ◌∷◌, ◌+◌, ◌*◌, ◌/◌, ◌≤◌, ◌<◌}
use Rattle.base.specs.{cond, List, [], ℕ, zero, suc, bit_and, eqb, ltb, length, get_or, set, Option, None, Some}
use Rattle.model.specs.{Node, constant, input, undefined, both, var_of, negated, phase_table}
use Rattle.base_words.specs.{HasCapacity, and_kind, kind_at, left_at, right_at, position_at, node_at}
use Rattle.base_truth.specs.{leaf_table}

-- "leaf number i (ascending, from 0) is bit i of the row"; 65536 where v is none
unfoldable pub leaf_word : List ℕ → ℕ → ℕ → ℕ
leaf_word [] i v = 65536
leaf_word (x ∷ xs) i v = cond (eqb v x) (leaf_table i) (leaf_word xs (suc i) v)

-- a literal's table
unfoldable pub literal_word : (ℕ → ℕ) → ℕ → ℕ
unfolding phase_table negated var_of
literal_word look l = phase_table (negated l) (look (var_of l))

-- "variable 0 gives 0; an AND gives the AND of its literals"
unfoldable pub node_word : (ℕ → ℕ) → Node → ℕ
unfolding literal_word
node_word look constant = 0
node_word look input = 0
node_word look undefined = 0
node_word look (both l r) = bit_and (literal_word look l) (literal_word look r)

-- a word below 65536, or else another
abbrev pub or_word : ℕ → ℕ → ℕ
or_word k d = cond (ltb k 65536) k d

-- "from the root down, a leaf gives its bit and the walk stops there"
unfoldable pub walk_word : ℕ → (ℕ → Node) → List ℕ → ℕ → ℕ
unfolding leaf_word node_word
walk_word zero node ls v = 0
walk_word (suc f) node ls v = or_word (leaf_word ls 0 v) (node_word (walk_word f node ls) (node v))

-- A walk notes of each variable 65536 times its own number, which is `base` below, and the variable's table: so what an earlier walk noted is below `base`.

-- the notes with the leaves' tables, that of the first over those behind it
unfoldable pub leaf_notes : List ℕ → ℕ → ℕ → List ℕ → List ℕ
leaf_notes [] i base notes = notes
leaf_notes (x ∷ xs) i base notes = set (leaf_notes xs (suc i) base notes) x (base + leaf_table i)

-- there is a note for each variable, and all are below this
pub record Early (m base : ℕ) (notes : List ℕ) : Type 0 where
  pub long : length notes ≡ 4096
  pub before : (u : ℕ) → u ≤ m → get_or notes u 0 < base

-- what a walk over the leaves ls has noted is right, at any fuel that is enough, and each leaf is noted
pub record Noted (w : List ℕ) (m : ℕ) (ls : List ℕ) (base : ℕ) (notes : List ℕ) : Type 0 where
  pub right : (u : ℕ) → u ≤ m → base ≤ get_or notes u 0 → (f : ℕ) → position_at w m u ≤ suc f → get_or notes u 0 ≡ base + walk_word (suc f) (node_at w m) ls u
  pub leaves : (u : ℕ) → u ≤ m → leaf_word ls 0 u < 65536 → base ≤ get_or notes u 0

-- the words hold an ordered graph
pub record Ordered (w : List ℕ) (m : ℕ) : Type 0 where
  pub capacity : HasCapacity w m
  pub lefts : (v : ℕ) → v ≤ m → left_at w m v ≤ 2 * m + 1
  pub rights : (v : ℕ) → v ≤ m → right_at w m v ≤ 2 * m + 1
  pub left-ordered : (v : ℕ) → v ≤ m → kind_at w m v ≡ and_kind → 0 < position_at w m (left_at w m v / 2)
  pub right-ordered : (v : ℕ) → v ≤ m → kind_at w m v ≡ and_kind → 0 < position_at w m (right_at w m v / 2)
  pub left-first : (v : ℕ) → v ≤ m → kind_at w m v ≡ and_kind → position_at w m (left_at w m v / 2) < position_at w m v
  pub right-first : (v : ℕ) → v ≤ m → kind_at w m v ≡ and_kind → position_at w m (right_at w m v / 2) < position_at w m v

-- what a walk from v down over the leaves ls answers, r, and leaves, out
pub record Walked (w : List ℕ) (m : ℕ) (ls : List ℕ) (base v : ℕ) (out : List ℕ) (r : ℕ) : Type 0 where
  pub table : (f : ℕ) → position_at w m v ≤ f → r ≡ walk_word f (node_at w m) ls v
  pub noted : Noted w m ls base out

-- the same where r is a table, whichever the leaves are that are noted; elsewhere v is an AND that is not noted, and what is noted
-- stays right. Notes of variables that are ordered after v stay.
pub record FromLeaves (w : List ℕ) (m base v : ℕ) (notes out : List ℕ) (r : ℕ) : Type 0 where
  pub walked : r < 65536 → (ls : List ℕ) → Noted w m ls base notes → Walked w m ls base v out r
  pub kept : 65536 ≤ r → (ls : List ℕ) → Noted w m ls base notes → Noted w m ls base out
  pub kind : 65536 ≤ r → kind_at w m v ≡ and_kind
  pub unnoted : 65536 ≤ r → get_or out v 0 < base
  pub early : Early m (base + 65536) out
  pub later : (i : ℕ) → position_at w m v < position_at w m i → get_or out i 0 ≡ get_or notes i 0

-- a table, or 65536 where a walk is asked for: above every table
abbrev pub or_missing : Option ℕ → ℕ
or_missing None = 65536
or_missing (Some x) = x

-- the AND of two literals whose variables have the tables x and y
unfoldable pub joined : ℕ → ℕ → ℕ → ℕ → ℕ
unfolding literal_word
joined l x r y = bit_and (literal_word (λ u. x) l) (literal_word (λ u. y) r)
