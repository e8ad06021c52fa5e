-- The ANDs that wait, listed by their operands, and those of them that are ready. An AND v has two uses: 2 v is of its left operand's variable and
-- 2 v + 1 of its right one's. A variable's uses are a list from the highest down: `heads` has the first for each variable, `links` the next for each
-- use, and 0 ends it.
use Rattle.std.specs.Prelude.{◌+◌, ◌*◌, ◌/◌, ◌%◌, ◌≤◌, ◌<◌, ◌≡◌}
use Rattle.base.specs.{ℕ, true, List, eqb, ltb, length, get_or}
use Rattle.base_words.specs.{left_at, right_at}
use Rattle.base_bitset.specs.BitSet.{BitSet}
use Rattle.base_bitset.specs.{has, removed}
use Rattle.graph_order.specs.OrderWords.{pick_n, pick_words, is_waiting, is_ready, ready_from}

-- the variable that a use is of
unfoldable pub use_of : List ℕ → ℕ → ℕ → ℕ
use_of w m o = pick_n (eqb (o % 2) 0) (left_at w m (o / 2)) (right_at w m (o / 2)) / 2

-- a use is listed: its link leads down, which no word does that was not put there
pub record Listed (links : List ℕ) (o : ℕ) : Type 0 where
  pub small : o < 8192
  pub down : get_or links o 0 < o

-- the lists, by the variable of each use; no use from n on is listed. None is left out of its list: what is listed of a variable is at or below
-- its head, and what is listed below a use is at or below that one's link.
pub record Lists (op : ℕ → ℕ) (n : ℕ) (heads links : List ℕ) : Type 0 where
  pub wide : length heads ≡ 4096
  pub long : length links ≡ 8192
  pub upto : (o : ℕ) → Listed links o → o < n
  pub head : (x : ℕ) → x < 4096 → 0 < get_or heads x 0 → Listed links (get_or heads x 0) × (op (get_or heads x 0) ≡ x)
  pub headed : (o : ℕ) → Listed links o → o ≤ get_or heads (op o) 0
  pub next : (o : ℕ) → Listed links o → 0 < get_or links o 0 → Listed links (get_or links o 0) × (op (get_or links o 0) ≡ op o)
  pub nexts : (o p : ℕ) → Listed links o → Listed links p → p < o → op p ≡ op o → p ≤ get_or links o 0

-- both uses of an AND are listed
pub record Both (links : List ℕ) (v : ℕ) : Type 0 where
  pub left : Listed links (2 * v)
  pub right : Listed links (2 * v + 1)

-- the ANDs below `scan` that wait are listed
pub record Passed (m : ℕ) (w : List ℕ) (scan : ℕ) (heads links : List ℕ) : Type 0 where
  pub from : 1 ≤ scan
  pub under : scan ≤ m + 1
  pub lists : Lists (use_of w m) (2 * scan) heads links
  pub pairs : (o : ℕ) → Listed links o → Both links (o / 2)
  pub waiting : (u : ℕ) → 1 ≤ u → u < scan → is_waiting w m u ≡ true → Both links u

-- links from a use on may be others
abbrev pub Kept : ℕ → List ℕ → List ℕ → Type 0
Kept n links₀ links = (o : ℕ) → o < n → get_or links o 0 ≡ get_or links₀ o 0

-- the marks are of the listed ANDs that are ready, but for users of v that have no use of it above o
pub record Waking (m : ℕ) (w links : List ℕ) (v o : ℕ) (bits : List ℕ) : Type 0 where
  pub sound : BitSet bits
  pub only : (u : ℕ) → u < 4096 → has bits u ≡ true → Both links u × (is_ready w m u ≡ true)
  pub all : (u : ℕ) → u ≤ m → Both links u → is_ready w m u ≡ true → ((p : ℕ) → p / 2 ≡ u → Listed links p → use_of w m p ≡ v → o < p) → has bits u ≡ true

-- the marks are of the listed ANDs that are ready
pub record Ready (m : ℕ) (w links bits : List ℕ) : Type 0 where
  pub sound : BitSet bits
  pub only : (u : ℕ) → u < 4096 → has bits u ≡ true → Both links u × (is_ready w m u ≡ true)
  pub all : (u : ℕ) → u ≤ m → Both links u → is_ready w m u ≡ true → has bits u ≡ true

-- what the walk over v's users asks
pub record UsersMarked (m : ℕ) (w : List ℕ) (v : ℕ) (heads links bits : List ℕ) : Type 0 where
  pub lists : Lists (use_of w m) (2 * (m + 1)) heads links
  pub pairs : (o : ℕ) → Listed links o → Both links (o / 2)
  pub waking : Waking m w links v (get_or heads v 0) bits

-- the AND that is ordered next, and what is known of those below it
pub record Next (m : ℕ) (w : List ℕ) (scan : ℕ) (heads links bits : List ℕ) (r : ℕ) : Type 0 where
  pub next : r ≡ ready_from w m 1
  pub passed : Passed m w (pick_n (ltb r scan) scan r) heads links
  pub ready : Ready m w links bits

-- how far the ANDs are passed once v is ordered, and the marks without v
unfoldable pub passed_to : ℕ → ℕ → ℕ
passed_to scan v = pick_n (ltb v scan) scan (v + 1)

unfoldable pub taken_from : ℕ → ℕ → List ℕ → List ℕ
taken_from scan v bits = pick_words (ltb v scan) (removed bits v) bits
