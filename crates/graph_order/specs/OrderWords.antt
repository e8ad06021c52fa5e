-- What ordering the ANDs answers and leaves in the words: a slot for each, one after the other.
use Rattle.model.specs.{Verdict, refused_with}
use Rattle.std.specs.Prelude.{◌+◌, ◌-◌, ◌*◌, ◌/◌, ◌≤◌, ◌≡◌, ◌&&◌, ◌∷◌, Ok}
use Rattle.base.specs.{cond, Option, None, Some, ℕ, zero, suc, Bool, true, false, not, List, [], eqb, leb}
use Rattle.model.specs.declared.Header.{Header}
use Rattle.base_words.specs.{put_at, and_kind, slot_addr, position_addr, kind_at, left_at, right_at, position_at}

abbrev pub pick_n : Bool → ℕ → ℕ → ℕ
pick_n true a b = a
pick_n false a b = b

abbrev pub pick_words : Bool → List ℕ → List ℕ → List ℕ
pick_words true a b = a
pick_words false a b = b

abbrev pub pick_verdict : Bool → Verdict → Verdict → Verdict
pick_verdict true a b = a
pick_verdict false a b = b

-- a variable of the graph: none is beyond M
abbrev pub in_graph : ℕ → ℕ → Option ℕ
in_graph m v = cond (leb v m) (Some v) None

-- v in slot i of the topological order
unfoldable pub put_ordered : List ℕ → ℕ → ℕ → ℕ → List ℕ
put_ordered w m i v = put_at (put_at w (slot_addr m i) (v ∷ [])) (position_addr m v) ((i + 1) ∷ [])

-- the operands of each AND are literals of the graph
pub record Operands (w : List ℕ) (m : ℕ) : Type 0 where
  pub left : (v : ℕ) → v ≤ m → kind_at w m v ≡ and_kind → left_at w m v ≤ 2 * m + 1
  pub right : (v : ℕ) → v ≤ m → kind_at w m v ≡ and_kind → right_at w m v ≤ 2 * m + 1

-- an AND that is not ordered
unfoldable pub is_waiting : List ℕ → ℕ → ℕ → Bool
is_waiting w m v = eqb (kind_at w m v) and_kind && eqb (position_at w m v) 0

-- a literal's variable is ordered
unfoldable pub is_ordered : List ℕ → ℕ → ℕ → Bool
is_ordered w m l = not (eqb (position_at w m (l / 2)) 0)

-- an AND "whose operands are both placed", and that is not ordered itself
unfoldable pub is_ready : List ℕ → ℕ → ℕ → Bool
is_ready w m v = is_waiting w m v && (is_ordered w m (left_at w m v) && is_ordered w m (right_at w m v))

-- the first of n numbers from i on that passes the test, or the number behind them
unfoldable pub seek : (ℕ → Bool) → ℕ → ℕ → ℕ
seek p zero i = i
seek p (suc n) i = pick_n (p i) i (seek p n (i + 1))

unfoldable pub waiting_from : List ℕ → ℕ → ℕ → ℕ
waiting_from w m low = seek (is_waiting w m) (m + 1 - low) low

unfoldable pub ready_from : List ℕ → ℕ → ℕ → ℕ
ready_from w m low = seek (is_ready w m) (m + 1 - low) low

-- the same, where it is a variable of the graph
abbrev pub ready_in : List ℕ → ℕ → ℕ → Option ℕ
ready_in w m low = in_graph m (ready_from w m low)

-- the AND that is ordered next, or M + 1
unfoldable pub next_and : List ℕ → ℕ → ℕ → ℕ
next_and w m low = ready_from w m (waiting_from w m low)

-- n slots from a slot on; below low no AND waits
unfoldable pub order_words : ℕ → ℕ → ℕ → ℕ → List ℕ → List ℕ
order_words m zero slot low w = w
order_words m (suc n) slot low w =
    pick_words (leb (next_and w m low) m) (order_words m n (slot + 1) (waiting_from w m low) (put_ordered w m slot (next_and w m low))) w

unfoldable pub order_low : ℕ → ℕ → ℕ → ℕ → List ℕ → ℕ
order_low m zero slot low w = low
order_low m (suc n) slot low w =
    pick_n (leb (next_and w m low) m) (order_low m n (slot + 1) (waiting_from w m low) (put_ordered w m slot (next_and w m low))) (waiting_from w m low)

-- the ANDs behind variable 0 and the inputs
unfoldable pub ordered_words : List ℕ → Header → List ℕ
unfolding order_words
ordered_words w h = order_words h.size h.ands (h.inputs + 1) 1 w

-- the first AND that still waits
unfoldable pub ordered_verdict : List ℕ → Header → Verdict
unfolding ordered_words order_low waiting_from
ordered_verdict w h =
    let v = waiting_from (ordered_words w h) h.size (order_low h.size h.ands (h.inputs + 1) 1 w) in
    pick_verdict (leb v h.size) (refused_with 15 v) (Ok tt)
