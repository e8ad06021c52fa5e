-- What the cut layer asks of the words and what it leaves: the cut lists, and then the functions of the cuts, unless there are too many.
use Rattle.model.specs.{Verdict}
use Rattle.std.specs.Prelude.{◌≡◌, ◌/◌, ◌<◌, Ok, Err}
use Rattle.base.specs.{List, ℕ}
use Rattle.base_words.specs.{and_kind, kind_at, left_at, right_at, position_at, slot_at}
use Rattle.cut_functions.specs.{Ordered, Earlier, filled}
use Rattle.cut_lists.specs.CutLists as lists

-- the words hold an ordered graph of which n variables are ordered, each AND behind its operands, and no cuts
pub record Ready (w : List ℕ) (m n : ℕ) : Type 0 where
  pub lists : lists.Ready w m n
  pub ordered : Ordered w m
  pub alive : (i : ℕ) → i < n → 0 < position_at w m (slot_at w m i)
  pub left-earlier : (i : ℕ) → i < n → kind_at w m (slot_at w m i) ≡ and_kind → Earlier w m i (left_at w m (slot_at w m i) / 2)
  pub right-earlier : (i : ℕ) → i < n → kind_at w m (slot_at w m i) ≡ and_kind → Earlier w m i (right_at w m (slot_at w m i) / 2)

-- the functions join the lists, unless there was a refusal
unfoldable pub filled_after : Verdict → List ℕ → ℕ → ℕ → List ℕ
unfolding filled
filled_after (Ok tt) w m n = filled w m n
filled_after (Err r) w m n = w

-- the words after the layer: those of the entry with the lists of all variables up to the first that is refused, and with the functions if none is
unfoldable pub enumerated : List ℕ → ℕ → ℕ → List ℕ
unfolding filled_after lists.listing lists.stored
enumerated w m n = filled_after (lists.listing w m n).answer (lists.stored w m (lists.listing w m n).known) m n
