-- The cut lists of all variables, in topological order, in terms of `model`, and the words that hold them.
use Rattle.std.specs.Prelude.{◌∷◌, ◌≡◌, ◌+◌, ◌*◌, ◌≤◌, ◌<◌, Ok, Err}
use Rattle.base.specs.{Bool, cond, List, [], ℕ, zero, suc, leb, length}
use Rattle.model.specs.{cut_limit, find, node_cuts, Verdict, refused_with}
use Rattle.base_words.specs.{HasCapacity, left_at, right_at, slot_at, count_at, node_at, cuts_at, put_list, Sound}

-- the cuts of v, from the lists in the words
unfoldable pub cuts_now : List ℕ → ℕ → ℕ → List (List ℕ)
unfolding node_cuts cuts_at node_at
cuts_now w m v = node_cuts (cuts_at w m) v (node_at w m v)

-- "more than 18 cuts" is refused
unfoldable pub few : List ℕ → ℕ → ℕ → Bool
unfolding cuts_now
few w m v = leb (length (cuts_now w m v)) cut_limit

-- the words with v's cuts stored, where there are few enough
unfoldable pub listed : List ℕ → ℕ → ℕ → List ℕ
unfolding few cuts_now put_list
listed w m v = cond (few w m v) (put_list w m v (cuts_now w m v)) w

-- the cuts of each variable that is done, the last first
abbrev pub Known : Type 0
Known = List (ℕ × List (List ℕ))

-- the cuts of v, from what is known: the step of `model`'s `cut_lists_of`, over the words
unfoldable pub step_cuts : List ℕ → ℕ → Known → ℕ → List (List ℕ)
unfolding node_cuts find
step_cuts w m known v = node_cuts (λ u. find [] u known) v (node_at w m v)

-- what listing has come to: the answer so far, and what is known
pub record State : Type 0 where
  pub answer : Verdict
  pub known : Known

abbrev pub begun : State
begun = record { answer = Ok tt; known = [] }

-- v's list joins those known, unless it has more cuts than the limit: "16. An AND, used or not, has more than 18 cuts"
unfoldable pub join : ℕ → List (List ℕ) → Known → State
join v cs known = cond (leb (length cs) cut_limit) (record { answer = Ok tt; known = (v, cs) ∷ known }) (record { answer = refused_with 16 v; known = known })

-- one variable more; after a refusal nothing more is done
unfoldable pub onward : List ℕ → ℕ → ℕ → Verdict → Known → State
unfolding join step_cuts
onward w m v (Ok tt) known = join v (step_cuts w m known v) known
onward w m v (Err r) known = record { answer = Err r; known = known }

-- the first n variables of the topological order
unfoldable pub listing : List ℕ → ℕ → ℕ → State
unfolding onward
listing w m zero = begun
listing w m (suc i) = onward w m (slot_at w m i) (listing w m i).answer (listing w m i).known

-- the words with all known lists stored
unfoldable pub stored : List ℕ → ℕ → Known → List ℕ
stored w m [] = w
stored w m (e ∷ known) = put_list (stored w m known) m e.0 e.1

-- the words hold a graph of M = m of which n variables are ordered, and no cuts yet
pub record Ready (w : List ℕ) (m n : ℕ) : Type 0 where
  pub capacity : HasCapacity w m
  pub ordered : n ≤ m + 1
  pub slots : (i : ℕ) → i < n → slot_at w m i ≤ m
  pub lefts : (v : ℕ) → v ≤ m → left_at w m v ≤ 2 * m + 1
  pub rights : (v : ℕ) → v ≤ m → right_at w m v ≤ 2 * m + 1
  pub none_yet : (v : ℕ) → v ≤ m → count_at w m v ≡ 0

-- the words in the course of listing: operands within the graph, and lists that can be read
pub record Operands (w : List ℕ) (m : ℕ) : Type 0 where
  pub capacity : HasCapacity w m
  pub lefts : (v : ℕ) → v ≤ m → left_at w m v ≤ 2 * m + 1
  pub rights : (v : ℕ) → v ≤ m → right_at w m v ≤ 2 * m + 1
  pub sound : (v : ℕ) → v ≤ m → Sound w m v
