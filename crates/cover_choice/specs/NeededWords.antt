-- The needed phases, marked in the words: those of the outputs, then what feeds the needed phases of each variable, in reverse topological order.
use Rattle.std.specs.Prelude.{◌∷◌}
use Rattle.base.specs.{ℕ, zero, suc, cond, List, []}
use Rattle.model.specs.{feeds, backwards}
use Rattle.model.specs.declared.Cell.{Cell}
use Rattle.base_words.specs.{slot_at, output_at, cuts_at, phase_at, is_needed, put_needed}

-- the words once the phases of some literals are needed
unfoldable pub put_all : List ℕ → ℕ → List ℕ → List ℕ
unfolding put_needed
put_all w m [] = w
put_all w m (l ∷ ls) = put_all (put_needed w m l) m ls

-- the words once the n outputs from output k on are needed
unfoldable pub put_outputs : List ℕ → ℕ → ℕ → ℕ → List ℕ
unfolding put_needed
put_outputs w m k zero = w
put_outputs w m k (suc n) = put_outputs (put_needed w m (output_at w m k)) m (suc k) n

-- the nets that feed the phase of a literal, as the words have it
abbrev pub feeds_at : List Cell → List ℕ → ℕ → ℕ → List ℕ
feeds_at cells w m l = feeds cells (cuts_at w m) l (phase_at w m l).source

-- the words once a phase is done: if it is needed, so is what feeds it
unfoldable pub fed_once : List Cell → List ℕ → ℕ → ℕ → List ℕ
unfolding is_needed put_all feeds cuts_at
fed_once cells w m l = cond (is_needed w m l) (put_all w m (feeds_at cells w m l)) w

-- and once several are, one after the other
unfoldable pub fed_all : List Cell → List ℕ → ℕ → List ℕ → List ℕ
unfolding fed_once
fed_all cells w m [] = w
fed_all cells w m (l ∷ ls) = fed_all cells (fed_once cells w m l) m ls

-- the words once the phases of a variable are done, "one that an inverter drives before the one that feeds it"
unfoldable pub fed_step : List Cell → List ℕ → ℕ → ℕ → List ℕ
unfolding fed_all backwards
fed_step cells w m v = fed_all cells w m (backwards (phase_at w m) v)

-- the words once the first n ordered variables are done, the last first
unfoldable pub fed_down : List Cell → List ℕ → ℕ → ℕ → List ℕ
unfolding fed_step
fed_down cells w m zero = w
fed_down cells w m (suc n) = fed_down cells (fed_step cells w m (slot_at w m n)) m n

-- the words once all needed phases are marked
unfoldable pub marked : List Cell → List ℕ → ℕ → ℕ → ℕ → List ℕ
unfolding fed_down put_outputs
marked cells w m o n = fed_down cells (put_outputs w m 0 o) m n
