-- Values under 64 assignments at once: bit t of a word of block b is the value under assignment 64 b + t.
use Rattle.std.specs.Prelude.{◌+◌, ◌*◌, ◌&&◌}
use Rattle.base.specs.{ℕ, Bool, not, cond, beq, List, map}
use Rattle.model.specs.{bit, flip, value, row_of, negated, tabulate}

-- the word with these values
unfoldable pub word_of : (ℕ → Bool) → ℕ
unfolding tabulate
word_of f = tabulate f 64

-- "input k as bit k"
unfoldable pub input_word : ℕ → ℕ → ℕ
unfolding word_of bit
input_word k b = word_of (λ t. bit (64 * b + t) k)

-- one of two words, bit by bit
unfoldable pub selected : ℕ → ℕ → ℕ → ℕ
unfolding word_of bit
selected s x y = word_of (λ t. cond (bit s t) (bit x t) (bit y t))

-- a gate of this table, its pins at these words
unfoldable pub gate_word : ℕ → List ℕ → ℕ
unfolding word_of bit value row_of
gate_word table pins = word_of (λ t. value table (row_of (map (λ (p : ℕ). bit p t) pins)))

-- a literal whose variable is at x
unfoldable pub literal_word : ℕ → ℕ → ℕ
unfolding word_of bit flip negated
literal_word l x = word_of (λ t. flip (negated l) (bit x t))

-- the AND of two literals whose variables are at x and y
unfoldable pub and_word : ℕ → ℕ → ℕ → ℕ → ℕ
unfolding word_of bit flip negated
and_word l x r y = word_of (λ t. flip (negated l) (bit x t) && flip (negated r) (bit y t))

-- where a word differs from another
unfoldable pub differences : ℕ → ℕ → ℕ
unfolding word_of bit
differences x y = word_of (λ t. not (beq (bit x t) (bit y t)))
