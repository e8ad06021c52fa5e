-- `check_outputs::input_word` meets its contract: the six patterns are computed, and the inputs behind them are the same in the whole block.
use Rattle.base.specs.{◌≡◌, sym, ◌∙◌, Bool, true, false, List, map, ℕ, ◌+◌, ◌*◌, ◌-◌, ◌<◌, ◌≤◌, T, eqb, eqb→eq, get_or, rules}
use Rattle.model.specs.{all, below, bit, tabulate}
use Rattle.base_truth.proofs.{at}
use Rattle.check_outputs.specs.{word_of, input_word}
use Rattle.check_outputs.proofs.AssignmentBits.{words_same, all_bits, no_bits, input-low, input-high}
use Rattle.check_outputs.proofs.input_word.Goals as goal

-- input i below 6 inside a block
inside : ℕ → ℕ
inside i = word_of (λ t. bit t i)

entries : List ℕ
unfolding inside word_of below tabulate bit
entries = map inside (below 6)

right : ℕ → Bool
unfolding entries
right i = eqb (get_or entries i 0) (inside i)

all_right : T (all right (below 6))
unfolding right all below
all_right = tt

low : (k b : ℕ) → k < 6 → get_or entries k 0 ≡ input_word k b
unfolding right inside input_word
low k b h = eqb→eq (get_or entries k 0) (inside k) (at right 6 all_right k h) ∙ words_same (λ t. bit t k) (λ t. bit (64 * b + t) k) (λ t l. sym (input-low b t k h))

high : (k b : ℕ) (v : Bool) → 6 ≤ k → bit b (k - 6) ≡ v → word_of (λ t. v) ≡ input_word k b
unfolding input_word
high k b v h e = words_same (λ t. v) (λ t. bit (64 * b + t) k) (λ t l. sym (input-high b t k l h ∙ e))

pub returns-then-k-lt6 : goal.returns-then-k-lt6
unfolding entries
returns-then-k-lt6 c = low c.args.k c.args.b (search rules)

pub returns-then-is_set : goal.returns-then-is_set
returns-then-is_set c = sym all_bits ∙ high c.args.k c.args.b true (search rules) (sym c.is_set.ensures ∙ c.if-is_set.true)

pub returns-else-is_set : goal.returns-else-is_set
returns-else-is_set c = sym no_bits ∙ high c.args.k c.args.b false (search rules) (sym c.is_set.ensures ∙ c.if-is_set.false)
