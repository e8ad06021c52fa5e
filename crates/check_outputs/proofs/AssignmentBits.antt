-- Laws of words of 64 bits:
--     bit_word            a bit of the word with given values
--     as_word             a number with given bits is that word
--     all_bits, no_bits   the words that are the same everywhere
--     complement          what is left of all bits
--     input-low, input-high     an input inside a block, and one that is the same in it
use Rattle.base.specs.{◌≡◌, refl, sym, ap, ◌∙◌, Bool, true, false, not, ℕ, zero, suc, ◌+◌, ◌-◌, ◌*◌, ◌/◌, ◌%◌, ◌^◌, ◌<◌, ◌≤◌, pow-suc}
use Rattle.base.specs.{arith, eqb}
use Rattle.model.specs.{bit, one, value, tabulate}
use Rattle.base_truth.proofs.{value-tabulate, tabulate-small, tabulate-same, tabulate-value}
use Rattle.check_outputs.specs.{word_of}

pub bit_word : (f : ℕ → Bool) (t : ℕ) → t < 64 → bit (word_of f) t ≡ f t
unfolding word_of value
bit_word f t h = value-tabulate 64 f t h

pub word_small : (f : ℕ → Bool) → word_of f < 18446744073709551616
unfolding word_of
word_small f = tabulate-small 64 f

pub words_same : (f g : ℕ → Bool) → ((t : ℕ) → t < 64 → f t ≡ g t) → word_of f ≡ word_of g
unfolding word_of
words_same f g h = tabulate-same 64 f g h

-- a word is that of its bits
pub own-word : (x : ℕ) → x < 18446744073709551616 → word_of (bit x) ≡ x
unfolding word_of value
own-word x h = tabulate-value 64 x h

pub as_word : (x : ℕ) (f : ℕ → Bool) → x < 18446744073709551616 → ((t : ℕ) → t < 64 → bit x t ≡ f t) → x ≡ word_of f
as_word x f small same = sym (own-word x small) ∙ words_same (bit x) f same

-- ---- all bits

one-not : (b : Bool) → one b + one (not b) ≡ 1
unfolding one
one-not true = refl
one-not false = refl

both-sum : (n : ℕ) (f : ℕ → Bool) → tabulate f n + tabulate (λ r. not (f r)) n + 1 ≡ 2 ^ n
unfolding tabulate
both-sum zero f = refl
both-sum (suc n) f = omega (arith, pow-suc 2 n, one-not (f 0), both-sum n (λ r. f (suc r)))

-- what is left of all bits
left_of_lem : (x y z : ℕ) → x + y + 1 ≡ 18446744073709551616 → x ≡ z → 18446744073709551615 - z ≡ y
left_of_lem x y z e q = omega arith

word_sum : (f : ℕ → Bool) → word_of f + word_of (λ t. not (f t)) + 1 ≡ 18446744073709551616
unfolding word_of
word_sum f = both-sum 64 f

pub complement : (x : ℕ) → x < 18446744073709551616 → 18446744073709551615 - x ≡ word_of (λ t. not (bit x t))
complement x h = left_of_lem (word_of (bit x)) (word_of (λ t. not (bit x t))) x (word_sum (bit x)) (own-word x h)

no_rows : (n : ℕ) → tabulate (λ r. false) n ≡ 0
unfolding tabulate one
no_rows zero = refl
no_rows (suc n) = omega (arith, no_rows n)

pub no_bits : word_of (λ t. false) ≡ 0
unfolding word_of
no_bits = no_rows 64

pub all_bits : word_of (λ t. true) ≡ 18446744073709551615
all_bits = sym (left_of_lem (word_of (λ t. false)) (word_of (λ t. true)) 0 (word_sum (λ t. false)) no_bits)

-- ---- an input

bit_past : (n j : ℕ) → bit n (suc (suc (suc (suc (suc (suc j)))))) ≡ bit (n / 64) j
unfolding bit
bit_past n j = let e : n / 2 / 2 / 2 / 2 / 2 / 2 ≡ n / 64 = omega arith in ap (λ (x : ℕ). bit x j) e

pub input-high : (b t k : ℕ) → t < 64 → 6 ≤ k → bit (64 * b + t) k ≡ bit b (k - 6)
input-high b t k h l =
    let e : k ≡ suc (suc (suc (suc (suc (suc (k - 6)))))) = omega arith in
    ap (bit (64 * b + t)) e ∙ bit_past (64 * b + t) (k - 6) ∙ ap (λ (x : ℕ). bit x (k - 6)) (let q : (64 * b + t) / 64 ≡ b = omega arith in q)

low_parity : (x y : ℕ) → x % 2 ≡ y % 2 → bit x 0 ≡ bit y 0
unfolding bit
low_parity x y e = ap (λ (z : ℕ). eqb z 1) e

-- bits below bit 6 are those inside the block
pub input-low : (b t k : ℕ) → k < 6 → bit (64 * b + t) k ≡ bit t k
unfolding bit
input-low b t zero h = low_parity (64 * b + t) t (omega arith)
input-low b t (suc zero) h = low_parity ((64 * b + t) / 2) (t / 2) (omega arith)
input-low b t (suc (suc zero)) h = low_parity ((64 * b + t) / 2 / 2) (t / 2 / 2) (omega arith)
input-low b t (suc (suc (suc zero))) h = low_parity ((64 * b + t) / 2 / 2 / 2) (t / 2 / 2 / 2) (omega arith)
input-low b t (suc (suc (suc (suc zero)))) h = low_parity ((64 * b + t) / 2 / 2 / 2 / 2) (t / 2 / 2 / 2 / 2) (omega arith)
input-low b t (suc (suc (suc (suc (suc zero))))) h = low_parity ((64 * b + t) / 2 / 2 / 2 / 2 / 2) (t / 2 / 2 / 2 / 2 / 2) (omega arith)
input-low b t (suc (suc (suc (suc (suc (suc k)))))) h = absurd (omega arith)
