-- A set of numbers below 4,096 in 65 words: bit v % 64 of word v / 64 says that v is in it, and bit i of the last word that word i is not 0.
use Rattle.std.specs.Prelude.{◌≡◌, ◌+◌, ◌*◌, ◌/◌, ◌%◌, ◌^◌, ◌<◌}
use Rattle.base.specs.{Bool, cond, not, List, ℕ, bit_or, bit_xor, count_trailing_zeros, eqb, length, get_or, set}
use Rattle.model.specs.{bit}

-- v is in the set
unfoldable pub has : List ℕ → ℕ → Bool
unfolding bit
has s v = bit (get_or s (v / 64) 0) (v % 64)

-- the words of a set
pub record BitSet (s : List ℕ) : Type 0 where
  pub long : length s ≡ 65
  pub fits : (i : ℕ) → get_or s i 0 < 2 ^ 64
  pub top : (i : ℕ) → i < 64 → bit (get_or s 64 0) i ≡ not (eqb (get_or s i 0) 0)

-- the set with v
unfoldable pub added : List ℕ → ℕ → List ℕ
added s v = set (set s (v / 64) (bit_or (get_or s (v / 64) 0) (2 ^ (v % 64)))) 64 (bit_or (get_or s 64 0) (2 ^ (v / 64)))

-- and without it, where it was there: the last word's bit goes with the last of a word
abbrev pub emptied : ℕ → List ℕ → ℕ → List ℕ
emptied x s i = cond (eqb x 0) (set (set s i x) 64 (bit_xor (get_or s 64 0) (2 ^ i))) (set s i x)

unfoldable pub removed : List ℕ → ℕ → List ℕ
removed s v = emptied (bit_xor (get_or s (v / 64) 0) (2 ^ (v % 64))) s (v / 64)

-- the lowest number of the set, or 4,096
abbrev pub lowest_in : List ℕ → ℕ → ℕ
lowest_in s i = 64 * i + count_trailing_zeros 64 (get_or s i 0)

unfoldable pub lowest_of : List ℕ → ℕ
lowest_of s = cond (eqb (get_or s 64 0) 0) 4096 (lowest_in s (count_trailing_zeros 64 (get_or s 64 0)))
