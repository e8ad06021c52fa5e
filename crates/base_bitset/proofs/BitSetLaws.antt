-- The laws of the set:
--     empty-set, empty-has      nothing is in zeros
--     add-..         v is in the set with v, and the other numbers as before
--     remove-..      v is not in the set without v, and the other numbers as before
--     lowest-..      the lowest is in the set, and nothing below it is
use Rattle.base.specs.{◌≡◌, refl, sym, ap, ◌∙◌, subst, Bool, true, false, cond, not, List, ℕ, ◌+◌, ◌*◌, ◌/◌, ◌%◌, ◌^◌, ◌≤◌, ◌<◌, arith}
use Rattle.base.specs.{bit_or, bit_xor, count_trailing_zeros, eqb, leb, length, get_or, set, length-set, replicate, length-replicate, get_or-replicate}
use Rattle.base.specs.{get_or-eq_default, get_or-set_same, get_or-set_other, set-get_or, eq-eqb, ne_eqb, leb-true, leb-false}
use Rattle.model.specs.{bit}
use Rattle.theory_graph.proofs.{by_eqb}
use Rattle.base_bitset.specs.{has, added, removed, lowest_in, lowest_of}
use Rattle.base_bitset.specs.BitSet.{BitSet}
use Rattle.base_bitset.proofs.WordBits.{or_same, or_other, or_small, xor_same, xor_other, xor_small, zero_bit, bit-some, trailing_in}
use Rattle.base_bitset.proofs.WordBits.{trailing_before}

-- an order, by its test
pub by_leb {ℓ} : {X : Type ℓ} (a b : ℕ) → (a ≤ b → X) → (b < a → X) → X
by_leb {X} a b y n = go (leb a b) refl
  where
    go : (t : Bool) → leb a b ≡ t → X
    go true e = y (leb-true a b e)
    go false e = n (leb-false a b e)

-- what is known of a word and of what was there is known of it after the store
pub stored : (P : ℕ → Type 0) (ws : List ℕ) (i x k : ℕ) → i < length ws → P x → P (get_or ws k 0) → P (get_or (set ws i x) k 0)
stored P ws i x k h p q = by_eqb k i
    (λ e. subst P (sym (ap (λ (j : ℕ). get_or (set ws i x) j 0) e ∙ get_or-set_same ws i x 0 h)) p)
    (λ d. subst P (sym (get_or-set_other ws i k x 0 d)) q)

pub has-is : (s : List ℕ) (v : ℕ) → has s v ≡ bit (get_or s (v / 64) 0) (v % 64)
unfolding has
has-is s v = refl

-- ---- nothing

abbrev zeros : ℕ → List ℕ
zeros n = replicate n 0

empty-word : (i : ℕ) → i < 65 → get_or (zeros 65) i 0 ≡ 0
empty-word i h = get_or-replicate {A = ℕ} 65 i 0 0 h

pub empty-has : (v : ℕ) → v < 4096 → has (zeros 65) v ≡ false
empty-has v h = has-is (zeros 65) v ∙ ap (λ (x : ℕ). bit x (v % 64)) (empty-word (v / 64) (omega arith)) ∙ zero_bit (v % 64)

pub empty-set : BitSet (zeros 65)
empty-set = record {
  long = length-replicate {A = ℕ} 65 0;
  fits = λ i. by_lt i;
  top = λ i h. rw (empty-word 64 (omega arith), empty-word i (omega arith)) (zero_bit i);
}
  where
    by_lt : (i : ℕ) → get_or (zeros 65) i 0 < 2 ^ 64
    by_lt i = by_leb 65 i (λ l. omega (arith, get_or-eq_default {A = ℕ} (zeros 65) 0 {n = i} (omega (arith, length-replicate {A = ℕ} 65 0)))) (λ l. omega (arith, empty-word i l))

-- ---- a word and the last word stored

module _ (s : List ℕ) (k : BitSet s) (i x t : ℕ) (within : i < 64) where
  put-at : get_or (set (set s i x) 64 t) i 0 ≡ x
  put-at = get_or-set_other (set s i x) 64 i t 0 (omega arith) ∙ get_or-set_same s i x 0 (omega (arith, k.long))

  put-top : get_or (set (set s i x) 64 t) 64 0 ≡ t
  put-top = get_or-set_same (set s i x) 64 t 0 (omega (arith, length-set s i x, k.long))

  put-apart : (n : ℕ) → ¬ (n ≡ i) → n < 64 → get_or (set (set s i x) 64 t) n 0 ≡ get_or s n 0
  put-apart n d h = get_or-set_other (set s i x) 64 n t 0 (omega arith) ∙ get_or-set_other s i n x 0 d

  put-set : x < 2 ^ 64 → t < 2 ^ 64 → bit t i ≡ not (eqb x 0) → ((n : ℕ) → ¬ (n ≡ i) → bit t n ≡ bit (get_or s 64 0) n) → BitSet (set (set s i x) 64 t)
  put-set a b own rest = record {
    long = length-set (set s i x) 64 t ∙ length-set s i x ∙ k.long;
    fits = λ n. stored (λ (y : ℕ). y < 2 ^ 64) (set s i x) 64 t n (omega (arith, length-set s i x, k.long)) b
        (stored (λ (y : ℕ). y < 2 ^ 64) s i x n (omega (arith, k.long)) a (k.fits n));
    top = λ n h. by_eqb n i
        (λ e. rw (put-top, e, put-at) own)
        (λ d. rw (put-top, put-apart n d h) (rest n d ∙ k.top n h));
  }

  -- what is in the set, where one bit of the word is another
  module _ (v : ℕ) (its : i ≡ v / 64) where
    put_has : (b : Bool) → bit x (v % 64) ≡ b → has (set (set s i x) 64 t) v ≡ b
    put_has b e = has-is (set (set s i x) 64 t) v ∙ ap (λ (n : ℕ). bit (get_or (set (set s i x) 64 t) n 0) (v % 64)) (sym its) ∙ ap (λ (y : ℕ). bit y (v % 64)) put-at ∙ e

    put_other : ((j : ℕ) → ¬ (j ≡ v % 64) → bit x j ≡ bit (get_or s i 0) j) → (u : ℕ) → u < 4096 → ¬ (u ≡ v) → has (set (set s i x) 64 t) u ≡ has s u
    put_other rest u h d = has-is (set (set s i x) 64 t) u ∙ by_eqb (u / 64) i
        (λ e.
        ap (λ (n : ℕ). bit (get_or (set (set s i x) 64 t) n 0) (u % 64)) e ∙ ap (λ (y : ℕ). bit y (u % 64)) put-at
        ∙ rest (u % 64) (λ q. d (omega arith)) ∙ ap (λ (n : ℕ). bit (get_or s n 0) (u % 64)) (sym e) ∙ sym (has-is s u))
        (λ n. ap (λ (y : ℕ). bit y (u % 64)) (put-apart (u / 64) n (omega arith)) ∙ sym (has-is s u))

-- ---- one more

module _ (s : List ℕ) (k : BitSet s) (v : ℕ) (small : v < 4096) where
  pub add-set : BitSet (added s v)
  unfolding added
  add-set =
      put-set s k (v / 64) (bit_or (get_or s (v / 64) 0) (2 ^ (v % 64))) (bit_or (get_or s 64 0) (2 ^ (v / 64))) (omega arith)
      (or_small (v % 64) (get_or s (v / 64) 0) (omega arith) (k.fits (v / 64))) (or_small (v / 64) (get_or s 64 0) (omega arith) (k.fits 64))
      (or_same (v / 64) (get_or s 64 0) ∙ sym (ap not (ne_eqb (bit_or (get_or s (v / 64) 0) (2 ^ (v % 64))) 0 (bit-some (v % 64) (bit_or (get_or s (v / 64) 0) (2 ^ (v % 64))) (or_same (v % 64) (get_or s (v / 64) 0))))))
      (λ n d. or_other (v / 64) n (get_or s 64 0) d)

  pub add_in : has (added s v) v ≡ true
  unfolding added
  add_in = put_has s k (v / 64) (bit_or (get_or s (v / 64) 0) (2 ^ (v % 64))) (bit_or (get_or s 64 0) (2 ^ (v / 64))) (omega arith) v refl true (or_same (v % 64) (get_or s (v / 64) 0))

  pub add_other : (u : ℕ) → u < 4096 → ¬ (u ≡ v) → has (added s v) u ≡ has s u
  unfolding added
  add_other = put_other s k (v / 64) (bit_or (get_or s (v / 64) 0) (2 ^ (v % 64))) (bit_or (get_or s 64 0) (2 ^ (v / 64))) (omega arith) v refl (λ j d. or_other (v % 64) j (get_or s (v / 64) 0) d)

-- ---- one less

module _ (s : List ℕ) (k : BitSet s) (v : ℕ) (small : v < 4096) (there : has s v ≡ true) where
  -- the two words that are stored
  rest : ℕ
  rest = bit_xor (get_or s (v / 64) 0) (2 ^ (v % 64))

  last : ℕ
  last = cond (eqb rest 0) (bit_xor (get_or s 64 0) (2 ^ (v / 64))) (get_or s 64 0)

  -- where the last word stays, storing it changes nothing
  removed-is : removed s v ≡ set (set s (v / 64) rest) 64 last
  unfolding removed rest last
  removed-is = go (eqb (bit_xor (get_or s (v / 64) 0) (2 ^ (v % 64))) 0)
    where
      go : (t : Bool) → cond t (set (set s (v / 64) rest) 64 (bit_xor (get_or s 64 0) (2 ^ (v / 64)))) (set s (v / 64) rest) ≡ set (set s (v / 64) rest) 64 (cond t (bit_xor (get_or s 64 0) (2 ^ (v / 64))) (get_or s 64 0))
      go true = refl
      go false =
          sym (set-get_or (set s (v / 64) rest) 64 0)
          ∙ ap (λ (y : ℕ). set (set s (v / 64) rest) 64 y) (get_or-set_other s (v / 64) 64 rest 0 (omega arith))

  was : bit (get_or s (v / 64) 0) (v % 64) ≡ true
  was = sym (has-is s v) ∙ there

  was_top : bit (get_or s 64 0) (v / 64) ≡ true
  was_top = k.top (v / 64) (omega arith) ∙ ap not (ne_eqb (get_or s (v / 64) 0) 0 (bit-some (v % 64) (get_or s (v / 64) 0) was))

  -- the last word, by whether anything is left in v's
  last_laws : (last < 2 ^ 64) × (bit last (v / 64) ≡ not (eqb rest 0)) × ((n : ℕ) → ¬ (n ≡ v / 64) → bit last n ≡ bit (get_or s 64 0) n)
  unfolding last
  last_laws = go (eqb rest 0)
    where
      go : (t : Bool) → (cond t (bit_xor (get_or s 64 0) (2 ^ (v / 64))) (get_or s 64 0) < 2 ^ 64)
          × (bit (cond t (bit_xor (get_or s 64 0) (2 ^ (v / 64))) (get_or s 64 0)) (v / 64) ≡ not t)
          × ((n : ℕ) → ¬ (n ≡ v / 64) → bit (cond t (bit_xor (get_or s 64 0) (2 ^ (v / 64))) (get_or s 64 0)) n ≡ bit (get_or s 64 0) n)
      go true = (xor_small (v / 64) (get_or s 64 0) (omega arith) (k.fits 64), xor_same (v / 64) (get_or s 64 0) ∙ ap not was_top, λ n d. xor_other (v / 64) n (get_or s 64 0) d)
      go false = (k.fits 64, was_top, λ n d. refl)

  pub remove_set : BitSet (removed s v)
  unfolding rest
  remove_set = rw removed-is
      (put-set s k (v / 64) rest last (omega arith) (xor_small (v % 64) (get_or s (v / 64) 0) (omega arith) (k.fits (v / 64))) last_laws.0 last_laws.1 last_laws.2)

  pub remove_out : has (removed s v) v ≡ false
  unfolding rest
  remove_out = rw removed-is (put_has s k (v / 64) rest last (omega arith) v refl false (xor_same (v % 64) (get_or s (v / 64) 0) ∙ ap not was))

  pub remove_other : (u : ℕ) → u < 4096 → ¬ (u ≡ v) → has (removed s v) u ≡ has s u
  unfolding rest
  remove_other u h d = rw removed-is (put_other s k (v / 64) rest last (omega arith) v refl (λ j n. xor_other (v % 64) j (get_or s (v / 64) 0) n) u h d)

-- ---- the lowest

module _ (s : List ℕ) where
  pub lowest-zero : get_or s 64 0 ≡ 0 → lowest_of s ≡ 4096
  unfolding lowest_of
  lowest-zero e = rw (eq-eqb (get_or s 64 0) 0 e)

  pub lowest-sum : ¬ (get_or s 64 0 ≡ 0) → lowest_of s ≡ lowest_in s (count_trailing_zeros 64 (get_or s 64 0))
  unfolding lowest_of
  lowest-sum d = rw (ne_eqb (get_or s 64 0) 0 d)

true-false : {b : Bool} → b ≡ true → b ≡ false → ⊥
true-false {b} p q = let z : ◌≡◌ {A = ℕ} 0 1 = cc in omega arith

module _ (s : List ℕ) (k : BitSet s) where
  -- a word that is not 0, as the last word says
  top-some : (i : ℕ) → i < 64 → bit (get_or s 64 0) i ≡ true → 0 < get_or s i 0
  top-some i h e = by_eqb (get_or s i 0) 0 (λ z. absurd (true-false e (k.top i h ∙ ap not (eq-eqb (get_or s i 0) 0 z)))) (λ d. omega arith)

  top-none : (i u : ℕ) → i < 64 → bit (get_or s 64 0) i ≡ false → get_or s i 0 ≡ 0
  top-none i u h e = by_eqb (get_or s i 0) 0 (λ z. z) (λ d. absurd (true-false (k.top i h ∙ ap not (ne_eqb (get_or s i 0) 0 d)) e))

  empty_block : (u : ℕ) → u < 4096 → bit (get_or s 64 0) (u / 64) ≡ false → has s u ≡ false
  empty_block u h e = has-is s u ∙ ap (λ (y : ℕ). bit y (u % 64)) (top-none (u / 64) u (omega arith) e) ∙ zero_bit (u % 64)

  module _ (some : 0 < get_or s 64 0) where
    pub first-within : count_trailing_zeros 64 (get_or s 64 0) < 64
    first-within = (trailing_in 64 (get_or s 64 0) some (k.fits 64)).0

    block : (count_trailing_zeros 64 (get_or s (count_trailing_zeros 64 (get_or s 64 0)) 0) < 64) × (bit (get_or s (count_trailing_zeros 64 (get_or s 64 0)) 0) (count_trailing_zeros 64 (get_or s (count_trailing_zeros 64 (get_or s 64 0)) 0)) ≡ true)
    block =
        trailing_in 64 (get_or s (count_trailing_zeros 64 (get_or s 64 0)) 0)
        (top-some (count_trailing_zeros 64 (get_or s 64 0)) first-within (trailing_in 64 (get_or s 64 0) some (k.fits 64)).1) (k.fits (count_trailing_zeros 64 (get_or s 64 0)))

    some_in : (lowest_of s < 4096) × (has s (lowest_of s) ≡ true)
    some_in =
        let i = count_trailing_zeros 64 (get_or s 64 0) in let j = count_trailing_zeros 64 (get_or s i 0) in
        let e : lowest_of s ≡ 64 * i + j = lowest-sum s (omega arith) in
        let a : lowest_of s / 64 ≡ i = omega (arith, first-within, block.0) in
        let b : lowest_of s % 64 ≡ j = omega (arith, first-within, block.0) in
        (omega (arith, first-within, block.0), has-is s (lowest_of s) ∙ rw (a, b) block.1)

    some-least : (u : ℕ) → u < lowest_of s → has s u ≡ false
    some-least u l =
        let i = count_trailing_zeros 64 (get_or s 64 0) in let j = count_trailing_zeros 64 (get_or s i 0) in
        let e : lowest_of s ≡ 64 * i + j = lowest-sum s (omega arith) in let w = first-within in let w2 = block.0 in
        by_eqb (u / 64) i
        (λ q. has-is s u ∙ ap (λ (n : ℕ). bit (get_or s n 0) (u % 64)) q ∙ trailing_before 64 (get_or s i 0) (u % 64) (omega arith))
        (λ d. empty_block u (omega arith) (trailing_before 64 (get_or s 64 0) (u / 64) (omega arith)))

  pub lowest_in_lem : lowest_of s < 4096 → has s (lowest_of s) ≡ true
  lowest_in_lem l = by_eqb (get_or s 64 0) 0 (λ z. absurd (omega (arith, lowest-zero s z))) (λ d. (some_in (omega arith)).1)

  pub lowest-least : (u : ℕ) → u < lowest_of s → u < 4096 → has s u ≡ false
  lowest-least u l h = by_eqb (get_or s 64 0) 0
      (λ z. empty_block u h (ap (λ (y : ℕ). bit y (u / 64)) z ∙ zero_bit (u / 64)))
      (λ d. some-least (omega arith) u l)
