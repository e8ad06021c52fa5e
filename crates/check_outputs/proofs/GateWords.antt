-- A gate by its last pin:
--     select_bits         which word is selected, bit by bit
--     by_last             where the last pin is 1 the table counts from its upper half on
--     last-of-..          so of one to four pins
--     negative, positive, and-literals, differ_bits     literals, their AND, and where two words differ
use Rattle.base.specs.{◌≡◌, refl, sym, ap, ap₂, ◌∙◌, Bool, true, false, not, cond, ◌&&◌, ◌||◌, beq, List, [], ◌∷◌, map, ℕ, ◌+◌, ◌-◌}
use Rattle.base.specs.{◌*◌, ◌/◌, ◌%◌, ◌^◌, ◌<◌, arith, bit_and, bit_or, and_lt, or_lt, eqb, shr-shr}
use Rattle.model.specs.{bit, one, flip, negated, value, row_of}
use Rattle.base_truth.proofs.{value-and, value_or, value_shift}
use Rattle.check_outputs.specs.{word_of, selected, gate_word, literal_word, and_word, differences}
use Rattle.check_outputs.proofs.AssignmentBits.{bit_word, word_small, as_word, own-word, words_same, complement}

pub and-bit : (x y t : ℕ) → bit (bit_and x y) t ≡ (bit x t && bit y t)
unfolding value
and-bit x y t = value-and x y t

or_bit : (x y t : ℕ) → bit (bit_or x y) t ≡ (bit x t || bit y t)
unfolding value
or_bit x y t = value_or x y t

pub not-bit : (x t : ℕ) → x < 18446744073709551616 → t < 64 → bit (18446744073709551615 - x) t ≡ not (bit x t)
not-bit x t h l = ap (λ (y : ℕ). bit y t) (complement x h) ∙ bit_word (λ r. not (bit x r)) t l

pub select_bits : (s x y : ℕ) → s < 18446744073709551616 → x < 18446744073709551616 → y < 18446744073709551616
    → bit_or (bit_and s x) (bit_and (18446744073709551615 - s) y) ≡ selected s x y
unfolding selected
select_bits s x y hs hx hy =
    as_word (bit_or (bit_and s x) (bit_and (18446744073709551615 - s) y)) (λ t. cond (bit s t) (bit x t) (bit y t))
    (or_lt 64 (bit_and s x) (bit_and (18446744073709551615 - s) y) (and_lt 64 s x hs hx) (and_lt 64 (18446744073709551615 - s) y (omega arith) hy))
    (λ t l.
    or_bit (bit_and s x) (bit_and (18446744073709551615 - s) y) t
    ∙ ap₂ ◌||◌ (and-bit s x t) (and-bit (18446744073709551615 - s) y t ∙ ap (λ (b : Bool). b && bit y t) (not-bit s t hs l))
    ∙ by (bit s t) (bit x t) (bit y t))
  where
    by : (b p q : Bool) → ((b && p) || (not b && q)) ≡ cond b p q
    by true true q = refl
    by true false q = refl
    by false p q = refl

-- ---- the last pin

-- a row of the upper part of a table
pub high-row : (table k r : ℕ) → value table (k + r) ≡ value (table / 2 ^ k) r
high-row table k r = value_shift (k + r) table ∙ ap (λ (y : ℕ). eqb (y % 2) 1) (sym (shr-shr table k r)) ∙ sym (value_shift r (table / 2 ^ k))

-- with p as the last pin, which is k in the row, where it is 1 the table counts from row k on
pub by_last : (table high k p : ℕ) (ps qs : List ℕ) → ((r : ℕ) → value table (k + r) ≡ value high r)
    → ((t : ℕ) → row_of (map (λ (x : ℕ). bit x t) qs) ≡ k * one (bit p t) + row_of (map (λ (x : ℕ). bit x t) ps)) → selected p (gate_word high ps) (gate_word table ps) ≡ gate_word table qs
unfolding selected gate_word one
by_last table high k p ps qs above rows =
    words_same (λ t. cond (bit p t) (bit (word_of (λ r. at high ps r)) t) (bit (word_of (λ r. at table ps r)) t)) (λ t. at table qs t)
    (λ t l.
    ap₂ (cond (bit p t)) (bit_word (λ r. at high ps r) t l) (bit_word (λ r. at table ps r) t l)
    ∙ by (bit p t) (row_of (map (λ (x : ℕ). bit x t) ps)) ∙ sym (ap (value table) (rows t)))
  where
    at : ℕ → List ℕ → ℕ → Bool
    at n xs t = value n (row_of (map (λ (x : ℕ). bit x t) xs))

    by : (b : Bool) (r : ℕ) → cond b (value high r) (value table r) ≡ value table (k * one b + r)
    by true r = sym (above r) ∙ ap (value table) (let e : k + r ≡ k * 1 + r = omega arith in e)
    by false r = ap (value table) (let e : r ≡ k * 0 + r = omega arith in e)

-- ---- gates of one to four pins, each by its last

module _ (table : ℕ) where
  pub last_of_one : (a : ℕ) → selected a (gate_word (table / 2) []) (gate_word table []) ≡ gate_word table (a ∷ [])
  unfolding row_of
  last_of_one a = by_last table (table / 2) 1 a [] (a ∷ []) (high-row table 1) (λ t. omega arith)

  pub last_of_two : (a b : ℕ) → selected b (gate_word (table / 4) (a ∷ [])) (gate_word table (a ∷ [])) ≡ gate_word table (a ∷ b ∷ [])
  unfolding row_of
  last_of_two a b = by_last table (table / 4) 2 b (a ∷ []) (a ∷ b ∷ []) (high-row table 2) (λ t. omega arith)

  pub last_of_three : (a b c : ℕ) → selected c (gate_word (table / 16) (a ∷ b ∷ [])) (gate_word table (a ∷ b ∷ [])) ≡ gate_word table (a ∷ b ∷ c ∷ [])
  unfolding row_of
  last_of_three a b c = by_last table (table / 16) 4 c (a ∷ b ∷ []) (a ∷ b ∷ c ∷ []) (high-row table 4) (λ t. omega arith)

  pub last_of_four : (a b c d : ℕ) → selected d (gate_word (table / 256) (a ∷ b ∷ c ∷ [])) (gate_word table (a ∷ b ∷ c ∷ [])) ≡ gate_word table (a ∷ b ∷ c ∷ d ∷ [])
  unfolding row_of
  last_of_four a b c d = by_last table (table / 256) 8 d (a ∷ b ∷ c ∷ []) (a ∷ b ∷ c ∷ d ∷ []) (high-row table 8) (λ t. omega arith)

  -- without pins row 0 counts
  pub no_pins_lem : (b : Bool) → eqb (table % 2) 1 ≡ b → gate_word table [] ≡ word_of (λ t. b)
  unfolding gate_word value bit row_of
  no_pins_lem b e = ap (λ (x : Bool). word_of (λ t. x)) e

-- ---- literals

module _ (l x : ℕ) (small : x < 18446744073709551616) where
  pub negative : eqb (l % 2) 1 ≡ true → 18446744073709551615 - x ≡ literal_word l x
  unfolding literal_word negated flip
  negative e = complement x small ∙ ap (λ (b : Bool). word_of (λ t. flip b (bit x t))) (sym e)

  pub positive : eqb (l % 2) 1 ≡ false → x ≡ literal_word l x
  unfolding literal_word negated flip
  positive e = sym (own-word x small) ∙ ap (λ (b : Bool). word_of (λ t. flip b (bit x t))) (sym e)

pub and-literals : (l x r y : ℕ) → bit_and (literal_word l x) (literal_word r y) ≡ and_word l x r y
unfolding literal_word and_word
and-literals l x r y =
    as_word (bit_and (word_of f) (word_of h)) (λ t. f t && h t) (and_lt 64 (word_of f) (word_of h) (word_small f) (word_small h))
    (λ t less. and-bit (word_of f) (word_of h) t ∙ ap₂ ◌&&◌ (bit_word f t less) (bit_word h t less))
  where
    f : ℕ → Bool
    f t = flip (negated l) (bit x t)

    h : ℕ → Bool
    h t = flip (negated r) (bit y t)

pub differ_bits : (x y : ℕ) → y < 18446744073709551616 → selected x (18446744073709551615 - y) y ≡ differences x y
unfolding selected differences
differ_bits x y small =
    words_same (λ t. cond (bit x t) (bit (18446744073709551615 - y) t) (bit y t)) (λ t. not (beq (bit x t) (bit y t)))
    (λ t less. ap (λ (b : Bool). cond (bit x t) b (bit y t)) (not-bit y t small less) ∙ by (bit x t) (bit y t))
  where
    by : (a b : Bool) → cond a (not b) b ≡ not (beq a b)
    by true true = refl
    by true false = refl
    by false true = refl
    by false false = refl
