-- One bit of a word:
--     or_same, or_other       set
--     xor_same, xor_other     flipped
--     or_small, xor_small     the word stays one
--     bit-some                a word with a bit is not 0
--     trailing_in, trailing_before     the lowest bit that is set
--     power                   the shift loses nothing
use Rattle.base.specs.{◌≡◌, refl, ap, ◌∙◌, Bool, true, false, not, ℕ, zero, suc, ◌+◌, ◌*◌, ◌/◌, ◌%◌, ◌^◌, ◌<◌, max, pow-suc, arith, bit_or}
use Rattle.base.specs.{bit_xor, or_step, xor_step, differ, or_zero_r, xor_zero_r, or_lt, xor_lt, count_trailing_zeros, under, eqb, pow-lt}
use Rattle.base.specs.{shl_exact, eq-eqb, ne_eqb}
use Rattle.model.specs.{bit}

pub power : (j : ℕ) → j < 64 → 1 * 2 ^ j % 2 ^ 64 ≡ 2 ^ j
power j h = shl_exact 1 j 64 (omega arith) (omega arith) ∙ omega arith

-- ---- a change of one bit leaves the others

module _ (f : ℕ → ℕ → ℕ) (low : (x : ℕ) → f x 1 / 2 ≡ x / 2) (high : (x j : ℕ) → f x (2 ^ suc j) / 2 ≡ f (x / 2) (2 ^ j)) (digit : (x j : ℕ) → f x (2 ^ suc j) % 2 ≡ x % 2) where
  other : (j k x : ℕ) → ¬ (k ≡ j) → bit (f x (2 ^ j)) k ≡ bit x k
  unfolding bit
  other zero zero x d = absurd (d refl)
  other zero (suc k) x d = ap (λ (y : ℕ). bit y k) (low x)
  other (suc j) zero x d = ap (λ (y : ℕ). eqb y 1) (digit x j)
  other (suc j) (suc k) x d = ap (λ (y : ℕ). bit y k) (high x j) ∙ other j k (x / 2) (λ e. d (ap suc e))

  same : (t : Bool → Bool) → ((x : ℕ) → eqb (f x 1 % 2) 1 ≡ t (eqb (x % 2) 1)) → (j x : ℕ) → bit (f x (2 ^ j)) j ≡ t (bit x j)
  unfolding bit
  same t base zero x = base x
  same t base (suc j) x = ap (λ (y : ℕ). bit y j) (high x j) ∙ same t base j (x / 2)

-- a power's lowest digit, and the others
even : (j : ℕ) → 2 ^ suc j % 2 ≡ 0
even j = omega (arith, pow-suc 2 j)

half : (j : ℕ) → 2 ^ suc j / 2 ≡ 2 ^ j
half j = omega (arith, pow-suc 2 j)

-- ---- set

max-zero : (x : ℕ) → max x 0 ≡ x
max-zero x = omega arith

or_low : (x : ℕ) → (bit_or x 1 / 2 ≡ x / 2) × (bit_or x 1 % 2 ≡ 1)
or_low x =
    let e : bit_or x 1 ≡ x / 2 * 2 + max (x % 2) 1 = or_step x 1 ∙ ap (λ (y : ℕ). y * 2 + max (x % 2) 1) (or_zero_r (x / 2)) in
    let b : max (x % 2) 1 ≡ 1 = omega arith in
    (omega arith, omega arith)

or_high : (x j : ℕ) → bit_or x (2 ^ suc j) ≡ bit_or (x / 2) (2 ^ j) * 2 + x % 2
or_high x j = or_step x (2 ^ suc j) ∙ rw (half j, even j, max-zero (x % 2))

pub or_other : (j k x : ℕ) → ¬ (k ≡ j) → bit (bit_or x (2 ^ j)) k ≡ bit x k
or_other = other bit_or (λ x. (or_low x).0) (λ x j. omega (arith, or_high x j)) (λ x j. omega (arith, or_high x j))

pub or_same : (j x : ℕ) → bit (bit_or x (2 ^ j)) j ≡ true
or_same = same bit_or (λ x. (or_low x).0) (λ x j. omega (arith, or_high x j)) (λ x j. omega (arith, or_high x j)) (λ b. true) (λ x. eq-eqb (bit_or x 1 % 2) 1 (or_low x).1)

pub or_small : (j x : ℕ) → j < 64 → x < 2 ^ 64 → bit_or x (2 ^ j) < 2 ^ 64
or_small j x h l = or_lt 64 x (2 ^ j) l (pow-lt h)

-- ---- flipped

differ-zero : (x : ℕ) → differ x 0 ≡ x
differ-zero zero = refl
differ-zero (suc x) = refl

flip-digit : (d : ℕ) → d < 2 → (differ d 1 < 2) × (eqb (differ d 1) 1 ≡ not (eqb d 1))
flip-digit zero h = (omega arith, refl)
flip-digit (suc zero) h = (omega arith, refl)
flip-digit (suc (suc d)) h = absurd (omega arith)

xor_low : (x : ℕ) → (bit_xor x 1 / 2 ≡ x / 2) × (eqb (bit_xor x 1 % 2) 1 ≡ not (eqb (x % 2) 1))
xor_low x =
    let e : bit_xor x 1 ≡ x / 2 * 2 + differ (x % 2) 1 = xor_step x 1 ∙ ap (λ (y : ℕ). y * 2 + differ (x % 2) 1) (xor_zero_r (x / 2)) in
    let d = flip-digit (x % 2) (omega arith) in let r : bit_xor x 1 % 2 ≡ differ (x % 2) 1 = omega arith in
    (omega arith, ap (λ (y : ℕ). eqb y 1) r ∙ d.1)

xor_high : (x j : ℕ) → bit_xor x (2 ^ suc j) ≡ bit_xor (x / 2) (2 ^ j) * 2 + x % 2
xor_high x j = xor_step x (2 ^ suc j) ∙ rw (half j, even j, differ-zero (x % 2))

pub xor_other : (j k x : ℕ) → ¬ (k ≡ j) → bit (bit_xor x (2 ^ j)) k ≡ bit x k
xor_other = other bit_xor (λ x. (xor_low x).0) (λ x j. omega (arith, xor_high x j)) (λ x j. omega (arith, xor_high x j))

pub xor_same : (j x : ℕ) → bit (bit_xor x (2 ^ j)) j ≡ not (bit x j)
xor_same = same bit_xor (λ x. (xor_low x).0) (λ x j. omega (arith, xor_high x j)) (λ x j. omega (arith, xor_high x j)) not (λ x. (xor_low x).1)

pub xor_small : (j x : ℕ) → j < 64 → x < 2 ^ 64 → bit_xor x (2 ^ j) < 2 ^ 64
xor_small j x h l = xor_lt 64 x (2 ^ j) l (pow-lt h)

-- ---- the lowest

pub zero_bit : (j : ℕ) → bit 0 j ≡ false
unfolding bit
zero_bit zero = refl
zero_bit (suc j) = zero_bit j

pub bit-some : (j x : ℕ) → bit x j ≡ true → ¬ (x ≡ 0)
bit-some j x e z = let f : bit x j ≡ false = ap (λ (y : ℕ). bit y j) z ∙ zero_bit j in let o : ◌≡◌ {A = ℕ} 0 1 = cc in omega arith

pub trailing_in : (k x : ℕ) → 0 < x → x < 2 ^ k → (count_trailing_zeros k x < k) × (bit x (count_trailing_zeros k x) ≡ true)
unfolding count_trailing_zeros bit
trailing_in zero x p h = absurd (omega arith)
trailing_in (suc k) x p h = go (x % 2) refl (λ q. trailing_in k (x / 2) q (omega (arith, pow-suc 2 k)))
  where
    go : (r : ℕ) → x % 2 ≡ r → (0 < x / 2 → (count_trailing_zeros k (x / 2) < k) × (bit (x / 2) (count_trailing_zeros k (x / 2)) ≡ true))
        → (under r (count_trailing_zeros k (x / 2)) < suc k) × (bit x (under r (count_trailing_zeros k (x / 2))) ≡ true)
    go zero e more = let q = more (omega arith) in (omega (arith, q.0), q.1)
    go (suc r) e more = (omega arith, eq-eqb (x % 2) 1 (omega arith))

pub trailing_before : (k x u : ℕ) → u < count_trailing_zeros k x → bit x u ≡ false
unfolding count_trailing_zeros bit
trailing_before zero x u l = absurd (omega arith)
trailing_before (suc k) x u l = go (x % 2) refl u l (trailing_before k (x / 2))
  where
    go : (r : ℕ) → x % 2 ≡ r → (u : ℕ) → u < under r (count_trailing_zeros k (x / 2)) → ((n : ℕ) → n < count_trailing_zeros k (x / 2) → bit (x / 2) n ≡ false) → bit x u ≡ false
    go (suc r) e u l more = absurd (omega arith)
    go zero e zero l more = ne_eqb (x % 2) 1 (λ q. omega arith)
    go zero e (suc n) l more = more n (omega arith)
