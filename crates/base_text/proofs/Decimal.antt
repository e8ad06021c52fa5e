-- Laws of numbers in decimal:
--     dec_small, dec_big      the digits of a number, by its last one
--     number-..               what a field is as a number, by what the reader met in it
use Rattle.base.specs.{ℕ, zero, suc, ◌+◌, ◌-◌, ◌*◌, ◌/◌, ◌%◌, ◌^◌, ◌≤◌, ◌<◌, not-suc-le-zero, pow-suc, add-one, arith, ◌≡◌, refl, sym, ap}
use Rattle.base.specs.{◌∙◌, subst, Bool, true, false, not, cond, None, Some, List, [], ◌∷◌, ◌++◌, append-nil, T, ltb, nltb→le, length}
use Rattle.base.specs.{length-append, drop, get_or, drop_of_length-le, append_snoc, drop-cons, ltb-true, ltb-false, lt-ltb, le-ltb, le-leb}
use Rattle.base.specs.{lt-leb}
use Rattle.model.specs.{same, only, digits, decimal, as_digits, number}
use Rattle.base_text.proofs.Bytes.{same_refl, not_same, and-false}

-- ---- the digits of a number, by its last one

digits_onto : (f n : ℕ) (after : List ℕ) → digits f n after ≡ digits f n [] ++ after
unfolding digits
digits_onto zero n after = refl
digits_onto (suc f) n after = go (ltb n 10) (digits_onto f (n / 10) ((48 + n % 10) ∷ after)) (digits_onto f (n / 10) ((48 + n % 10) ∷ []))
  where
    go : (b : Bool) → digits f (n / 10) ((48 + n % 10) ∷ after) ≡ digits f (n / 10) [] ++ ((48 + n % 10) ∷ after)
        → digits f (n / 10) ((48 + n % 10) ∷ []) ≡ digits f (n / 10) [] ++ ((48 + n % 10) ∷ [])
        → cond b ((48 + n) ∷ after) (digits f (n / 10) ((48 + n % 10) ∷ after)) ≡ cond b ((48 + n) ∷ []) (digits f (n / 10) ((48 + n % 10) ∷ [])) ++ after
    go true p q = refl
    go false p q = p ∙ sym (ap (λ (l : List ℕ). l ++ after) q ∙ append_snoc (digits f (n / 10) []) (48 + n % 10) after)

digits_fuel : (f g n : ℕ) (after : List ℕ) → n < f → n < g → digits f n after ≡ digits g n after
unfolding digits
digits_fuel zero g n after h k = absurd (not-suc-le-zero h)
digits_fuel (suc f) zero n after h k = absurd (not-suc-le-zero k)
digits_fuel (suc f) (suc g) n after h k = go (ltb n 10) (nltb→le n 10) (digits_fuel f g (n / 10) ((48 + n % 10) ∷ after))
  where
    go : (b : Bool) → (T (not b) → 10 ≤ n)
        → (n / 10 < f → n / 10 < g → digits f (n / 10) ((48 + n % 10) ∷ after) ≡ digits g (n / 10) ((48 + n % 10) ∷ after))
        → cond b ((48 + n) ∷ after) (digits f (n / 10) ((48 + n % 10) ∷ after)) ≡ cond b ((48 + n) ∷ after) (digits g (n / 10) ((48 + n % 10) ∷ after))
    go true u more = refl
    go false u more = let q : 10 ≤ n = u tt in more (omega arith) (omega arith)

pub dec_small : (n : ℕ) → n < 10 → decimal n ≡ (48 + n) ∷ []
unfolding decimal digits
dec_small n h = rw (lt-ltb n 10 h)

pub dec_big : (n : ℕ) → 10 ≤ n → decimal n ≡ decimal (n / 10) ++ ((48 + n % 10) ∷ [])
unfolding decimal digits
dec_big n h = go (digits_fuel n (suc (n / 10)) (n / 10) ((48 + n % 10) ∷ []) (omega arith) (omega arith) ∙ digits_onto (suc (n / 10)) (n / 10) ((48 + n % 10) ∷ []))
  where
    go : digits n (n / 10) ((48 + n % 10) ∷ []) ≡ digits (suc (n / 10)) (n / 10) [] ++ ((48 + n % 10) ∷ []) → digits (suc n) n [] ≡ digits (suc (n / 10)) (n / 10) [] ++ ((48 + n % 10) ∷ [])
    go e = rw (le-ltb n 10 h) e

digits-length : (f n : ℕ) (after : List ℕ) → length (digits f n after) ≤ f + length after
unfolding digits
digits-length zero n after = omega arith
digits-length (suc f) n after = go (ltb n 10) (digits-length f (n / 10) ((48 + n % 10) ∷ after))
  where
    go : (b : Bool) → length (digits f (n / 10) ((48 + n % 10) ∷ after)) ≤ f + suc (length after)
        → length (cond b ((48 + n) ∷ after) (digits f (n / 10) ((48 + n % 10) ∷ after))) ≤ suc f + length after
    go true h = omega arith
    go false h = omega arith

pub dec_length : (n : ℕ) → length (decimal n) ≤ n + 1
unfolding decimal
dec_length n = omega (arith, digits-length (suc n) n [])

pub dec_small-length : (n : ℕ) → n < 10 → length (decimal n) ≡ 1
dec_small-length n h = ap length (dec_small n h)

pub dec_big_length : (n : ℕ) → 10 ≤ n → length (decimal n) ≡ length (decimal (n / 10)) + 1
dec_big_length n h = ap length (dec_big n h) ∙ length-append (decimal (n / 10)) ((48 + n % 10) ∷ [])

-- by its last two
pub dec_pair : (n : ℕ) → 10 ≤ n → n < 100 → decimal n ≡ (48 + n / 10) ∷ (48 + n % 10) ∷ []
dec_pair n h l = dec_big n h ∙ ap (λ (x : List ℕ). x ++ ((48 + n % 10) ∷ [])) (dec_small (n / 10) (omega arith))

pub dec_pairs : (n : ℕ) → 100 ≤ n → decimal n ≡ decimal (n / 100) ++ ((48 + n % 100 / 10) ∷ (48 + n % 100 % 10) ∷ [])
dec_pairs n h =
    let q : n / 10 / 10 ≡ n / 100 = omega arith in
    let d : n / 10 % 10 ≡ n % 100 / 10 = omega arith in
    let e : n % 10 ≡ n % 100 % 10 = omega arith in
    dec_big n (omega arith)
    ∙ ap (λ (x : List ℕ). x ++ ((48 + n % 10) ∷ [])) (dec_big (n / 10) (omega arith))
    ∙ append_snoc (decimal (n / 10 / 10)) (48 + n / 10 % 10) ((48 + n % 10) ∷ [])
    ∙ ap (λ (x : ℕ). decimal x ++ ((48 + n / 10 % 10) ∷ (48 + n % 10) ∷ [])) q
    ∙ ap (λ (x : ℕ). decimal (n / 100) ++ ((48 + x) ∷ (48 + n % 10) ∷ [])) d
    ∙ ap (λ (x : ℕ). decimal (n / 100) ++ ((48 + n % 100 / 10) ∷ (48 + x) ∷ [])) e

pub dec_pair-length : (n : ℕ) → 10 ≤ n → n < 100 → length (decimal n) ≡ 2
dec_pair-length n h l = ap length (dec_pair n h l)

pub dec_pairs-length : (n : ℕ) → 100 ≤ n → length (decimal n) ≡ length (decimal (n / 100)) + 2
dec_pairs-length n h = ap length (dec_pairs n h) ∙ length-append (decimal (n / 100)) ((48 + n % 100 / 10) ∷ (48 + n % 100 % 10) ∷ [])

-- a number below a power of ten has no more digits than that
pub dec_below : (k n : ℕ) → n < 10 ^ suc k → length (decimal n) ≤ suc k
dec_below zero n h = let s : n < 10 = h in omega (arith, dec_small-length n s)
dec_below (suc k) n h = go (ltb n 10) refl (dec_below k (n / 10))
  where
    go : (b : Bool) → ltb n 10 ≡ b → (n / 10 < 10 ^ suc k → length (decimal (n / 10)) ≤ suc k) → length (decimal n) ≤ suc (suc k)
    go true e more = omega (arith, dec_small-length n (ltb-true n 10 e))
    go false e more =
        let big : 10 ≤ n = ltb-false n 10 e in
        let whole : n < 10 ^ suc k * 10 = subst (λ (m : ℕ). n < m) (pow-suc 10 (suc k)) h in
        omega (arith, dec_big_length n big, more (omega arith))

-- one digit more
dec_more : (n b : ℕ) → 0 < n → 48 ≤ b → b ≤ 57 → decimal (n * 10 + (b - 48)) ≡ decimal n ++ (b ∷ [])
dec_more n b pos lo hi =
    let m : ℕ = n * 10 + (b - 48) in
    let q : (n * 10 + (b - 48)) / 10 ≡ n = omega arith in
    let r : 48 + (n * 10 + (b - 48)) % 10 ≡ b = omega arith in
    dec_big (n * 10 + (b - 48)) (omega arith) ∙ rw (q, r)

-- ---- digits

abbrev pub Digits : List ℕ → Type 0
Digits [] = Unit {0}
Digits (b ∷ bs) = ((48 ≤ b) × (b ≤ 57)) × Digits bs

digits_are : (f n : ℕ) (after : List ℕ) → Digits after → Digits (digits f n after)
unfolding digits
digits_are zero n after h = h
digits_are (suc f) n after h = go (ltb n 10) refl (digits_are f (n / 10) ((48 + n % 10) ∷ after) ((omega arith, omega arith), h))
  where
    go : (b : Bool) → ltb n 10 ≡ b → Digits (digits f (n / 10) ((48 + n % 10) ∷ after)) → Digits (cond b ((48 + n) ∷ after) (digits f (n / 10) ((48 + n % 10) ∷ after)))
    go true e k = ((omega arith, let l : n < 10 = ltb-true n 10 e in omega arith), h)
    go false e k = k

dec_digits : (n : ℕ) → Digits (decimal n)
unfolding decimal
dec_digits n = digits_are (suc n) n [] tt

-- the digit at a place
digit_at : (w : List ℕ) (i : ℕ) → Digits w → i < length w → (48 ≤ get_or w i 0) × (get_or w i 0 ≤ 57)
digit_at [] i d h = absurd (not-suc-le-zero h)
digit_at (b ∷ w) zero d h = d.0
digit_at (b ∷ w) (suc i) d h = digit_at w i d.1 (omega arith)

digits-all : (w : List ℕ) → ((k : ℕ) → k < length w → (48 ≤ get_or w k 0) × (get_or w k 0 ≤ 57)) → Digits w
digits-all [] h = tt
digits-all (b ∷ w) h = (h 0 (omega arith), digits-all w (λ k l. h (suc k) (omega arith)))

-- ---- a field as a number

value_grows : (n : ℕ) (w : List ℕ) → n ≤ as_digits n w
unfolding as_digits
value_grows n [] = omega arith
value_grows n (b ∷ w) = omega (arith, value_grows (n * 10 + (b - 48)) w)

-- one digit of the value, and none
pub value-step : (w : List ℕ) (i n : ℕ) → i < length w → as_digits n (drop i w) ≡ as_digits (n * 10 + (get_or w i 0 - 48)) (drop (i + 1) w)
unfolding as_digits
value-step w i n h = rw (add-one i, drop-cons w i 0 h)

pub value-end : (w : List ℕ) (i n : ℕ) → length w ≤ i → as_digits n (drop i w) ≡ n
unfolding as_digits
value-end w i n h = rw (drop_of_length-le w h)

-- digits behind a number that is not 0 are written behind its own
value_on : (n : ℕ) (w : List ℕ) → 0 < n → Digits w → decimal (as_digits n w) ≡ decimal n ++ w
unfolding as_digits
value_on n [] pos d = sym (append-nil (decimal n))
value_on n (b ∷ w) pos d =
    let lo : 48 ≤ b = d.0.0 in
    let hi : b ≤ 57 = d.0.1 in
    go (as_digits (n * 10 + (b - 48)) w) (value_on (n * 10 + (b - 48)) w (omega arith) d.1) (dec_more n b pos lo hi)
  where
    go : (v : ℕ) → decimal v ≡ decimal (n * 10 + (b - 48)) ++ w → decimal (n * 10 + (b - 48)) ≡ decimal n ++ (b ∷ []) → decimal v ≡ decimal n ++ (b ∷ w)
    go v e f = e ∙ ap (λ (l : List ℕ). l ++ w) f ∙ append_snoc (decimal n) b w

-- a byte that is no digit
pub number_other : (w : List ℕ) (i : ℕ) → i < length w → ((48 ≤ get_or w i 0) × (get_or w i 0 ≤ 57) → ⊥) → number w ≡ None
unfolding number only
number_other w i h other =
    rw (not_same w (decimal (as_digits 0 w)) (λ e. other (digit_at w i (subst Digits (sym e) (dec_digits (as_digits 0 w))) h)), and-false)

-- a value so far that is too large
pub number_large : (w : List ℕ) (n i : ℕ) → as_digits 0 w ≡ as_digits n (drop i w) → 65535 < n → number w ≡ None
unfolding number only
number_large w n i e h =
    let big : 65535 < as_digits 0 w = omega (arith, value_grows n (drop i w)) in
    rw (lt-leb (as_digits 0 w) 65535 big)

-- no digit at all
pub number-empty : number [] ≡ None
unfolding number only as_digits same decimal digits
number-empty = refl

-- a leading zero
pub number-zero : number (48 ∷ []) ≡ Some 0
unfolding number only as_digits same decimal digits
number-zero = refl

-- what a number is written with begins with a zero only where that is all of it
digits-head : (f n : ℕ) (after : List ℕ) → 0 < n → n < f → 48 < get_or (digits f n after) 0 0
unfolding digits
digits-head zero n after pos h = absurd (not-suc-le-zero h)
digits-head (suc f) n after pos h = go (ltb n 10) (nltb→le n 10) (digits-head f (n / 10) ((48 + n % 10) ∷ after))
  where
    go : (b : Bool) → (T (not b) → 10 ≤ n) → (0 < n / 10 → n / 10 < f → 48 < get_or (digits f (n / 10) ((48 + n % 10) ∷ after)) 0 0)
        → 48 < get_or (cond b ((48 + n) ∷ after) (digits f (n / 10) ((48 + n % 10) ∷ after))) 0 0
    go true u more = omega arith
    go false u more = let q : 10 ≤ n = u tt in more (omega arith) (omega arith)

first_above : (m : ℕ) → 0 < m → 48 < get_or (decimal m) 0 0
unfolding decimal
first_above m h = digits-head (suc m) m [] h (omega arith)

head-zero : (n c : ℕ) (w : List ℕ) → decimal n ≡ 48 ∷ c ∷ w → ⊥
head-zero zero c w e = let z : 1 ≡ suc (suc (length w)) = ap length (sym (dec_small 0 (omega arith)) ∙ e) in omega arith
head-zero (suc n) c w e = let z : 48 < 48 = subst (λ (l : List ℕ). 48 < get_or l 0 0) e (first_above (suc n) (omega arith)) in omega arith

pub number-zeros : (b : ℕ) (w : List ℕ) → number (48 ∷ b ∷ w) ≡ None
unfolding number only
number-zeros b w = rw (not_same (48 ∷ b ∷ w) (decimal (as_digits 0 (48 ∷ b ∷ w))) (λ e. head-zero (as_digits 0 (48 ∷ b ∷ w)) b w (sym e)), and-false)

-- the same, by the tests that the reader makes
pub zero-alone : (w : List ℕ) → get_or w 0 0 ≡ 48 → length w ≡ 1 → number w ≡ Some 0
zero-alone [] e l = absurd (omega arith)
zero-alone (b ∷ []) e l = ap (λ (x : ℕ). number (x ∷ [])) e ∙ number-zero
zero-alone (b ∷ c ∷ w) e l = absurd (omega arith)

pub zero_leads : (w : List ℕ) → get_or w 0 0 ≡ 48 → (length w ≡ 1 → ⊥) → number w ≡ None
zero_leads [] e l = number-empty
zero_leads (b ∷ []) e l = absurd (l refl)
zero_leads (b ∷ c ∷ w) e l = ap (λ (x : ℕ). number (x ∷ c ∷ w)) e ∙ number-zeros c w

-- all digits, the first no zero
first-digit : (b : ℕ) → (48 ≤ b) × (b ≤ 57) → decimal (0 * 10 + (b - 48)) ≡ b ∷ []
first-digit b r =
    let lo : 48 ≤ b = r.0 in
    let hi : b ≤ 57 = r.1 in
    let z : 48 + (0 * 10 + (b - 48)) ≡ b = omega arith in
    dec_small (0 * 10 + (b - 48)) (omega arith) ∙ ap (λ (x : ℕ). x ∷ []) z

whole : (b : ℕ) (w : List ℕ) → Digits (b ∷ w) → (b ≡ 48 → ⊥) → decimal (as_digits 0 (b ∷ w)) ≡ b ∷ w
unfolding as_digits
whole b w is ne =
    let lo : 48 ≤ b = is.0.0 in
    value_on (0 * 10 + (b - 48)) w (omega arith) is.1 ∙ ap (λ (l : List ℕ). l ++ w) (first-digit b is.0)

-- and a value that is small enough
pub number-all : (w : List ℕ) (n : ℕ) → 0 < length w → (get_or w 0 0 ≡ 48 → ⊥) → ((k : ℕ) → k < length w → (48 ≤ get_or w k 0) × (get_or w k 0 ≤ 57))
    → as_digits 0 w ≡ n → n ≤ 65535 → number w ≡ Some n
unfolding number only
number-all [] n h ne d e l = absurd (not-suc-le-zero h)
number-all (b ∷ w) n h ne d e l =
    let is : Digits (b ∷ w) = digits-all (b ∷ w) d in
    rw (e, le-leb n 65535 l, ap (same (b ∷ w)) (ap decimal (sym e) ∙ whole b w is ne) ∙ same_refl (b ∷ w))
