-- Names by their numbers, and the numbers of a driver.
use Rattle.base.specs.{ℕ, zero, suc, ◌+◌, ◌-◌, ◌*◌, ◌≤◌, ◌<◌, not-suc-le-zero, le_of_suc-le-suc, arith, ◌≡◌, refl, sym, ap, ap₂, ◌∙◌, ◌⊎◌}
use Rattle.base.specs.{inl, inr, Bool, true, false, ◌&&◌, ◌||◌, List, [], ◌∷◌, ◌++◌, map, Memᴰ, Memᴰ-head, Memᴰ-tail, T, leb}
use Rattle.base.specs.{length, take, get_or, replicate, length-append, length-take, length-map, get_or-append, get_or-append-add, get_or-take}
use Rattle.base.specs.{leb-true}
use Rattle.model.specs.{all, each, is_letter, between, Driver, is_net}
use Rattle.theory_graph.proofs.{all_of, is_true}
use Rattle.check_names.specs.{code}
use Rattle.check_reader.specs.{gate_words, driver_words}
use Rattle.check_nets.specs.{no_driver}

-- ---- names

and_left : (a b : Bool) → T (a && b) → T a
and_left true b t = tt
and_left false b t = elim t [ ]

and_right : (a b : Bool) → T (a && b) → T b
and_right true b t = t
and_right false b t = elim t [ ]

or_cases : (a b : Bool) → T (a || b) → T a ⊎ T b
or_cases true b t = inl tt
or_cases false b t = inr t

-- a byte of a name
Letter : ℕ → Type 0
Letter x = (0 < x) × (x < 256)

between-letter : (low high x : ℕ) → 0 < low → high < 256 → T (between low high x) → Letter x
unfolding between Letter
between-letter low high x h k t =
    let a : low ≤ x = leb-true low x (is_true (leb low x) (and_left (leb low x) (leb x high) t)) in
    let b : x ≤ high = leb-true x high (is_true (leb x high) (and_right (leb low x) (leb x high) t)) in
    (omega arith, omega arith)

net-letter : (x : ℕ) → T (is_letter x || between 48 57 x) → Letter x
unfolding is_letter
net-letter x t = elim (or_cases (is_letter x) (between 48 57 x) t) [
  | inl a ↦ elim (or_cases (between 65 90 x) (between 97 122 x) a) [
    | inl b ↦ between-letter 65 90 x (omega arith) (omega arith) b
    | inr b ↦ between-letter 97 122 x (omega arith) (omega arith) b
  ]
  | inr b ↦ between-letter 48 57 x (omega arith) (omega arith) b
]

net-letters : (w : List ℕ) → T (is_net w) → (x : ℕ) → Memᴰ x w → Letter x
unfolding is_net
net-letters w t x m =
    net-letter x
    (all_of (λ (b : ℕ). is_letter b || between 48 57 b) w (and_right (leb (length w) 8) (all (λ (b : ℕ). is_letter b || between 48 57 b) w) (and_right (leb 1 (length w)) _ t)) x m)

letters-same : (a b : List ℕ) → ((x : ℕ) → Memᴰ x a → Letter x) → ((x : ℕ) → Memᴰ x b → Letter x) → code a ≡ code b → a ≡ b
unfolding code Letter
letters-same [] [] f g e = refl
letters-same [] (y ∷ b) f g e = absurd (let h : 0 < y = (g y (Memᴰ-head refl)).0 in omega arith)
letters-same (x ∷ a) [] f g e = absurd (let h : 0 < x = (f x (Memᴰ-head refl)).0 in omega arith)
letters-same (x ∷ a) (y ∷ b) f g e =
    let p : x < 256 = (f x (Memᴰ-head refl)).1 in
    let q : y < 256 = (g y (Memᴰ-head refl)).1 in
    ap₂ (λ (z : ℕ) (w : List ℕ). z ∷ w) (omega arith) (letters-same a b (λ z m. f z (Memᴰ-tail m)) (λ z m. g z (Memᴰ-tail m)) (omega arith))

-- nets of one number are one
pub code_same : (a b : List ℕ) → T (is_net a) → T (is_net b) → code a ≡ code b → a ≡ b
code_same a b s t e = letters-same a b (net-letters a s) (net-letters b t) e

-- ---- a driver's numbers

words_long : (d : Driver) → length (driver_words d) ≡ 8
unfolding driver_words gate_words
words_long d = refl

pub all-long : (ds : List Driver) → length (each driver_words ds) ≡ 8 * length ds
unfolding each
all-long [] = refl
all-long (d ∷ ds) = omega (arith, length-append (driver_words d) (each driver_words ds), words_long d, all-long ds)

words-at : (ds : List Driver) (i k : ℕ) → i < length ds → k < 8 → get_or (each driver_words ds) (8 * i + k) 0 ≡ get_or (driver_words (get_or ds i no_driver)) k 0
unfolding each
words-at [] i k h q = absurd (not-suc-le-zero h)
words-at (d ∷ ds) zero k h q =
    ap (λ (x : ℕ). get_or (driver_words d ++ each driver_words ds) x 0) (let z : 8 * 0 + k ≡ k = omega arith in z)
    ∙ get_or-append (driver_words d) (each driver_words ds) 0 k (omega (arith, words_long d))
words-at (d ∷ ds) (suc i) k h q =
    ap (λ (x : ℕ). get_or (driver_words d ++ each driver_words ds) x 0) (let z : 8 * suc i + k ≡ length (driver_words d) + (8 * i + k) = omega (arith, words_long d) in z)
    ∙ get_or-append-add (driver_words d) (each driver_words ds) (8 * i + k) 0
    ∙ words-at ds i k (le_of_suc-le-suc h) q

word-offset : (d : Driver) → get_or (driver_words d) 0 0 ≡ d.offset
unfolding driver_words gate_words
word-offset d = refl

word-pins : (d : Driver) → get_or (driver_words d) 2 0 ≡ length d.uses
unfolding driver_words gate_words
word-pins d = refl

word-own : (d : Driver) → get_or (driver_words d) 7 0 ≡ code d.net
unfolding driver_words gate_words
word-own d = refl

word_use : (d : Driver) (j : ℕ) → j < 4 → get_or (driver_words d) (3 + j) 0 ≡ get_or (map code d.uses ++ replicate (4 - length d.uses) 0) j 0
unfolding driver_words gate_words
word_use d zero h = refl
word_use d (suc zero) h = refl
word_use d (suc (suc zero)) h = refl
word_use d (suc (suc (suc zero))) h = refl
word_use d (suc (suc (suc (suc j)))) h = absurd (omega arith)

code_at : (us : List (List ℕ)) (j : ℕ) → get_or (map code us) j 0 ≡ code (get_or us j [])
unfolding code
code_at [] j = refl
code_at (u ∷ us) zero = refl
code_at (u ∷ us) (suc j) = code_at us j

module _ (ds : List Driver) (nets : List ℕ) (n : ℕ) (counted : n ≡ length ds) (first : take (8 * n) nets ≡ each driver_words ds) where
  pub stored-long : 8 * n ≤ length nets
  stored-long = omega (arith, length-take (8 * n) nets, ap length first, all-long ds)

  stored_at : (i k : ℕ) → i < n → k < 8 → get_or nets (8 * i + k) 0 ≡ get_or (driver_words (get_or ds i no_driver)) k 0
  stored_at i k h q =
      sym (get_or-take (8 * n) nets (8 * i + k) 0 (omega arith)) ∙ ap (λ (w : List ℕ). get_or w (8 * i + k) 0) first ∙ words-at ds i k (omega arith) q

  pub stored-offset : (i : ℕ) → i < n → get_or nets (8 * i) 0 ≡ (get_or ds i no_driver).offset
  stored-offset i h = ap (λ (x : ℕ). get_or nets x 0) (let z : 8 * i ≡ 8 * i + 0 = omega arith in z) ∙ stored_at i 0 h (omega arith) ∙ word-offset (get_or ds i no_driver)

  pub stored-pins : (i : ℕ) → i < n → get_or nets (8 * i + 2) 0 ≡ length (get_or ds i no_driver).uses
  stored-pins i h = stored_at i 2 h (omega arith) ∙ word-pins (get_or ds i no_driver)

  pub stored-own : (i : ℕ) → i < n → get_or nets (8 * i + 7) 0 ≡ code (get_or ds i no_driver).net
  stored-own i h = stored_at i 7 h (omega arith) ∙ word-own (get_or ds i no_driver)

  pub stored_use : (i j : ℕ) → i < n → j < length (get_or ds i no_driver).uses → length (get_or ds i no_driver).uses ≤ 4 → get_or nets (8 * i + 3 + j) 0 ≡ code (get_or (get_or ds i no_driver).uses j [])
  stored_use i j h q four =
      let us = (get_or ds i no_driver).uses in
      ap (λ (x : ℕ). get_or nets x 0) (let z : 8 * i + 3 + j ≡ 8 * i + (3 + j) = omega arith in z)
      ∙ stored_at i (3 + j) h (omega arith)
      ∙ word_use (get_or ds i no_driver) j (omega arith)
      ∙ get_or-append (map code us) (replicate (4 - length us) 0) 0 j (omega (arith, length-map us code))
      ∙ code_at us j
