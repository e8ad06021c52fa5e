-- The laws of nodes, phases and needed phases in words, which callers of their loads and stores cite:
--     node-length, node-apart     a node that was stored leaves every other word
--     length-phase                a phase has four words
--     phase-put, phase-apart      a phase that was stored is loaded, and a store elsewhere leaves it
--     phase-none                  zeros are no source
--     needed-put, needed_other    a phase that was marked is needed, and whether another is stays
use Rattle.base.specs.{◌≡◌, refl, sym, ap, ◌∙◌, Bool, true, false, List, [], ◌∷◌, ◌++◌, ℕ, ◌+◌, ◌*◌, ◌/◌, ◌%◌, ◌≤◌, ◌<◌, add-zero, arith}
use Rattle.base.specs.{eqb, length, get_or, eqb-true, eqb-false, eq-eqb}
use Rattle.model.specs.{no_phase}
use Rattle.model.specs.declared.Match.{Match}
use Rattle.model.specs.declared.Source.{Source}
use Rattle.model.specs.declared.Source.TheVariants.{Input, Cell as Matched, Inverter as Inverted, Nothing}
use Rattle.model.specs.declared.Phase.{Phase}
use Rattle.base_words.specs.{put_at, HasCapacity, kind_addr, left_addr, right_addr, needed_at, needed_addr, put_node, MatchFits, SourceFits}
use Rattle.base_words.specs.{PhaseFits, match_word, source_words, arrival_words, phase_words, match_of, kind_source, source_of, phase_in}
use Rattle.base_words.specs.{flag_of, with_flag, is_needed, put_needed}
use Rattle.base_words.proofs.WordStores.{length-put}
use Rattle.base_words.proofs.WordRanges.{Apart, OfWords, of_words, read-put, read-apart, word-put, word-apart}

-- ---- nodes

module _ (w : List ℕ) (m v k l r : ℕ) (fits : HasCapacity w m) (within : v ≤ m) where
  one : List ℕ
  one = put_at w (kind_addr m v) (k ∷ [])

  two : List ℕ
  unfolding one
  two = put_at one (left_addr m v) (l ∷ [])

  length-one : length one ≡ length w
  unfolding one
  length-one = length-put w (kind_addr m v) (k ∷ []) (omega (arith, fits.capacity))

  length_two : length two ≡ length w
  unfolding two
  length_two = length-put one (left_addr m v) (l ∷ []) (omega (arith, fits.capacity, length-one)) ∙ length-one

  pub node-length : length (put_node w m v k l r) ≡ length w
  unfolding put_node two
  node-length = length-put two (right_addr m v) (r ∷ []) (omega (arith, fits.capacity, length_two)) ∙ length_two

  -- a word elsewhere stays
  pub node-apart : (i : ℕ) → (i ≡ kind_addr m v → ⊥) → (i ≡ left_addr m v → ⊥) → (i ≡ right_addr m v → ⊥) → get_or (put_node w m v k l r) i 0 ≡ get_or w i 0
  unfolding put_node two
  node-apart i a b c =
      word-apart two (right_addr m v) r (omega (arith, fits.capacity, length_two)) i c
      ∙ word-apart one (left_addr m v) l (omega (arith, fits.capacity, length-one)) i b
      ∙ word-apart w (kind_addr m v) k (omega (arith, fits.capacity)) i a

-- ---- phases

-- a phase is its four words
same-phase : (v w : List ℕ) (at to : ℕ) → ((k : ℕ) → k < 4 → get_or v (at + k) 0 ≡ get_or w (to + k) 0) → phase_in v at ≡ phase_in w to
unfolding phase_in
same-phase v w at to h =
    let e₀ : get_or v at 0 ≡ get_or w to 0 = simp add-zero at (h 0 (omega arith)) in
    let e₁ : get_or v (at + 1) 0 ≡ get_or w (to + 1) 0 = h 1 (omega arith) in
    let e₂ : get_or v (at + 2) 0 ≡ get_or w (to + 2) 0 = h 2 (omega arith) in
    let e₃ : get_or v (at + 3) 0 ≡ get_or w (to + 3) 0 = h 3 (omega arith) in
    λ i. record { source = source_of (e₀ i) (e₁ i); arrival = e₂ i + e₃ i * 65536 }

pub phase_of_words : OfWords phase_in 4
phase_of_words = of_words phase_in 4 same-phase

four : (s : Source) (n : ℕ) → length (source_words s ++ arrival_words n) ≡ 4
four Input n = refl
four (Matched m) n = refl
four (Inverted c) n = refl
four Nothing n = refl

pub length-phase : (p : Phase) → length (phase_words p) ≡ 4
unfolding phase_words
length-phase p = four p.source p.arrival

halves : (n : ℕ) → n % 65536 + n / 65536 * 65536 ≡ n
halves n = omega arith

-- the words of a match read back
match_back : (m : Match) → MatchFits m → match_of ((512 + m.cell) % 256) (match_word m) ≡ m
match_back m f =
    let a : match_word m / 384 ≡ m.cut = omega (arith, f.order, f.mask) in
    let b : (512 + m.cell) % 256 ≡ m.cell = omega (arith, f.cell) in
    let c : match_word m / 16 % 24 ≡ m.order = omega (arith, f.order, f.mask) in
    let d : match_word m % 16 ≡ m.mask = omega (arith, f.mask) in
    λ i. record { cut = a i; cell = b i; order = c i; mask = d i }

-- the words of a phase read back: by its source
phase-back : (s : Source) (n : ℕ) → SourceFits s → phase_in (source_words s ++ arrival_words n) 0 ≡ record { source = s; arrival = n }
unfolding phase_in
phase-back Input n f = λ i. record { source = Input; arrival = halves n i }
phase-back (Matched m) n f =
    let kind : (512 + m.cell) / 256 ≡ 2 = omega (arith, f.cell) in
    let e : source_of (512 + m.cell) (match_word m) ≡ Matched m =
    ap (λ (k : ℕ). kind_source k ((512 + m.cell) % 256) (match_word m)) kind ∙ ap Matched (match_back m f) in
    λ i. record { source = e i; arrival = halves n i }
phase-back (Inverted c) n f =
    let kind : (768 + c) / 256 ≡ 3 = omega arith in let cell : (768 + c) % 256 ≡ c = omega arith in
    λ i. record { source = kind_source (kind i) (cell i) 0; arrival = halves n i }
phase-back Nothing n f = λ i. record { source = Nothing; arrival = halves n i }

pub phase-put : (w : List ℕ) (at : ℕ) (p : Phase) → at + 4 ≤ length w → PhaseFits p → phase_in (put_at w at (phase_words p)) at ≡ p
unfolding phase_words
phase-put w at p h f =
    let l : length (phase_words p) ≡ 4 = length-phase p in
    read-put phase_in 4 phase_of_words w at (phase_words p) (omega arith) l ∙ phase-back p.source p.arrival f

pub phase-apart : (w : List ℕ) (at : ℕ) (vs : List ℕ) → at + length vs ≤ length w → (j : ℕ) → Apart j 4 at (length vs) → phase_in (put_at w at vs) j ≡ phase_in w j
phase-apart w at vs fits j h = read-apart phase_in 4 phase_of_words w at vs fits j h

-- "or none"
pub phase-none : (w : List ℕ) (at : ℕ) → ((k : ℕ) → k < 4 → get_or w (at + k) 0 ≡ 0) → phase_in w at ≡ no_phase
unfolding phase_in no_phase
phase-none w at h =
    let e₀ : get_or w at 0 ≡ 0 = simp add-zero at (h 0 (omega arith)) in let e₁ : get_or w (at + 1) 0 ≡ 0 = h 1 (omega arith) in
    let e₂ : get_or w (at + 2) 0 ≡ 0 = h 2 (omega arith) in let e₃ : get_or w (at + 3) 0 ≡ 0 = h 3 (omega arith) in
    λ i. record { source = source_of (e₀ i) (e₁ i); arrival = e₂ i + e₃ i * 65536 }

-- ---- needed phases

-- a phase's name says the last bit of its literal
bit_of_lem : (x y : ℕ) → eqb (x % 2) 1 ≡ eqb (y % 2) 1 → x % 2 ≡ y % 2
bit_of_lem x y e = by (eqb (x % 2) 1) refl
  where
    by : (t : Bool) → eqb (x % 2) 1 ≡ t → x % 2 ≡ y % 2
    by true d = omega (arith, eqb-true (x % 2) 1 d, eqb-true (y % 2) 1 (sym e ∙ d))
    by false d =
        let a : x % 2 ≡ 1 → ⊥ = eqb-false (x % 2) 1 d in let b : y % 2 ≡ 1 → ⊥ = eqb-false (y % 2) 1 (sym e ∙ d) in
        omega arith

-- a mark is seen, and the other bit stays
flag_put : (x : ℕ) (neg : Bool) → flag_of (with_flag x neg) neg ≡ true
flag_put x true = eq-eqb ((x % 2 + 2) / 2 % 2) 1 (omega arith)
flag_put x false = eq-eqb ((x / 2 % 2 * 2 + 1) % 2) 1 (omega arith)

flag_other : (x : ℕ) (a b : Bool) → (a ≡ b → ⊥) → flag_of (with_flag x b) a ≡ flag_of x a
flag_other x true true n = absurd (n refl)
flag_other x true false n = let e : (x / 2 % 2 * 2 + 1) / 2 % 2 ≡ x / 2 % 2 = omega arith in ap (λ (y : ℕ). eqb y 1) e
flag_other x false true n = let e : (x % 2 + 2) % 2 ≡ x % 2 = omega arith in ap (λ (y : ℕ). eqb y 1) e
flag_other x false false n = absurd (n refl)

module _ (w : List ℕ) (m l : ℕ) (fits : HasCapacity w m) (within : l / 2 ≤ m) where
  pub needed-put : is_needed (put_needed w m l) m l ≡ true
  unfolding is_needed put_needed
  needed-put =
      ap (λ (x : ℕ). flag_of x (eqb (l % 2) 1)) (word-put w (needed_addr m (l / 2)) (with_flag (needed_at w m (l / 2)) (eqb (l % 2) 1)) (omega (arith, fits.capacity)))
      ∙ flag_put (needed_at w m (l / 2)) (eqb (l % 2) 1)

  pub needed_other : (j : ℕ) → j / 2 ≤ m → (j ≡ l → ⊥) → is_needed (put_needed w m l) m j ≡ is_needed w m j
  unfolding is_needed put_needed
  needed_other j h n = by (eqb (j / 2) (l / 2)) refl
    where
      now : ℕ
      now = with_flag (needed_at w m (l / 2)) (eqb (l % 2) 1)

      capacity : needed_addr m (l / 2) < length w
      capacity = omega (arith, fits.capacity)

      phases : j / 2 ≡ l / 2 → eqb (j % 2) 1 ≡ eqb (l % 2) 1 → ⊥
      phases e d = n (omega (arith, bit_of_lem j l d))

      by : (t : Bool) → eqb (j / 2) (l / 2) ≡ t → flag_of (needed_at (put_at w (needed_addr m (l / 2)) (now ∷ [])) m (j / 2)) (eqb (j % 2) 1) ≡ flag_of (needed_at w m (j / 2)) (eqb (j % 2) 1)
      by true e =
          let same : j / 2 ≡ l / 2 = eqb-true (j / 2) (l / 2) e in
          rw same (ap (λ (x : ℕ). flag_of x (eqb (j % 2) 1)) (word-put w (needed_addr m (l / 2)) now capacity) ∙ flag_other (needed_at w m (l / 2)) (eqb (j % 2) 1) (eqb (l % 2) 1) (phases same))
      by false e =
          let other : j / 2 ≡ l / 2 → ⊥ = eqb-false (j / 2) (l / 2) e in
          ap (λ (x : ℕ). flag_of x (eqb (j % 2) 1)) (word-apart w (needed_addr m (l / 2)) now capacity (needed_addr m (j / 2)) (omega arith))
