-- Laws of the longest beginning of which every byte passes a test, by places.
use Rattle.base.specs.{ℕ, suc, ◌+◌, ◌-◌, ◌≤◌, ◌<◌, add-zero, le_of_lt, add-one, arith, ◌≡◌, refl, sym, ap, ◌∙◌, Bool, true, false, not}
use Rattle.base.specs.{cond, ◌&&◌, List, [], ◌∷◌, eqb, ltb, eqb-suc-suc, eq-eqb, ne_eqb, ltb-true, ltb-false, length, take, drop, get_or}
use Rattle.base.specs.{length-drop, drop_of_length-le, drop-cons, get_or-drop, drop-drop}
use Rattle.model.specs.{all, same, span}
use Rattle.base_text.specs.{span_end}

module _ (p : ℕ → Bool) where
  pub class_short : (l : List ℕ) → length (span p l) ≤ length l
  unfolding span
  class_short [] = omega arith
  class_short (b ∷ l) = go (p b) (class_short l)
    where
      go : (t : Bool) → length (span p l) ≤ length l → length (cond t (b ∷ span p l) []) ≤ suc (length l)
      go true h = omega arith
      go false h = omega arith

  pub class_take : (l : List ℕ) → take (length (span p l)) l ≡ span p l
  unfolding span
  class_take [] = refl
  class_take (b ∷ l) = go (p b) (class_take l)
    where
      go : (t : Bool) → take (length (span p l)) l ≡ span p l → take (length (cond t (b ∷ span p l) [])) (b ∷ l) ≡ cond t (b ∷ span p l) []
      go true e = ap (λ (x : List ℕ). b ∷ x) e
      go false e = refl

  pub class_passes : (l : List ℕ) → all p (span p l) ≡ true
  unfolding span all
  class_passes [] = refl
  class_passes (b ∷ l) = go (p b) refl (class_passes l)
    where
      go : (t : Bool) → p b ≡ t → all p (span p l) ≡ true → all p (cond t (b ∷ span p l) []) ≡ true
      go true e h = rw (e, h)
      go false e h = refl

  -- the byte that ends it
  span_fails : (l : List ℕ) → length (span p l) < length l → p (get_or l (length (span p l)) 0) ≡ false
  unfolding span
  span_fails [] h = absurd (omega arith)
  span_fails (b ∷ l) k = go (p b) refl (span_fails l) k
    where
      go : (t : Bool) → p b ≡ t → (length (span p l) < length l → p (get_or l (length (span p l)) 0) ≡ false)
          → length (cond t (b ∷ span p l) []) < suc (length l) → p (get_or (b ∷ l) (length (cond t (b ∷ span p l) [])) 0) ≡ false
      go true e f h = f (omega arith)
      go false e f h = e

  -- the whole list passes just where the beginning is the whole
  pub class_all : (l : List ℕ) → all p l ≡ eqb (length (span p l)) (length l)
  unfolding span all
  class_all [] = refl
  class_all (b ∷ l) = go (p b) (class_all l)
    where
      go : (t : Bool) → all p l ≡ eqb (length (span p l)) (length l) → (t && all p l) ≡ eqb (length (cond t (b ∷ span p l) [])) (suc (length l))
      go true e = e ∙ sym (eqb-suc-suc (length (span p l)) (length l))
      go false e = sym (ne_eqb 0 (suc (length l)) (λ z. omega arith))

  -- bytes from i on beside the beginning from `at` on
  module _ (w : List ℕ) (at : ℕ) (t : List ℕ) (i : ℕ) where
    abbrev Beside : Bool → Type 0
    Beside b = same (drop i t) (span p (drop at w)) ≡ b

    pub word-past : length t ≤ i → length w ≤ at → Beside true
    unfolding same span
    word-past h k = rw (drop_of_length-le t h, drop_of_length-le w k)

    pub word_out : length t ≤ i → at < length w → Beside (not (p (get_or w at 0)))
    unfolding same span
    word_out h k = rw (drop_of_length-le t h, drop-cons w at 0 k) (go (p (get_or w at 0)))
      where
        go : (s : Bool) → same [] (cond s (get_or w at 0 ∷ span p (drop (suc at) w)) []) ≡ not s
        go true = refl
        go false = refl

    module _ (h : i < length t) where
      pub word-short : length w ≤ at → Beside false
      unfolding same span
      word-short k = rw (drop-cons t i 0 h, drop_of_length-le w k)

      pub word_stop : at < length w → p (get_or w at 0) ≡ false → Beside false
      unfolding same span
      word_stop k e = rw (drop-cons t i 0 h, drop-cons w at 0 k, e)

      pub word_other : at < length w → (get_or w at 0 ≡ get_or t i 0 → ⊥) → Beside false
      unfolding same span
      word_other k ne = rw (drop-cons t i 0 h, drop-cons w at 0 k) (go (p (get_or w at 0)))
        where
          go : (s : Bool) → same (get_or t i 0 ∷ drop (suc i) t) (cond s (get_or w at 0 ∷ span p (drop (suc at) w)) []) ≡ false
          go true = rw (ne_eqb (get_or t i 0) (get_or w at 0) (λ e. ne (sym e)))
          go false = refl

      pub word-step : at < length w → get_or w at 0 ≡ get_or t i 0 → p (get_or w at 0) ≡ true → Beside (same (drop (i + 1) t) (span p (drop (at + 1) w)))
      unfolding same span
      word-step k e f = rw (drop-cons t i 0 h, drop-cons w at 0 k, f, eq-eqb (get_or t i 0) (get_or w at 0) (sym e), add-one i, add-one at)

  module _ (w : List ℕ) (at : ℕ) where
    pub class_stop : at < length w → p (get_or w at 0) ≡ false → span_end p w at ≡ at
    unfolding span_end span
    class_stop h e = rw (drop-cons w at 0 h, e) (add-zero at)

    pub class_out : length w ≤ at → span_end p w at ≡ at
    unfolding span_end span
    class_out h = rw (drop_of_length-le w h) (add-zero at)

    pub class_step : at < length w → p (get_or w at 0) ≡ true → span_end p w at ≡ span_end p w (at + 1)
    unfolding span_end span
    class_step h e = rw (drop-cons w at 0 h, e, add-one at) (omega arith)

    pub class_from : at ≤ span_end p w at
    unfolding span_end
    class_from = omega arith

    pub class_le : at ≤ length w → span_end p w at ≤ length w
    unfolding span_end
    class_le h = omega (arith, class_short (drop at w), length-drop at w)

    pub class_part : take (span_end p w at - at) (drop at w) ≡ span p (drop at w)
    unfolding span_end
    class_part =
        let e : at + length (span p (drop at w)) - at ≡ length (span p (drop at w)) = omega arith in
        ap (λ (n : ℕ). take n (drop at w)) e ∙ class_take (drop at w)

    pub class_end : span_end p w at < length w → p (get_or w (span_end p w at) 0) ≡ false
    unfolding span_end
    class_end h = ap p (sym (get_or-drop at w (length (span p (drop at w))) 0)) ∙ span_fails (drop at w) (omega (arith, length-drop at w))

    pub class_drop : drop (length (span p (drop at w))) (drop at w) ≡ drop (span_end p w at) w
    unfolding span_end
    class_drop = drop-drop (length (span p (drop at w))) at w

    -- one that ends past the list begins there
    pub class_past : (end : ℕ) → end ≡ span_end p w at → length w < end → span p (drop at w) ≡ []
    unfolding span
    class_past end e h = go (ltb (length w) at) refl
      where
        go : (s : Bool) → ltb (length w) at ≡ s → span p (drop at w) ≡ []
        go true q = let k = ltb-true (length w) at q in rw (drop_of_length-le w (le_of_lt k))
        go false q = let k = ltb-false (length w) at q in absurd (omega (arith, class_le k))
