-- Laws of the field at a place: where it ends, and its bytes.
use Rattle.base.specs.{ℕ, zero, suc, ◌+◌, ◌-◌, ◌≤◌, ◌<◌, add-zero, add-one, arith, ◌≡◌, refl, sym, ap, ◌∙◌, Bool, true, false, ◌&&◌, List}
use Rattle.base.specs.{[], ◌∷◌, eqb, length, take, drop, get_or, length-drop, drop_of_length-le, drop-cons, eq-eqb, ne_eqb, lt-ltb, ltb-true}
use Rattle.base.specs.{Option, None, Some}
use Rattle.base_text.proofs.Bytes.{and-false}
use Rattle.base_text.specs.{pick_bytes, pick_n, end_of, stops, word_of, word_at, end_at, number_of, step_of}

end_short : (l : List ℕ) → end_of l ≤ length l
unfolding end_of
end_short [] = omega arith
end_short (b ∷ []) = rw and-false (go (eqb b 10))
  where
    go : (t : Bool) → pick_n t 1 0 ≤ 1
    go true = omega arith
    go false = omega arith
end_short (b ∷ x ∷ l) = go (eqb b 10) (eqb b 13 && eqb x 10)
  where
    go : (t u : Bool) → pick_n t 1 (pick_n u 2 0) ≤ suc (suc (length l))
    go true u = omega arith
    go false true = omega arith
    go false false = omega arith

-- a line's end that is not of no bytes stands there
pub some_end : (l : List ℕ) → (end_of l ≡ 0 → ⊥) → stops l ≡ true
some_end l ne = lt-ltb 0 (end_of l) (pos (end_of l) ne)
  where
    pos : (n : ℕ) → (n ≡ 0 → ⊥) → 0 < n
    pos zero f = absurd (f refl)
    pos (suc n) f = omega arith

-- ---- a line's end at a place

module _ (s : List ℕ) (at : ℕ) where
  pub end_out : length s ≤ at → end_of (drop at s) ≡ 0
  unfolding end_of
  end_out h = rw (drop_of_length-le s h)

  pub end-ten : at < length s → get_or s at 0 ≡ 10 → end_of (drop at s) ≡ 1
  unfolding end_of
  end-ten h e = rw (drop-cons s at 0 h, eq-eqb (get_or s at 0) 10 e)

  pub end_other : at < length s → (get_or s at 0 ≡ 10 → ⊥) → (get_or s at 0 ≡ 13 → ⊥) → end_of (drop at s) ≡ 0
  unfolding end_of
  end_other h a b = rw (drop-cons s at 0 h, ne_eqb (get_or s at 0) 10 a, ne_eqb (get_or s at 0) 13 b)

  -- 13 at the text's end, and 13 with another byte behind it
  pub end-last : at < length s → length s ≤ at + 1 → (get_or s at 0 ≡ 10 → ⊥) → end_of (drop at s) ≡ 0
  unfolding end_of
  end-last h l a =
      let r : length s ≤ suc at = omega arith in
      rw (drop-cons s at 0 h, ne_eqb (get_or s at 0) 10 a, drop_of_length-le s r, and-false)

  pub end-alone : at + 1 < length s → (get_or s at 0 ≡ 10 → ⊥) → (get_or s (at + 1) 0 ≡ 10 → ⊥) → end_of (drop at s) ≡ 0
  unfolding end_of
  end-alone l a b =
      let h : at < length s = omega arith in
      let r : suc at < length s = omega arith in
      rw (drop-cons s at 0 h, ne_eqb (get_or s at 0) 10 a, drop-cons s (suc at) 0 r, sym (add-one at), ne_eqb (get_or s (at + 1) 0) 10 b, and-false)

  pub end-both : at + 1 < length s → get_or s at 0 ≡ 13 → get_or s (at + 1) 0 ≡ 10 → end_of (drop at s) ≡ 2
  unfolding end_of
  end-both l a b =
      let h : at < length s = omega arith in
      let r : suc at < length s = omega arith in
      rw (drop-cons s at 0 h, a, drop-cons s (suc at) 0 r, sym (add-one at), b)

  -- it lies in the text
  pub end_fits : (end_of (drop at s) ≡ 0 → ⊥) → at + end_of (drop at s) ≤ length s
  end_fits ne =
      let l : end_of (drop at s) ≤ length (drop at s) = end_short (drop at s) in
      let p : 0 < end_of (drop at s) = ltb-true 0 (end_of (drop at s)) (some_end (drop at s) ne) in
      omega (arith, length-drop at s)

-- one byte of a field
pub word-step : (s : List ℕ) (at : ℕ) → at < length s → (get_or s at 0 ≡ 32 → ⊥) → end_of (drop at s) ≡ 0 → word_at s at ≡ get_or s at 0 ∷ word_at s (at + 1)
unfolding word_at word_of
word-step s at h a b =
    let n : end_of (get_or s at 0 ∷ drop (suc at) s) ≡ 0 = ap end_of (sym (drop-cons s at 0 h)) ∙ b in
    rw (add-one at, drop-cons s at 0 h, ne_eqb (get_or s at 0) 32 a, n)

pub word-space : (s : List ℕ) (at : ℕ) → at < length s → get_or s at 0 ≡ 32 → word_at s at ≡ []
unfolding word_at word_of
word-space s at h e = rw (drop-cons s at 0 h, eq-eqb (get_or s at 0) 32 e)

no_byte_lem : (b : Bool) → pick_bytes b [] [] ≡ []
no_byte_lem true = refl
no_byte_lem false = refl

-- no field begins at a line's end
pub word_stop : (l : List ℕ) → stops l ≡ true → word_of l ≡ []
unfolding word_of
word_stop [] e = refl
word_stop (b ∷ l) e = rw (e, no_byte_lem)

pub word_line : (s : List ℕ) (at : ℕ) → (end_of (drop at s) ≡ 0 → ⊥) → word_at s at ≡ []
unfolding word_at
word_line s at ne = word_stop (drop at s) (some_end (drop at s) ne)

pub word_out : (s : List ℕ) (at : ℕ) → length s ≤ at → word_at s at ≡ []
unfolding word_at word_of
word_out s at h = rw (drop_of_length-le s h)

pub end_none : (s : List ℕ) (at : ℕ) → word_at s at ≡ [] → end_at s at ≡ at
unfolding end_at
end_none s at e = rw e (add-zero at)

pub end_step_lem : (s : List ℕ) (at : ℕ) → at < length s → (get_or s at 0 ≡ 32 → ⊥) → end_of (drop at s) ≡ 0 → end_at s at ≡ end_at s (at + 1)
unfolding end_at
end_step_lem s at h a b = rw (word-step s at h a b) (omega arith)

word_le : (l : List ℕ) → length (word_of l) ≤ length l
unfolding word_of
word_le [] = omega arith
word_le (b ∷ l) = go (eqb b 32) (stops (b ∷ l)) (word_le l)
  where
    go : (t u : Bool) → length (word_of l) ≤ length l → length (pick_bytes t [] (pick_bytes u [] (b ∷ word_of l))) ≤ suc (length l)
    go true u h = omega arith
    go false true h = omega arith
    go false false h = omega arith

pub end_le : (s : List ℕ) (at : ℕ) → at ≤ length s → end_at s at ≤ length s
unfolding end_at word_at
end_le s at h = omega (arith, word_le (drop at s), length-drop at s)

pub end-from : (s : List ℕ) (at : ℕ) → at ≤ end_at s at
unfolding end_at
end-from s at = omega arith

word-take : (l : List ℕ) → take (length (word_of l)) l ≡ word_of l
unfolding word_of
word-take [] = refl
word-take (b ∷ l) = go (eqb b 32) (stops (b ∷ l)) (word-take l)
  where
    go : (t u : Bool) → take (length (word_of l)) l ≡ word_of l
        → take (length (pick_bytes t [] (pick_bytes u [] (b ∷ word_of l)))) (b ∷ l) ≡ pick_bytes t [] (pick_bytes u [] (b ∷ word_of l))
    go true u e = refl
    go false true e = refl
    go false false e = ap (λ (x : List ℕ). b ∷ x) e

-- the part of the text that is the field
pub word-part : (s : List ℕ) (at : ℕ) → take (end_at s at - at) (drop at s) ≡ word_at s at
unfolding end_at word_at
word-part s at =
    let e : at + length (word_of (drop at s)) - at ≡ length (word_of (drop at s)) = omega arith in
    ap (λ (n : ℕ). take n (drop at s)) e ∙ word-take (drop at s)

pub part-is : (s : List ℕ) (at end : ℕ) → end ≡ end_at s at → take (end - at) (drop at s) ≡ word_at s at
part-is s at end e = ap (λ (k : ℕ). take (k - at) (drop at s)) e ∙ word-part s at

-- a field that a test q takes, and one that it does not
module _ (q : List ℕ → Option ℕ) (s : List ℕ) (at end : ℕ) (e : end ≡ end_at s at) where
  pub found_at : (n : ℕ) → q (take (end - at) (drop at s)) ≡ Some n → Some (n, record { at = end }) ≡ number_of (q (word_at s at)) (end_at s at)
  found_at n f =
      let h : q (word_at s at) ≡ Some n = ap q (sym (part-is s at end e)) ∙ f in
      rw (h, sym e)

  pub not_at : q (take (end - at) (drop at s)) ≡ None → None ≡ number_of (q (word_at s at)) (end_at s at)
  not_at f =
      let h : q (word_at s at) ≡ None = ap q (sym (part-is s at end e)) ∙ f in
      rw h

-- the same for a test
module _ (q : List ℕ → Bool) (s : List ℕ) (at end : ℕ) (e : end ≡ end_at s at) where
  pub passes_at : q (take (end - at) (drop at s)) ≡ true → Some (record { at = end }) ≡ step_of (q (word_at s at)) (end_at s at)
  passes_at f =
      let h : q (word_at s at) ≡ true = ap q (sym (part-is s at end e)) ∙ f in
      rw (h, sym e)

  pub fails_at : q (take (end - at) (drop at s)) ≡ false → None ≡ step_of (q (word_at s at)) (end_at s at)
  fails_at f =
      let h : q (word_at s at) ≡ false = ap q (sym (part-is s at end e)) ∙ f in
      rw h
