-- The words from a place on, after words were put: those that were put, where they were put, and those of before, where the two do not meet.
--     put_same                    a word that two lists have in common, where the same words are put
--     part-put                    the words that were put
--     part_apart                  words that do not meet them
--     zero-put                    words that were cleared
-- and so for a record that is read out of n words (`OfWords`):
--     read-put                    it is read out of the words that were put
--     read-apart                  it is as before, where its words and those do not meet
--     word-put, word-apart        so for one word
use Rattle.base.specs.{◌≡◌, refl, sym, ap, ◌∙◌, Bool, true, false, List, [], ◌∷◌, ℕ, ◌+◌, ◌-◌, ◌≤◌, ◌<◌, add-zero}
use Rattle.base.specs.{zero-add, arith, ltb, leb, ltb-true, ltb-false, leb-true, leb-false, length, take, drop, get_or, length-take}
use Rattle.base.specs.{length-drop, length-replicate, get_or-replicate, get_or-take, get_or-drop, ext_get_or}
use Rattle.base_words.specs.{put_at, zeros}
use Rattle.base_words.proofs.WordStores.{length-put, get_put, get_put-below, get_put-above}

-- n words from a and k words from b on have no word in common
pub record Apart (a n b k : ℕ) : Type 0 where
  pub apart : (i j : ℕ) → i < n → j < k → a + i ≡ b + j → ⊥

-- a word that none of the words put is
pub get_apart : (w : List ℕ) (at : ℕ) (vs : List ℕ) → at + length vs ≤ length w
    → (i : ℕ) → ((j : ℕ) → j < length vs → i ≡ at + j → ⊥) → get_or (put_at w at vs) i 0 ≡ get_or w i 0
get_apart w at vs fits i h = by (ltb i at) refl
  where
    above : (t : Bool) → leb (at + length vs) i ≡ t → at ≤ i → get_or (put_at w at vs) i 0 ≡ get_or w i 0
    above true e l = get_put-above w at vs fits i (leb-true (at + length vs) i e)
    above false e l =
        let b : i < at + length vs = leb-false (at + length vs) i e in
        absurd (h (i - at) (omega arith) (omega arith))

    by : (t : Bool) → ltb i at ≡ t → get_or (put_at w at vs) i 0 ≡ get_or w i 0
    by true e = get_put-below w at vs fits i (ltb-true i at e)
    by false e = above (leb (at + length vs) i) refl (ltb-false i at e)

-- a word that two lists have in common stays so where the same words are put
pub put_same : (v w : List ℕ) (at : ℕ) (vs : List ℕ) → length v ≡ length w → at + length vs ≤ length w
    → (i : ℕ) → get_or v i 0 ≡ get_or w i 0 → get_or (put_at v at vs) i 0 ≡ get_or (put_at w at vs) i 0
put_same v w at vs size fits i same = by (ltb i at) refl (ltb i (at + length vs)) refl
  where
    fits_v : at + length vs ≤ length v
    fits_v = omega arith

    by : (s : Bool) → ltb i at ≡ s → (t : Bool) → ltb i (at + length vs) ≡ t → get_or (put_at v at vs) i 0 ≡ get_or (put_at w at vs) i 0
    by true e t f =
        let l : i < at = ltb-true i at e in
        get_put-below v at vs fits_v i l ∙ same ∙ sym (get_put-below w at vs fits i l)
    by false e true f =
        let l : at ≤ i = ltb-false i at e in let g : i < at + length vs = ltb-true i (at + length vs) f in
        let here : i ≡ at + (i - at) = omega arith in
        ap (λ (j : ℕ). get_or (put_at v at vs) j 0) here ∙ get_put v at vs fits_v (i - at) (omega arith)
        ∙ sym (ap (λ (j : ℕ). get_or (put_at w at vs) j 0) here ∙ get_put w at vs fits (i - at) (omega arith))
    by false e false f =
        let g : at + length vs ≤ i = ltb-false i (at + length vs) f in
        get_put-above v at vs fits_v i g ∙ same ∙ sym (get_put-above w at vs fits i g)

-- what is read of two lists is the same where their words are
part_same : (v w : List ℕ) (at n : ℕ) → length v ≡ length w → ((i : ℕ) → i < n → get_or v (at + i) 0 ≡ get_or w (at + i) 0)
    → take n (drop at v) ≡ take n (drop at w)
part_same v w at n e h =
    ext_get_or 0 (take n (drop at v)) (take n (drop at w))
    (simp (length-take, length-drop) (omega arith))
    (λ i l.
    let b : i < n = omega (arith, length-take n (drop at v)) in
    get_or-take n (drop at v) i 0 b ∙ get_or-drop at v i 0 ∙ h i b ∙ sym (get_or-drop at w i 0) ∙ sym (get_or-take n (drop at w) i 0 b))

module _ (w : List ℕ) (at : ℕ) (vs : List ℕ) (fits : at + length vs ≤ length w) where
  pub part-put : take (length vs) (drop at (put_at w at vs)) ≡ vs
  part-put =
      ext_get_or 0 (take (length vs) (drop at (put_at w at vs))) vs
      (simp (length-take, length-drop) (omega (arith, length-put w at vs fits)))
      (λ i l.
      let b : i < length vs = omega (arith, length-take (length vs) (drop at (put_at w at vs))) in
      get_or-take (length vs) (drop at (put_at w at vs)) i 0 b ∙ get_or-drop at (put_at w at vs) i 0 ∙ get_put w at vs fits i b)

  pub part_apart : (j n : ℕ) → Apart j n at (length vs) → take n (drop j (put_at w at vs)) ≡ take n (drop j w)
  part_apart j n h =
      part_same (put_at w at vs) w j n (length-put w at vs fits)
      (λ i b. get_apart w at vs fits (j + i) (λ k l e. h.apart i k b l e))

-- a word among zeros that were put
pub zero-put : (w : List ℕ) (at n : ℕ) → at + n ≤ length w → (i : ℕ) → at ≤ i → i < at + n → get_or (put_at w at (zeros n)) i 0 ≡ 0
zero-put w at n h i a b =
    let l : length (zeros n) ≡ n = length-replicate n 0 in let e : at + (i - at) ≡ i = omega arith in
    ap (λ (j : ℕ). get_or (put_at w at (zeros n)) j 0) (sym e) ∙ get_put w at (zeros n) (omega arith) (i - at) (omega arith)
    ∙ get_or-replicate n (i - at) 0 0 (omega arith)

-- a record that is read out of the n words from a place on, and of nothing else
pub record OfWords {A : Type 0} (read : List ℕ → ℕ → A) (n : ℕ) : Type 0 where
  pub local : (w : List ℕ) (at : ℕ) → read w at ≡ read (take n (drop at w)) 0

module _ {A : Type 0} (read : List ℕ → ℕ → A) (n : ℕ) (r : OfWords read n) (w : List ℕ) (at : ℕ) (vs : List ℕ) (fits : at + length vs ≤ length w) where
  pub read-put : length vs ≡ n → read (put_at w at vs) at ≡ read vs 0
  read-put e =
      r.local (put_at w at vs) at ∙ ap (λ (k : ℕ). read (take k (drop at (put_at w at vs))) 0) (sym e)
      ∙ ap (λ (x : List ℕ). read x 0) (part-put w at vs fits)

  pub read-apart : (j : ℕ) → Apart j n at (length vs) → read (put_at w at vs) j ≡ read w j
  read-apart j h =
      r.local (put_at w at vs) j ∙ ap (λ (x : List ℕ). read x 0) (part_apart w at vs fits j n h) ∙ sym (r.local w j)

-- a record that is the same where its n words are is read out of them
pub of_words : {A : Type 0} (read : List ℕ → ℕ → A) (n : ℕ)
    → ((v w : List ℕ) (at to : ℕ) → ((k : ℕ) → k < n → get_or v (at + k) 0 ≡ get_or w (to + k) 0) → read v at ≡ read w to) → OfWords read n
of_words read n same =
    record {
      local =
          λ w at.
          same w (take n (drop at w)) at 0
          (λ k b. sym (ap (λ (i : ℕ). get_or (take n (drop at w)) i 0) (zero-add k) ∙ get_or-take n (drop at w) k 0 b ∙ get_or-drop at w k 0));
    }

-- a word is read out of itself
pub word_of_words : OfWords (λ (w : List ℕ) (at : ℕ). get_or w at 0) 1
word_of_words =
    of_words (λ (w : List ℕ) (at : ℕ). get_or w at 0) 1
    (λ v w at to h. ap (λ (i : ℕ). get_or v i 0) (sym (add-zero at)) ∙ h 0 (omega arith) ∙ ap (λ (i : ℕ). get_or w i 0) (add-zero to))

pub word-put : (w : List ℕ) (at x : ℕ) → at < length w → get_or (put_at w at (x ∷ [])) at 0 ≡ x
word-put w at x h = read-put (λ (w' : List ℕ) (i : ℕ). get_or w' i 0) 1 word_of_words w at (x ∷ []) (omega arith) refl

pub word-apart : (w : List ℕ) (at x : ℕ) → at < length w → (i : ℕ) → (i ≡ at → ⊥) → get_or (put_at w at (x ∷ [])) i 0 ≡ get_or w i 0
word-apart w at x h i n = read-apart (λ (w' : List ℕ) (j : ℕ). get_or w' j 0) 1 word_of_words w at (x ∷ []) (omega arith) i (omega arith)
