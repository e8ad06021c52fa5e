-- The token at a place is the first of the line's tokens from there on.
use Rattle.base.specs.{ℕ, suc, ◌+◌, ◌-◌, ◌≤◌, ◌<◌, add-one, arith, ◌≡◌, refl, sym, ap, ◌∙◌, Bool, true, false, cond, ◌&&◌, ◌||◌, None, Some, List, []}
use Rattle.base.specs.{◌∷◌, eqb, ltb, length, drop, get_or, drop_of_length-le, drop-cons, lt-ltb, le-ltb, ltb-true, ltb-false, eqb-true}
use Rattle.model.specs.{is_name_byte, is_letter, between, onto, is_blank, is_word_byte, starts_word, token_prepended, tokens, span, lead, is_sign, begins}
use Rattle.base_text.specs.{span_end}
use Rattle.genlib_expression.specs.{end_at, from_at, behind_at, rest_at, part}
use Rattle.base_text.proofs.{class_from, class_le, class_part, class_end, class_step, class_drop}

-- ---- one byte in front of a line

space_no_word : is_word_byte 32 ≡ false
unfolding is_word_byte is_name_byte is_letter between
space_no_word = refl

tab_no_word : is_word_byte 9 ≡ false
unfolding is_word_byte is_name_byte is_letter between
tab_no_word = refl

-- no blank is a byte of a word
blank_no_word : (b : ℕ) → is_blank b ≡ true → is_word_byte b ≡ false
unfolding is_blank
blank_no_word b = go (eqb b 32) (eqb b 9) refl refl
  where
    go : (s t : Bool) → eqb b 32 ≡ s → eqb b 9 ≡ t → (s || t) ≡ true → is_word_byte b ≡ false
    go true t e f h = ap is_word_byte (eqb-true b 32 e) ∙ space_no_word
    go false true e f h = ap is_word_byte (eqb-true b 9 f) ∙ tab_no_word
    go false false e f h = let z : ◌≡◌ {A = ℕ} 0 1 = cc in absurd (omega arith)

word_no_blank : (b : ℕ) → is_word_byte b ≡ true → is_blank b ≡ false
word_no_blank b e = go (is_blank b) refl
  where
    go : (t : Bool) → is_blank b ≡ t → t ≡ false
    go true f = let z : true ≡ false = sym e ∙ blank_no_word b f in z
    go false f = refl

pub tokens-blank : (b : ℕ) (bs : List ℕ) → is_blank b ≡ true → tokens (b ∷ bs) ≡ tokens bs
unfolding tokens
tokens-blank b bs e = rw e

pub tokens-sign : (b : ℕ) (bs : List ℕ) → is_blank b ≡ false → is_word_byte b ≡ false → tokens (b ∷ bs) ≡ (b ∷ []) ∷ tokens bs
unfolding tokens
tokens-sign b bs e f = rw (e, f)

span_none : (l : List ℕ) → starts_word l ≡ false → span is_word_byte l ≡ []
unfolding span starts_word
span_none [] e = refl
span_none (b ∷ l) e = rw e

-- a word in front of a line
pub tokens-word : (l : List ℕ) → starts_word l ≡ true → tokens l ≡ span is_word_byte l ∷ tokens (drop (length (span is_word_byte l)) l)
unfolding tokens span starts_word
tokens-word [] e = let z : ◌≡◌ {A = ℕ} 0 1 = cc in absurd (omega arith)
tokens-word (b ∷ l) e = rw (word_no_blank b e, e) (go (starts_word l) refl (tokens-word l))
  where
    go : (t : Bool) → starts_word l ≡ t → (starts_word l ≡ true → tokens l ≡ span is_word_byte l ∷ tokens (drop (length (span is_word_byte l)) l))
        → token_prepended false t b (tokens l) ≡ (b ∷ span is_word_byte l) ∷ tokens (drop (length (span is_word_byte l)) l)
    go true f h = ap (onto b) (h f)
    go false f h = rw (span_none l f)

-- blanks in front of a line
tokens_skip : (l : List ℕ) → tokens l ≡ tokens (drop (length (span is_blank l)) l)
unfolding tokens span
tokens_skip [] = refl
tokens_skip (b ∷ l) = go (is_blank b) refl (tokens_skip l)
  where
    go : (t : Bool) → is_blank b ≡ t → tokens l ≡ tokens (drop (length (span is_blank l)) l) → token_prepended t (is_word_byte b && starts_word l) b (tokens l) ≡ tokens (drop (length (cond t (b ∷ span is_blank l) [])) (b ∷ l))
    go true e h = h
    go false e h = rw e

-- ---- by places

module _ (w : List ℕ) (at : ℕ) where
  skipped : rest_at w at ≡ rest_at w (from_at w at)
  skipped = tokens_skip (drop at w) ∙ ap tokens (class_drop is_blank w at)

  pub token_none : length w ≤ from_at w at → rest_at w at ≡ []
  unfolding tokens
  token_none h = skipped ∙ ap tokens (drop_of_length-le w h)

module _ (w : List ℕ) (from : ℕ) (h : from < length w) where
  cons : drop from w ≡ get_or w from 0 ∷ drop (suc from) w
  cons = drop-cons w from 0 h

  pub end-word : is_word_byte (get_or w from 0) ≡ true → end_at w from ≡ span_end is_word_byte w from
  unfolding end_at
  end-word e = rw (lt-ltb from (length w) h, e)

  pub end-sign : is_word_byte (get_or w from 0) ≡ false → end_at w from ≡ from + 1
  unfolding end_at
  end-sign e = rw (lt-ltb from (length w) h, e)

  word_token : is_word_byte (get_or w from 0) ≡ true → rest_at w from ≡ part w from (end_at w from) ∷ rest_at w (end_at w from)
  unfolding starts_word
  word_token e =
      let s : starts_word (drop from w) ≡ true = ap starts_word cons ∙ e in
      rw (end-word e) (tokens-word (drop from w) s ∙ rw (class_part is_word_byte w from) (ap (λ (x : List ℕ). span is_word_byte (drop from w) ∷ tokens x) (class_drop is_word_byte w from)))

  sign_token : is_blank (get_or w from 0) ≡ false → is_word_byte (get_or w from 0) ≡ false → rest_at w from ≡ part w from (end_at w from) ∷ rest_at w (end_at w from)
  sign_token e f =
      let one : from + 1 - from ≡ 1 = omega arith in
      rw (end-sign f, one, add-one from, cons) (tokens-sign (get_or w from 0) (drop (suc from) w) e f)

  pub token_here : is_blank (get_or w from 0) ≡ false → rest_at w from ≡ part w from (end_at w from) ∷ rest_at w (end_at w from)
  token_here e = go (is_word_byte (get_or w from 0)) refl
    where
      go : (t : Bool) → is_word_byte (get_or w from 0) ≡ t → rest_at w from ≡ part w from (end_at w from) ∷ rest_at w (end_at w from)
      go true f = word_token f
      go false f = sign_token e f

  pub end_after : (from < end_at w from) × (end_at w from ≤ length w)
  end_after = go (is_word_byte (get_or w from 0)) refl
    where
      go : (t : Bool) → is_word_byte (get_or w from 0) ≡ t → (from < end_at w from) × (end_at w from ≤ length w)
      go true f = rw (end-word f) (omega (arith, class_step is_word_byte w from h f, class_from is_word_byte w (from + 1)), class_le is_word_byte w from (omega arith))
      go false f = rw (end-sign f) (omega arith)

  pub lead-part : (to : ℕ) → from < to → lead (part w from to) ≡ get_or w from 0
  unfolding lead
  lead-part to k =
      let e : to - from ≡ suc (to - from - 1) = omega arith in
      rw (e, cons)

pub end_out : (w : List ℕ) (from : ℕ) → length w ≤ from → end_at w from ≡ from
unfolding end_at
end_out w from h = rw (le-ltb from (length w) h)

pub token_first : (w : List ℕ) (at : ℕ) → from_at w at < length w → rest_at w at ≡ part w (from_at w at) (end_at w (from_at w at)) ∷ rest_at w (end_at w (from_at w at))
token_first w at h = skipped w at ∙ token_here w (from_at w at) h (class_end is_blank w at h)

-- ---- the sign that may be next

module _ (w : List ℕ) (at b : ℕ) where
  begins-is : from_at w at < length w → begins b (rest_at w at) ≡ eqb (get_or w (from_at w at) 0) b
  unfolding begins is_sign
  begins-is h = rw (token_first w at h) (ap (λ (x : ℕ). eqb x b) (lead-part w (from_at w at) h (end_at w (from_at w at)) (end_after w (from_at w at) h).0))

  begins-none : length w ≤ from_at w at → begins b (rest_at w at) ≡ false
  unfolding begins
  begins-none h = rw (token_none w at h)

  pub behind-yes : (n : ℕ) → Some n ≡ behind_at w at b → (begins b (rest_at w at) ≡ true) × (drop 1 (rest_at w at) ≡ rest_at w n) × (at < n) × (n ≤ length w)
  behind-yes n e = go (ltb (from_at w at) (length w)) refl (eqb (get_or w (from_at w at) 0) b) refl
    where
      go : (s : Bool) → ltb (from_at w at) (length w) ≡ s → (t : Bool) → eqb (get_or w (from_at w at) 0) b ≡ t
          → (begins b (rest_at w at) ≡ true) × (drop 1 (rest_at w at) ≡ rest_at w n) × (at < n) × (n ≤ length w)
      go false p t q = let k : Some n ≡ None = e ∙ rw p in let z : ◌≡◌ {A = ℕ} 0 1 = cc k in absurd (omega arith)
      go true p false q = let k : Some n ≡ None = e ∙ rw (p, q) in let z : ◌≡◌ {A = ℕ} 0 1 = cc k in absurd (omega arith)
      go true p true q =
          let h : from_at w at < length w = ltb-true (from_at w at) (length w) p in
          let there : Some n ≡ Some (end_at w (from_at w at)) = e ∙ rw (p, q) in
          let m : n ≡ end_at w (from_at w at) = cc there in
          let k = end_after w (from_at w at) h in (
            begins-is h ∙ q,
            ap (drop 1) (token_first w at h) ∙ ap (rest_at w) (sym m),
            omega (arith, class_from is_blank w at),
            omega arith,
          )

  pub behind_no : None ≡ behind_at w at b → begins b (rest_at w at) ≡ false
  behind_no e = go (ltb (from_at w at) (length w)) refl (eqb (get_or w (from_at w at) 0) b) refl
    where
      go : (s : Bool) → ltb (from_at w at) (length w) ≡ s → (t : Bool) → eqb (get_or w (from_at w at) 0) b ≡ t → begins b (rest_at w at) ≡ false
      go false p t q = begins-none (ltb-false (from_at w at) (length w) p)
      go true p false q = begins-is (ltb-true (from_at w at) (length w) p) ∙ q
      go true p true q =
          let k : None ≡ Some (end_at w (from_at w at)) = e ∙ rw (p, q) in
          let z : ◌≡◌ {A = ℕ} 0 1 = cc k in
          absurd (omega arith)
