-- A step of a reader that goes from token to token: what it read is the first of the tokens that were left, or none was.
use Rattle.base.specs.{ℕ, ◌+◌, ◌-◌, ◌≤◌, ◌<◌, add-one, arith, ◌≡◌, refl, sym, ap, subst, ◌∙◌, Bool, true, false, ◌&&◌, List, [], ◌∷◌, ltb}
use Rattle.base.specs.{length, take, drop, get_or, drop_of_length-le, get_or-drop, drop-drop, drop-cons, ltb-true, ltb-false}
use Rattle.model.specs.{all, is_name_byte, is_blank, is_word, is_empty, is_word_byte, span, tokens}
use Rattle.base_text.proofs.{and_left}
use Rattle.genlib_expression.specs.{WordPart, end_at, from_at, token_at, rest_at, part, nth_at, Nth}
use Rattle.genlib_expression.specs.declared.Token.{Token}
use Rattle.base_text.proofs.{class_from, class_le, class_part}
use Rattle.genlib_expression.proofs.TokenSpans.{token_none, token_first, end_after, end_out, end-word, end-sign}

pub record Step (w : List ℕ) (at : ℕ) (t : Token) : Type 0 where
  pub ordered : t.from ≤ t.to
  pub within : t.to ≤ length w
  pub later : at < length w → at < t.to
  -- a token was left
  pub one : t.from < t.to → rest_at w at ≡ part w t.from t.to ∷ rest_at w t.to
  -- or none
  pub none : t.to ≤ t.from → (rest_at w at ≡ []) × (rest_at w t.to ≡ []) × (part w t.from t.to ≡ [])

pub nothing_left_lem : (w : List ℕ) (at : ℕ) → length w ≤ at → rest_at w at ≡ []
unfolding tokens
nothing_left_lem w at h = ap tokens (drop_of_length-le w h)

here : (w : List ℕ) (at : ℕ) → at ≤ length w → Step w at (token_at w at)
here w at h = go (ltb (from_at w at) (length w)) refl
  where
    go : (s : Bool) → ltb (from_at w at) (length w) ≡ s → Step w at (token_at w at)
    go true p =
        let k = ltb-true (from_at w at) (length w) p in
        let e = end_after w (from_at w at) k in
        let f = class_from is_blank w at in record {
          ordered = omega arith;
          within = e.1;
          later = λ l. omega arith;
          one = λ l. token_first w at k;
          none = λ l. absurd (omega arith);
        }
    go false p =
        let k = ltb-false (from_at w at) (length w) p in
        let e = end_out w (from_at w at) k in
        let f = class_le is_blank w at h in
        let z : end_at w (from_at w at) - from_at w at ≡ 0 = omega arith in record {
          ordered = omega arith;
          within = omega arith;
          later = λ l. omega arith;
          one = λ l. absurd (omega arith);
          none = λ l. (token_none w at k, nothing_left_lem w (end_at w (from_at w at)) (omega arith), ap (λ (n : ℕ). take n (drop (from_at w at) w)) z);
        }

pub step : (w : List ℕ) (at : ℕ) → at ≤ length w → (t : Token) → t ≡ token_at w at → Step w at t
step w at h t e = subst (Step w at) (sym e) (here w at h)

never : false ≡ true → ⊥
never e = let z : ◌≡◌ {A = ℕ} 0 1 = cc in omega arith

word_none : is_word [] ≡ false
unfolding is_word is_empty
word_none = refl

-- a name of one byte
word_byte : (b : ℕ) → is_word (b ∷ []) ≡ true → is_word_byte b ≡ true
unfolding is_word is_empty all is_word_byte
word_byte b e = rw (and_left (is_name_byte b) true e)

-- the next token, if it is a name
is_word_lem : (w : List ℕ) (at : ℕ) → at ≤ length w → is_word (part w (from_at w at) (end_at w (from_at w at))) ≡ true → part w (from_at w at) (end_at w (from_at w at)) ≡ span is_word_byte (drop (from_at w at) w)
is_word_lem w at h k = go (ltb (from_at w at) (length w)) refl (is_word_byte (get_or w (from_at w at) 0)) refl
  where
    go : (q : Bool) → ltb (from_at w at) (length w) ≡ q → (r : Bool) → is_word_byte (get_or w (from_at w at) 0) ≡ r
        → part w (from_at w at) (end_at w (from_at w at)) ≡ span is_word_byte (drop (from_at w at) w)
    go true p true u = ap (λ (n : ℕ). take (n - from_at w at) (drop (from_at w at) w)) (end-word w (from_at w at) (ltb-true (from_at w at) (length w) p) u) ∙ class_part is_word_byte w (from_at w at)
    go true p false u =
        let l = ltb-true (from_at w at) (length w) p in
        let one : from_at w at + 1 - from_at w at ≡ 1 = omega arith in
        let b : part w (from_at w at) (end_at w (from_at w at)) ≡ get_or w (from_at w at) 0 ∷ [] = rw (end-sign w (from_at w at) l u, one, drop-cons w (from_at w at) 0 l) in
        absurd (never (sym u ∙ word_byte (get_or w (from_at w at) 0) (ap is_word (sym b) ∙ k)))
    go false p r u =
        let n = (here w at h).none (omega (arith, end_out w (from_at w at) (ltb-false (from_at w at) (length w) p))) in
        absurd (never (sym word_none ∙ ap is_word (sym n.2) ∙ k))

-- the first token that was left, and those behind it
module _ (w : List ℕ) (at : ℕ) (t : Token) (s : Step w at t) where
  pub first_part : part w t.from t.to ≡ get_or (rest_at w at) 0 []
  first_part = go (ltb t.from t.to) refl
    where
      go : (q : Bool) → ltb t.from t.to ≡ q → part w t.from t.to ≡ get_or (rest_at w at) 0 []
      go true p = rw (s.one (ltb-true t.from t.to p))
      go false p = let n = s.none (ltb-false t.from t.to p) in rw n.0 n.2

  pub rest_part : rest_at w t.to ≡ drop 1 (rest_at w at)
  rest_part = go (ltb t.from t.to) refl
    where
      go : (q : Bool) → ltb t.from t.to ≡ q → rest_at w t.to ≡ drop 1 (rest_at w at)
      go true p = rw (s.one (ltb-true t.from t.to p))
      go false p = let n = s.none (ltb-false t.from t.to p) in rw n.0 n.1

-- token 0, and the one behind token k
pub nth_first : (w : List ℕ) (t : Token) → t ≡ token_at w 0 → Nth w 0 t
nth_first w t e =
    let s = step w 0 (omega arith) t e in
    record { is = unfold nth_at in e; ordered = s.ordered; within = s.within; bytes = first_part w 0 t s; rest = rest_part w 0 t s }

nth_behind : (w : List ℕ) (k : ℕ) (t u : Token) → t ≡ nth_at w k → u ≡ token_at w t.to → u ≡ nth_at w (k + 1)
unfolding nth_at
nth_behind w k t u is e = e ∙ ap (λ (x : Token). token_at w x.to) is ∙ ap (nth_at w) (sym (add-one k))

pub nth_next : (w : List ℕ) (k : ℕ) (t u : Token) → Nth w k t → u ≡ token_at w t.to → Nth w (k + 1) u
nth_next w k t u n e =
    let s = step w t.to n.within u e in record {
      is = nth_behind w k t u n.is e;
      ordered = s.ordered;
      within = s.within;
      bytes = first_part w t.to u s ∙ ap (λ (ts : List (List ℕ)). get_or ts 0 []) n.rest ∙ get_or-drop (k + 1) (tokens w) 0 [] ∙ ap (λ (i : ℕ). get_or (tokens w) i []) (omega arith);
      rest = rest_part w t.to u s ∙ ap (drop 1) n.rest ∙ drop-drop 1 (k + 1) (tokens w);
    }

-- a name is the word that begins at its place
pub word-part : (w : List ℕ) (at : ℕ) → at ≤ length w → (t : Token) → t ≡ token_at w at → WordPart w t
word-part w at h t e = record { word = λ k. ap (λ (x : Token). part w x.from x.to) e ∙ is_word_lem w at h (ap (λ (x : Token). is_word (part w x.from x.to)) (sym e) ∙ k) ∙ ap (λ (x : Token). span is_word_byte (drop x.from w)) (sym e) }

-- what all tokens that are left pass, if nothing passes it too
pub all-step : (p : List ℕ → Bool) → p [] ≡ true → (w : List ℕ) (at : ℕ) (t : Token) → Step w at t → all p (rest_at w at) ≡ (p (part w t.from t.to) && all p (rest_at w t.to))
unfolding all
all-step p e w at t k = go (ltb t.from t.to) refl
  where
    go : (q : Bool) → ltb t.from t.to ≡ q → all p (rest_at w at) ≡ (p (part w t.from t.to) && all p (rest_at w t.to))
    go true u = ap (all p) (k.one (ltb-true t.from t.to u))
    go false u = let n = k.none (ltb-false t.from t.to u) in rw (n.0, n.1, n.2, e)
