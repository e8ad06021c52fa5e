-- Laws of the scan of an expression, token by token.
use Rattle.base.specs.{ℕ, suc, ◌+◌, ◌-◌, ◌≤◌, ◌<◌, arith, ◌≡◌, refl, sym, ap, ◌∙◌, Bool, true, false, cond, ◌&&◌, ◌||◌, List, [], ◌∷◌, eqb}
use Rattle.base.specs.{ltb, length, drop, get_or, drop-cons, add-one, lt-ltb, le-ltb, ltb-true, ltb-false, le-leb, lt-leb, eqb-true}
use Rattle.model.specs.{is_name_byte, is_letter, between, is_sign, is_word, lead, is_blank, is_word_byte, starts_word, span, tokens, scan_expected}
use Rattle.model.specs.{scan_after, scan_token, scan, opened, shallow}
use Rattle.model.specs.declared.Scan.{Scan}
use Rattle.model.specs.declared.Scan.TheVariants.{Expected, After, Done, Broken}
use Rattle.genlib_expression.specs.declared.Token.{Token}
use Rattle.genlib_expression.specs.{rest_at, part, pick_l, parts_at, expected_step, close_step, end_step, after_step, scan_step, depth_of, opened_by}
use Rattle.genlib_expression.proofs.TokenSpans.{lead-part, tokens-blank, tokens-sign, tokens-word}
use Rattle.genlib_expression.proofs.ExpressionWalk.{Step}

-- by a token's first byte and whether it is a name
scan_by : (s : Scan) (t : List ℕ) → scan_step s (lead t) (is_word t) ≡ scan_token s t
unfolding scan_step expected_step after_step close_step end_step scan_token scan_expected scan_after is_sign
scan_by (Expected d) t = refl
scan_by (After d) t = refl
scan_by Done t = refl
scan_by Broken t = refl

module _ (w : List ℕ) (t : Token) (s : Scan) where
  pub scan-one : t.from < t.to → t.to ≤ length w → (b : ℕ) (name : Bool) → b ≡ get_or w t.from 0 → name ≡ is_word (part w t.from t.to) → scan_step s b name ≡ scan s (parts_at w t)
  unfolding parts_at scan
  scan-one h k b name e f =
      let l : b ≡ lead (part w t.from t.to) = e ∙ sym (lead-part w t.from (omega arith) t.to h) in
      rw (lt-ltb t.from t.to h) (ap (λ (x : ℕ). scan_step s x name) l ∙ ap (scan_step s (lead (part w t.from t.to))) f ∙ scan_by s (part w t.from t.to))

  pub scan-none : t.to ≤ t.from → scan s (parts_at w t) ≡ s
  unfolding parts_at scan
  scan-none h = rw (le-ltb t.from t.to h)

-- a token's first byte
pub lead-none : (w : List ℕ) (from to : ℕ) → to ≤ from → lead (part w from to) ≡ 0
unfolding lead
lead-none w from to h = let z : to - from ≡ 0 = omega arith in rw z

-- ---- brackets, byte by byte

-- a byte that no bracket is
quiet : (p : ℕ → Bool) (depth b : ℕ) → p 40 ≡ false → p 41 ≡ false → p b ≡ true → opened_by depth b ≡ depth
unfolding opened_by
quiet p depth b e f h = go (eqb b 40) refl (eqb b 41) refl
  where
    go : (s : Bool) → eqb b 40 ≡ s → (t : Bool) → eqb b 41 ≡ t → cond s (depth + 1) (cond t (depth - 1) depth) ≡ depth
    go true q t r = let k : b ≡ 40 = eqb-true b 40 q in let z : ◌≡◌ {A = ℕ} 0 1 = cc in absurd (omega arith)
    go false q true r = let k : b ≡ 41 = eqb-true b 41 r in let z : ◌≡◌ {A = ℕ} 0 1 = cc in absurd (omega arith)
    go false q false r = refl

quiet_word : (depth b : ℕ) → is_word_byte b ≡ true → opened_by depth b ≡ depth
unfolding is_word_byte is_name_byte is_letter between
quiet_word depth b e = quiet is_word_byte depth b refl refl e

quiet_blank : (depth b : ℕ) → is_blank b ≡ true → opened_by depth b ≡ depth
unfolding is_blank
quiet_blank depth b e = quiet is_blank depth b refl refl e

-- a word in front of a line opens none
word-deep : (l : List ℕ) (depth : ℕ) → depth ≤ 16 → shallow depth (tokens l) ≡ shallow depth (tokens (drop (length (span is_word_byte l)) l))
unfolding span starts_word shallow opened opened_by is_sign lead
word-deep [] depth h = refl
word-deep (b ∷ l) depth h = go (is_word_byte b) refl
  where
    go : (s : Bool) → is_word_byte b ≡ s → shallow depth (tokens (b ∷ l)) ≡ shallow depth (tokens (drop (length (cond s (b ∷ span is_word_byte l) [])) (b ∷ l)))
    go true e = rw (tokens-word (b ∷ l) e, e, le-leb depth 16 h) (ap (λ (d : ℕ). shallow d (tokens (drop (length (span is_word_byte l)) l))) (quiet_word depth b e))
    go false e = refl

shallow-front : (b : ℕ) (l : List ℕ) (depth : ℕ) → depth ≤ 16 → shallow depth (tokens (b ∷ l)) ≡ shallow (opened_by depth b) (tokens l)
unfolding shallow opened opened_by is_sign lead span
shallow-front b l depth h = go (is_blank b) refl (is_word_byte b) refl
  where
    go : (s : Bool) → is_blank b ≡ s → (t : Bool) → is_word_byte b ≡ t → shallow depth (tokens (b ∷ l)) ≡ shallow (opened_by depth b) (tokens l)
    go true e t f = ap (shallow depth) (tokens-blank b l e) ∙ ap (λ (d : ℕ). shallow d (tokens l)) (sym (quiet_blank depth b e))
    go false e false f = rw (tokens-sign b l e f, le-leb depth 16 h)
    go false e true f =
        let n : length (span is_word_byte (b ∷ l)) ≡ suc (length (span is_word_byte l)) = rw f in
        word-deep (b ∷ l) depth h ∙ ap (λ (k : ℕ). shallow depth (tokens (drop k (b ∷ l)))) n ∙ sym (word-deep l depth h)
        ∙ ap (λ (d : ℕ). shallow d (tokens l)) (sym (quiet_word depth b f))

pub shallow_byte : (w : List ℕ) (at depth : ℕ) → at < length w → depth ≤ 16 → shallow depth (rest_at w at) ≡ shallow (opened_by depth (get_or w at 0)) (rest_at w (at + 1))
shallow_byte w at depth h k = rw (drop-cons w at 0 h, add-one at) (shallow-front (get_or w at 0) (drop (suc at) w) depth k)

pub shallow-over : (depth : ℕ) (ts : List (List ℕ)) → 16 < depth → shallow depth ts ≡ false
unfolding shallow
shallow-over depth [] h = lt-leb depth 16 h
shallow-over depth (t ∷ ts) h = rw (lt-leb depth 16 h)

-- a step
pub scan_step_lem : (w : List ℕ) (at : ℕ) (t : Token) (s : Scan) → Step w at t → scan s (rest_at w at) ≡ scan (scan s (parts_at w t)) (rest_at w t.to)
unfolding parts_at scan
scan_step_lem w at t s k = go (ltb t.from t.to) refl
  where
    go : (q : Bool) → ltb t.from t.to ≡ q → scan s (rest_at w at) ≡ scan (scan s (pick_l q (part w t.from t.to ∷ []) [])) (rest_at w t.to)
    go true p = ap (scan s) (k.one (ltb-true t.from t.to p))
    go false p = let n = k.none (ltb-false t.from t.to p) in ap (scan s) (n.0 ∙ sym n.1)

-- a token opens one bracket at most
deeper : (s : Scan) (t : List ℕ) → depth_of (scan_token s t) ≤ depth_of s + 1
unfolding scan_token scan_expected scan_after
deeper (Expected d) t = go (is_sign 33 t) (is_sign 40 t) (is_word t)
  where
    go : (x y z : Bool) → depth_of (cond x (Expected d) (cond y (Expected (d + 1)) (cond z (After d) Broken))) ≤ d + 1
    go true y z = omega arith
    go false true z = omega arith
    go false false true = omega arith
    go false false false = omega arith
deeper (After d) t = go (is_sign 39 t) (is_sign 41 t) (ltb 0 d) (is_sign 42 t || is_sign 43 t) (is_sign 59 t && eqb d 0)
  where
    go : (x y z u v : Bool) → depth_of (cond x (After d) (cond y (cond z (After (d - 1)) Broken) (cond u (Expected d) (cond v Done Broken)))) ≤ d + 1
    go true y z u v = omega arith
    go false true true u v = omega arith
    go false true false u v = omega arith
    go false false z true v = omega arith
    go false false z false true = omega arith
    go false false z false false = omega arith
deeper Done t = omega arith
deeper Broken t = omega arith

pub scan-depth : (w : List ℕ) (at : ℕ) (t : Token) (s : Scan) → Step w at t → at < length w → depth_of s ≤ at → depth_of (scan s (parts_at w t)) ≤ t.to
unfolding parts_at scan
scan-depth w at t s k h d = go (ltb t.from t.to) refl
  where
    go : (q : Bool) → ltb t.from t.to ≡ q → depth_of (scan s (pick_l q (part w t.from t.to ∷ []) [])) ≤ t.to
    go true p = omega (arith, deeper s (part w t.from t.to), k.later h)
    go false p = omega (arith, k.later h)
