-- The tests of an expected line, by what they say:
--     validated-good      what is known of a line that is free of 11 to 13
--     turn-..          a step by what the line is found to be
--     lines-.., check-..   the passes, a step at a time
use Rattle.std.specs.Prelude.{Ok, Err}
use Rattle.model.specs.{refused_with}
use Rattle.base.specs.{cond, Option, None, Some, ℕ, suc, ◌+◌, ◌-◌, ◌≤◌, ◌<◌, arith, ◌≡◌, refl, sym, ap, ◌∙◌, Bool, true, false, ◌&&◌, List, length, lt-ltb, le-ltb}
use Rattle.model.specs.declared.Header.{Header}
use Rattle.model.specs.declared.Refusal.{Refusal}
use Rattle.graph_loading.specs.declared.Literals.{Literals}
use Rattle.graph_loading.specs.{expected_code, expected_count, literals_fit, may_define, is_already_defined, stored_line}
use Rattle.graph_reader.specs.{line_read, on_line, validated_at, step_at, step_words, lines_verdict, lines_words, check_at}
use Rattle.graph_reader.specs.{check_verdict}

bad_good : {r : Refusal} {l : Literals} → Err r ≡ Ok l → ⊥
bad_good {r} {l} h = let z : ◌≡◌ {A = ℕ} 0 1 = cc in omega arith

pub validated-good : (s : List ℕ) (at : ℕ) (w : List ℕ) (m kind : ℕ) (l : Literals) → validated_at s at w m kind ≡ Ok l
    → (line_read s at kind ≡ Some l) × (literals_fit m l ≡ true) × (may_define kind l.first ≡ true) × (is_already_defined w m kind l.first ≡ false)
unfolding validated_at
validated-good s at w m kind l h = go (line_read s at kind) refl h
  where
    tested : (k : Literals) (a b t : Bool) → literals_fit m k ≡ a → may_define kind k.first ≡ b → is_already_defined w m kind k.first ≡ t
        → cond (a && b) (cond t (refused_with 13 at) (Ok k)) (refused_with 12 at) ≡ Ok l
        → (k ≡ l) × (literals_fit m k ≡ true) × (may_define kind k.first ≡ true) × (is_already_defined w m kind k.first ≡ false)
    tested k false b t x y z e = absurd (bad_good e)
    tested k true false t x y z e = absurd (bad_good e)
    tested k true true true x y z e = absurd (bad_good e)
    tested k true true false x y z e = (cc, x, y, z)

    go : (r : Option Literals) → line_read s at kind ≡ r
        → on_line r (λ k. cond (literals_fit m k && may_define kind k.first) (cond (is_already_defined w m kind k.first) (refused_with 13 at) (Ok k)) (refused_with 12 at)) (refused_with 11 at) ≡ Ok l
        → (line_read s at kind ≡ Some l) × (literals_fit m l ≡ true) × (may_define kind l.first ≡ true) × (is_already_defined w m kind l.first ≡ false)
    go None e f = absurd (bad_good f)
    go (Some k) e f =
        let t = tested k (literals_fit m k) (may_define kind k.first) (is_already_defined w m kind k.first) refl refl refl f in
        let same : k ≡ l = t.0 in
        (e ∙ ap Some same, ap (literals_fit m) (sym same) ∙ t.1, ap (λ (x : Literals). may_define kind x.first) (sym same) ∙ t.2, ap (λ (x : Literals). is_already_defined w m kind x.first) (sym same) ∙ t.3)

-- ---- a step

module _ (s : List ℕ) (at : ℕ) (w : List ℕ) (h : Header) (k : ℕ) where
  pub step-none : length s ≤ at → (step_at s at w h k ≡ refused_with 11 (length s)) × (step_words s at w h k ≡ w)
  unfolding step_at step_words
  step-none l = (rw (le-ltb at (length s) l), rw (le-ltb at (length s) l))

  pub step-good : (l : Literals) → at < length s → validated_at s at w h.size (expected_code h k) ≡ Ok l → (step_at s at w h k ≡ Ok l.next) × (step_words s at w h k ≡ stored_line w h k l)
  unfolding step_at step_words
  step-good l b e = (rw (lt-ltb at (length s) b, e), rw (lt-ltb at (length s) b, e))

  pub step_bad : (r : Refusal) → at < length s → validated_at s at w h.size (expected_code h k) ≡ Err r → (step_at s at w h k ≡ Err r) × (step_words s at w h k ≡ w)
  unfolding step_at step_words
  step_bad r b e = (rw (lt-ltb at (length s) b, e), rw (lt-ltb at (length s) b, e))

-- ---- the passes

module _ (s : List ℕ) (h : Header) (n k at : ℕ) (w : List ℕ) where
  pub lines-on : (j end : ℕ) → j ≡ suc n → step_at s at w h k ≡ Ok end
      → (lines_verdict s h j k at w ≡ lines_verdict s h n (k + 1) end (step_words s at w h k)) × (lines_words s h j k at w ≡ lines_words s h n (k + 1) end (step_words s at w h k))
  unfolding lines_verdict lines_words
  lines-on j end i e = (ap (λ (x : ℕ). lines_verdict s h x k at w) i ∙ rw e, ap (λ (x : ℕ). lines_words s h x k at w) i ∙ rw e)

  pub lines_stop : (j : ℕ) (r : Refusal) → j ≡ suc n → step_at s at w h k ≡ Err r → (lines_verdict s h j k at w ≡ Err r) × (lines_words s h j k at w ≡ step_words s at w h k)
  unfolding lines_verdict lines_words
  lines_stop j r i e = (ap (λ (x : ℕ). lines_verdict s h x k at w) i ∙ rw e, ap (λ (x : ℕ). lines_words s h x k at w) i ∙ rw e)

  pub check-on : (j end : ℕ) → j ≡ suc n → check_at s at w h k ≡ Ok end → check_verdict s h j k at w ≡ check_verdict s h n (k + 1) end w
  unfolding check_verdict
  check-on j end i e = ap (λ (x : ℕ). check_verdict s h x k at w) i ∙ rw e

  pub check_stop : (j : ℕ) (r : Refusal) → j ≡ suc n → check_at s at w h k ≡ Err r → check_verdict s h j k at w ≡ Err r
  unfolding check_verdict
  check_stop j r i e = ap (λ (x : ℕ). check_verdict s h x k at w) i ∙ rw e

module _ (s : List ℕ) (h : Header) (k at : ℕ) (w : List ℕ) where
  pub lines_end : (j : ℕ) → j ≡ 0 → (lines_verdict s h j k at w ≡ Ok tt) × (lines_words s h j k at w ≡ w)
  unfolding lines_verdict lines_words
  lines_end j i = (ap (λ (x : ℕ). lines_verdict s h x k at w) i, ap (λ (x : ℕ). lines_words s h x k at w) i)

  pub check-end : (j : ℕ) → j ≡ 0 → check_verdict s h j k at w ≡ Ok tt
  unfolding check_verdict
  check-end j i = ap (λ (x : ℕ). check_verdict s h x k at w) i

-- ---- the loops: what the lines from line k on give is what all lines give

pub record Rest (s : List ℕ) (h : Header) (w : List ℕ) (k at : ℕ) (x : List ℕ) : Type 0 where
  pub upto : k ≤ expected_count h
  pub long : length x ≡ length w
  pub verdict : lines_verdict s h (expected_count h) 0 h.next w ≡ lines_verdict s h (expected_count h - k) k at x
  pub words : lines_words s h (expected_count h) 0 h.next w ≡ lines_words s h (expected_count h - k) k at x

module _ (s : List ℕ) (h : Header) (w : List ℕ) (k at : ℕ) (x : List ℕ) (r : Rest s h w k at x) where
  pub rest-on : k < expected_count h → (end : ℕ) (y : List ℕ) → step_at s at x h k ≡ Ok end → y ≡ step_words s at x h k → length y ≡ length x → Rest s h w (k + 1) end y
  rest-on l end y e f g =
      let t = lines-on s h (expected_count h - (k + 1)) k at x (expected_count h - k) end (omega arith) e in
      record {
        upto = omega arith;
        long = g ∙ r.long;
        verdict = r.verdict ∙ t.0 ∙ ap (lines_verdict s h (expected_count h - (k + 1)) (k + 1) end) (sym f);
        words = r.words ∙ t.1 ∙ ap (lines_words s h (expected_count h - (k + 1)) (k + 1) end) (sym f);
      }

  pub rest_stop : k < expected_count h → (q : Refusal) (y : List ℕ) → step_at s at x h k ≡ Err q → y ≡ step_words s at x h k
      → (Err q ≡ lines_verdict s h (expected_count h) 0 h.next w) × (y ≡ lines_words s h (expected_count h) 0 h.next w)
  rest_stop l q y e f =
      let t = lines_stop s h (expected_count h - (k + 1)) k at x (expected_count h - k) q (omega arith) e in
      (sym (r.verdict ∙ t.0), f ∙ sym (r.words ∙ t.1))

  pub rest_end : expected_count h ≤ k → ((Ok tt) ≡ lines_verdict s h (expected_count h) 0 h.next w) × (x ≡ lines_words s h (expected_count h) 0 h.next w)
  rest_end l =
      let t = lines_end s h k at x (expected_count h - k) (omega arith) in
      (sym (r.verdict ∙ t.0), sym (r.words ∙ t.1))

-- the same for the second pass, which changes nothing
pub record Left (s : List ℕ) (h : Header) (w : List ℕ) (k at : ℕ) : Type 0 where
  pub upto : k ≤ expected_count h
  pub verdict : check_verdict s h (expected_count h) 0 h.next w ≡ check_verdict s h (expected_count h - k) k at w

module _ (s : List ℕ) (h : Header) (w : List ℕ) (k at : ℕ) (r : Left s h w k at) where
  pub left_next : k < expected_count h → (end : ℕ) → check_at s at w h k ≡ Ok end → Left s h w (k + 1) end
  left_next l end e =
      record { upto = omega arith; verdict = r.verdict ∙ check-on s h (expected_count h - (k + 1)) k at w (expected_count h - k) end (omega arith) e }

  pub left_stop : k < expected_count h → (q : Refusal) → check_at s at w h k ≡ Err q → Err q ≡ check_verdict s h (expected_count h) 0 h.next w
  left_stop l q e = sym (r.verdict ∙ check_stop s h (expected_count h - (k + 1)) k at w (expected_count h - k) q (omega arith) e)

  pub left_end : expected_count h ≤ k → (Ok tt) ≡ check_verdict s h (expected_count h) 0 h.next w
  left_end l = sym (r.verdict ∙ check-end s h k at w (expected_count h - k) (omega arith))
