-- Lines that are expected, one by one.
use Rattle.base.specs.{ℕ, ◌+◌, ◌≤◌, ◌<◌, arith, ◌≡◌, refl, sym, ◌∙◌, ap, ap₂, Bool, true, false, cond, List, [], ◌∷◌, ◌++◌}
use Rattle.base.specs.{append-nil, ltb, eqb-true, lt-ltb, le-ltb, length, take, drop, length-append, take-append_seam}
use Rattle.std.specs.Prelude.{Result, Ok, Err}
use Rattle.model.specs.{ended, ended_by_ten, fault, unless, is_line, past_lines}
use Rattle.base_words.proofs.{length-put}
use Rattle.base_text.specs.{Wrote, line_at, past_line, span_at}
use Rattle.base_text.proofs.{Partly, begin, step, capacity, finish, put_front, lines_at_lem, lines_none, span_fits, same-eq, and_left, and_right}
use Rattle.check_reader.specs.{lines_at, expected_at, expected_from, goes_on, Expected, Stands, Missed, Framed, Unbegun}

-- a keyword and names behind it, printed into memory that has room for them
module _ (blank key names w₁ w₂ : List ℕ) (a b : ℕ) (fits : length key + length names ≤ length blank) (one : Wrote blank w₁ 0 a key) where
  capacity_for : 0 + length (key ++ names) ≤ length blank
  capacity_for = omega (arith, length-append key names)

  keyed : Partly blank w₁ 0 a (key ++ names) names
  keyed = step capacity_for (begin blank 0 refl) w₁ a key names refl one

  pub names-capacity : a + length names ≤ length w₁
  names-capacity = capacity capacity_for keyed names [] (sym (append-nil names))

  module _ (two : Wrote w₁ w₂ a b names) where
    whole : Wrote blank w₂ 0 b (key ++ names)
    whole = finish capacity_for keyed two

    pub printed-long : b ≤ length w₂
    printed-long = omega (arith, whole.ends, ap length whole.leaves ∙ length-put blank 0 (key ++ names) capacity_for, capacity_for)

    pub printed-is : take b w₂ ≡ key ++ names
    printed-is =
        ap₂ take (whole.ends ∙ (let z : 0 + length (key ++ names) ≡ length (key ++ names) = omega arith in z)) (whole.leaves ∙ put_front blank (key ++ names))
        ∙ take-append_seam (key ++ names) (drop (length (key ++ names)) blank)

-- ---- a line that is expected

module _ (s w : List ℕ) (at : ℕ) where
  missing : length s ≤ at → (ws : List (List ℕ)) → past_lines (length s) (w ∷ ws) (lines_at s at) ≡ fault 32 (length s)
  unfolding past_lines
  missing h ws = ap (past_lines (length s) (w ∷ ws)) (lines_none s at h)

  pub expected-missing : length s ≤ at → Missed s w at (length s)
  expected-missing h = record { is = unfold expected_at in rw (le-ltb at (length s) h); refused = missing h }

  module _ (h : at < length s) where
    here : (ws : List (List ℕ)) → past_lines (length s) (w ∷ ws) (lines_at s at)
        ≡ unless (is_line w (line_at s at)) 32 at (past_lines (length s) ws (cond (ended (line_at s at)) (lines_at s (past_line s at)) []))
    unfolding past_lines line_at
    here ws = ap (past_lines (length s) (w ∷ ws)) (lines_at_lem s at h)

    pub expected_other : is_line w (line_at s at) ≡ false → Missed s w at at
    unfolding unless
    expected_other e = record {
      is = unfold expected_at in rw (lt-ltb at (length s) h, e);
      refused = λ ws. here ws ∙ ap (λ (b : Bool). unless b 32 at (past_lines (length s) ws (cond (ended (line_at s at)) (lines_at s (past_line s at)) []))) e;
    }

    module _ (e : is_line w (line_at s at) ≡ true) where
      one : (line_at s at).ending ≡ 1
      unfolding is_line
      one = eqb-true (line_at s at).ending 1 (and_left (ended_by_ten (line_at s at)) _ e)

      long : length (line_at s at).bytes ≡ length w
      unfolding is_line
      long = ap length (same-eq (line_at s at).bytes w (and_right (ended_by_ten (line_at s at)) _ e))

      past : past_line s at ≡ at + length w + 1
      unfolding past_line line_at
      past = omega (arith, one, long)

      -- the line lies in the text
      pub expected-inside : at + length w ≤ length s
      unfolding span_at line_at
      expected-inside = let z : at + length (line_at s at).bytes ≤ length s = span_fits s at (omega arith) in omega (arith, long)

      pub expected_fine : Stands s w at (at + length w + 1)
      unfolding unless
      expected_fine = record {
        is = unfold expected_at in rw (lt-ltb at (length s) h, e);
        next = λ ws.
            here ws ∙ ap (λ (b : Bool). unless b 32 at (past_lines (length s) ws (cond (ended (line_at s at)) (lines_at s (past_line s at)) []))) e
            ∙ ap (λ (b : Bool). past_lines (length s) ws (cond b (lines_at s (past_line s at)) [])) (lt-ltb 0 (line_at s at).ending (omega (arith, one)))
            ∙ ap (λ (n : ℕ). past_lines (length s) ws (lines_at s n)) past;
        within = h;
      }

-- where a line that is expected stands, what is behind it begins past its end
picked : (a b : Bool) (x y z k : ℕ) → cond a (cond b (Ok x) (Err y)) (Err z) ≡ Ok k → k ≡ x
picked true true x y z k e = cc
picked true false x y z k e = absurd (let q : ◌≡◌ {A = ℕ} 0 1 = cc in omega arith)
picked false b x y z k e = absurd (let q : ◌≡◌ {A = ℕ} 0 1 = cc in omega arith)

pub expected-past : (s w : List ℕ) (at k : ℕ) → Stands s w at k → k ≡ at + length w + 1
unfolding expected_at
expected-past s w at k d = picked (ltb at (length s)) (is_line w (line_at s at)) _ _ _ k d.is

-- three lines, one behind the other
module _ (s u v w : List ℕ) where
  pub first-broken : (a : ℕ) → Missed s u 0 a → Unbegun s (u ∷ v ∷ w ∷ []) a
  unfolding expected_from
  first-broken a one = record {
    is = ap (λ (r : Result ℕ ℕ). goes_on r (expected_from s (v ∷ w ∷ []))) one.is;
    refused = one.refused (v ∷ w ∷ []);
  }

  module _ (a : ℕ) (one : Stands s u 0 a) where
    behind_one : expected_from s (u ∷ v ∷ w ∷ []) 0 ≡ expected_from s (v ∷ w ∷ []) a
    unfolding expected_from
    behind_one = ap (λ (r : Result ℕ ℕ). goes_on r (expected_from s (v ∷ w ∷ []))) one.is

    pub second-broken : (b : ℕ) → Missed s v a b → Unbegun s (u ∷ v ∷ w ∷ []) b
    unfolding expected_from
    second-broken b two = record {
      is = behind_one ∙ ap (λ (r : Result ℕ ℕ). goes_on r (expected_from s (w ∷ []))) two.is;
      refused = one.next (v ∷ w ∷ []) ∙ two.refused (w ∷ []);
    }

    module _ (b : ℕ) (two : Stands s v a b) where
      behind_two : expected_from s (u ∷ v ∷ w ∷ []) 0 ≡ expected_from s (w ∷ []) b
      unfolding expected_from
      behind_two = behind_one ∙ ap (λ (r : Result ℕ ℕ). goes_on r (expected_from s (w ∷ []))) two.is

      pub three-lines : (r : Result ℕ ℕ) → Expected s w b r → Framed s (u ∷ v ∷ w ∷ []) r
      unfolding expected_from past_lines
      three-lines (Ok c) three = record {
        is = behind_two ∙ ap (λ (r : Result ℕ ℕ). goes_on r (expected_from s [])) three.is;
        next = one.next (v ∷ w ∷ []) ∙ two.next (w ∷ []) ∙ three.next [];
      }
      three-lines (Err c) three = record {
        is = behind_two ∙ ap (λ (r : Result ℕ ℕ). goes_on r (expected_from s [])) three.is;
        refused = one.next (v ∷ w ∷ []) ∙ two.next (w ∷ []) ∙ three.refused [];
      }
