-- A line of numbers, read from number to number, is the line's fields read as numbers:
--     line-words     a line with k + 1 fields, as the crate model says it, is one with the right bytes behind each field
--     numbers-at     its fields are numbers just where each number is found with the right byte behind it
--     numbers-ended  and then the place past them is the place past the line
--     ten-number, ten-ended  the same for a line of one number that byte 10 alone ends
use Rattle.base.specs.{ℕ, zero, suc, ◌+◌, arith, ◌≡◌, refl, sym, ap, ◌∙◌, Bool, true, false, ◌&&◌, Option, None, Some, List, [], ◌∷◌, eqb}
use Rattle.base.specs.{ltb, length, drop, get_or, eqb-true, ltb-true}
use Rattle.model.specs.{and_then, only, ended, ended_by_ten, fields, number, numbers}
use Rattle.base_text.specs.declared.Cursor.{Cursor}
use Rattle.base_text.specs.{end_of, stops, word_at, end_at, is_byte, on_number, number_of, number_then, line_at, past_line, words_at, seps_at}
use Rattle.base_text.specs.{after_at, numbers_at}
use Rattle.base_text.proofs.FoundNumbers.{found-cursor}
use Rattle.base_text.proofs.SpanSearch.{past, past_end, then_o, number_is, number-end-is}
use Rattle.base_text.proofs.CursorReads.{line_fields, of_length, fields_at, past-at, field_ten}
use Rattle.base_text.proofs.Bytes.{and_left, and_right}
use Rattle.base_text.proofs.TextWords.{end-ten}

-- the two tests of a line's fields as one
both : (e : Bool) (ws : List (List ℕ)) (n : ℕ) → only (e && eqb (length ws) n) ws ≡ and_then (only e ws) (of_length n)
unfolding only and_then of_length
both true ws n = refl
both false ws n = refl

module _ (k : ℕ) (s : List ℕ) (at : ℕ) where
  pub line-words : only (ended (line_at s at) && eqb (length (fields (line_at s at).bytes)) (suc k)) (fields (line_at s at).bytes) ≡ only (seps_at k s at) (words_at k s at)
  unfolding line_fields
  line-words = both (ended (line_at s at)) (fields (line_at s at).bytes) (suc k) ∙ fields_at k s at

-- the last number
last-number : (o : Option ℕ) (b : Bool) (w : List ℕ) (p : ℕ) → number w ≡ o
    → and_then (only b (w ∷ [])) numbers ≡ on_number (number_of (then_o o b) p) (λ n c. Some (n ∷ [])) None
unfolding and_then only numbers
last-number None true w p e = rw e
last-number None false w p e = refl
last-number (Some n) true w p e = rw e
last-number (Some n) false w p e = refl

-- a number before others
module _ (w : List ℕ) (ws : List (List ℕ)) (p : ℕ) (rest : ℕ → Option (List ℕ)) where
  one_more_lem : (o : Option ℕ) (b t : Bool) → number w ≡ o → and_then (only t ws) numbers ≡ rest p
      → and_then (only (b && t) (w ∷ ws)) numbers ≡ on_number (number_of (then_o o b) p) (λ n c. and_then (rest c.at) (λ ns. Some (n ∷ ns))) None
  unfolding and_then only numbers
  one_more_lem None false t e f = refl
  one_more_lem (Some n) false t e f = refl
  one_more_lem None true false e f = refl
  one_more_lem None true true e f = rw e
  one_more_lem (Some n) true false e f = ap (λ (r : Option (List ℕ)). and_then r (λ ns. Some (n ∷ ns))) f
  one_more_lem (Some n) true true e f = rw e (ap (λ (r : Option (List ℕ)). and_then r (λ ns. Some (n ∷ ns))) f)

pub numbers-at : (k : ℕ) (s : List ℕ) (at : ℕ) → and_then (only (seps_at k s at) (words_at k s at)) numbers ≡ numbers_at k s at
unfolding seps_at words_at numbers_at
numbers-at zero s at = rw (number-end-is s at) (last-number (number (word_at s at)) (stops (drop (end_at s at) s)) (word_at s at) (past_end s at) refl)
numbers-at (suc k) s at =
    rw (number_is s at 32)
    (one_more_lem (word_at s at) (words_at k s (past s at)) (past s at) (numbers_at k s) (number (word_at s at)) (is_byte s (end_at s at) 32) (seps_at k s (past s at)) refl (numbers-at k s (past s at)))

some-only : (b : Bool) (ws : List (List ℕ)) (ns : List ℕ) → and_then (only b ws) numbers ≡ Some ns → b ≡ true
unfolding and_then only
some-only true ws ns e = refl
some-only false ws ns e = let z : ◌≡◌ {A = ℕ} 0 1 = cc in absurd (omega arith)

pub numbers-ended : (k : ℕ) (s : List ℕ) (at : ℕ) (ns : List ℕ) → numbers_at k s at ≡ Some ns → (ended (line_at s at) ≡ true) × (after_at k s at ≡ past_line s at)
numbers-ended k s at ns e = past-at k s at (some-only (seps_at k s at) (words_at k s at) ns (numbers-at k s at ∙ e))

-- a line of one number that byte 10 alone ends
module _ (s : List ℕ) (at : ℕ) where
  pub ten-number : and_then (only (ended_by_ten (line_at s at) && eqb (length (fields (line_at s at).bytes)) 1) (fields (line_at s at).bytes)) numbers
      ≡ on_number (number_then s at 10) (λ n c. Some (n ∷ [])) None
  unfolding words_at
  ten-number =
      ap (λ (o : Option (List (List ℕ))). and_then o numbers) (both (ended_by_ten (line_at s at)) (fields (line_at s at).bytes) 1 ∙ field_ten s at)
      ∙ rw (number_is s at 10) (last-number (number (word_at s at)) (is_byte s (end_at s at) 10) (word_at s at) (past s at) refl)

  one_byte : is_byte s (end_at s at) 10 ≡ true → end_of (drop (end_at s at) s) ≡ 1
  one_byte b =
      let i = and_left (ltb (end_at s at) (length s)) (eqb (get_or s (end_at s at) 0) 10) b in
      let t = and_right (ltb (end_at s at) (length s)) (eqb (get_or s (end_at s at) 0) 10) b in
      end-ten s (end_at s at) (ltb-true (end_at s at) (length s) i) (eqb-true (get_or s (end_at s at) 0) 10 t)

  past-ten : is_byte s (end_at s at) 10 ≡ true → (ended (line_at s at) ≡ true) × (past_line s at ≡ past s at)
  unfolding seps_at after_at
  past-ten b =
      let ends = past-at 0 s at (ap (ltb 0) (one_byte b)) in
      (ends.0, sym ends.1 ∙ ap (λ (k : ℕ). end_at s at + k) (one_byte b))

  pub ten-ended : (a : ℕ) (c : Cursor) → number_then s at 10 ≡ Some (a, c) → (ended (line_at s at) ≡ true) × (past_line s at ≡ c.at)
  ten-ended a c e = go (number (word_at s at)) (is_byte s (end_at s at) 10) refl (sym (number_is s at 10) ∙ e)
    where
      go : (o : Option ℕ) (t : Bool) → is_byte s (end_at s at) 10 ≡ t → number_of (then_o o t) (past s at) ≡ Some (a, c) → (ended (line_at s at) ≡ true) × (past_line s at ≡ c.at)
      go None t b q = let z : ◌≡◌ {A = ℕ} 0 1 = cc in absurd (omega arith)
      go (Some n) false b q = let z : ◌≡◌ {A = ℕ} 0 1 = cc in absurd (omega arith)
      go (Some n) true b q =
          let i : record { at = past s at } ≡ c = found-cursor q in
          let ends = past-ten b in
          (ends.0, ends.1 ∙ ap (λ (x : Cursor). x.at) i)
