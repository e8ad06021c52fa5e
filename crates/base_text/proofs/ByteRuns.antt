-- The digits of the field at a place, read one by one:
--     Run              up to a place all bytes are digits, of value n, to which the rest adds
--     run-..           what the next byte makes of it
--     zero-first, low_first     a field that begins with a zero or with no digit
--     whole-..         a field that is all of a text
use Rattle.base.specs.{◌≡◌, refl, sym, ap, ◌∙◌, Bool, true, false, Option, None, Some, List, [], ◌∷◌, ℕ, suc, ◌+◌, ◌-◌, ◌*◌, ◌≤◌, ◌<◌}
use Rattle.base.specs.{add-one, arith, eqb, length, drop, get_or, length-drop, drop-cons, take_all, below_more, eqb-true, eqb-false, ne_eqb}
use Rattle.model.specs.{as_digits, number}
use Rattle.base_text.specs.declared.Cursor.{Cursor}
use Rattle.base_text.specs.{pick_bytes, end_of, stops, word_of, word_at, end_at, number_of, number_at, closed_at}
use Rattle.base_text.proofs.Decimal.{number_other, number_large, number-all, number-empty, value-step, value-end, zero-alone}
use Rattle.base_text.proofs.Decimal.{zero_leads}
use Rattle.base_text.proofs.FoundNumbers.{found-number, found-cursor}
use Rattle.base_text.proofs.TextWords.{end_other, word-step, word-space, word_line, word_out, end_le, part-is}

-- ---- a field that ends at a place, and one that goes on

module _ (s : List ℕ) (at n : ℕ) where
  pub closed_none : word_at s at ≡ [] → closed_at s at n ≡ Some (n, record { at = at })
  unfolding closed_at
  closed_none e = rw e

  pub closed_some : (b : ℕ) (w : List ℕ) → word_at s at ≡ b ∷ w → closed_at s at n ≡ None
  unfolding closed_at
  closed_some b w e = let z : eqb (length (word_at s at)) 0 ≡ false = ne_eqb (length (word_at s at)) 0 (λ q. omega (arith, ap length e, q)) in rw z

-- the byte at a place ends the field, or belongs to it
data Next (s : List ℕ) (at : ℕ) : Type 0 where
  ends : word_at s at ≡ [] → Next s at
  goes : word_at s at ≡ get_or s at 0 ∷ word_at s (at + 1) → Next s at

next : (s : List ℕ) (at : ℕ) → at < length s → Next s at
next s at l = go (eqb (get_or s at 0) 32) (eqb (end_of (drop at s)) 0) refl refl
  where
    go : (a b : Bool) → eqb (get_or s at 0) 32 ≡ a → eqb (end_of (drop at s)) 0 ≡ b → Next s at
    go true b p q = ends (word-space s at l (eqb-true (get_or s at 0) 32 p))
    go false false p q = ends (word_line s at (eqb-false (end_of (drop at s)) 0 q))
    go false true p q = goes (word-step s at l (eqb-false (get_or s at 0) 32 p) (eqb-true (end_of (drop at s)) 0 q))

-- a byte beyond the space belongs to the field
inner : (s : List ℕ) (at : ℕ) → at < length s → 32 < get_or s at 0 → word_at s at ≡ get_or s at 0 ∷ word_at s (at + 1)
inner s at l h = word-step s at l (λ e. omega arith) (end_other s at l (λ e. omega arith) (λ e. omega arith))

-- ---- the number at a place, by what its field is as a number

module _ (s : List ℕ) (at : ℕ) where
  pub number-none : number (word_at s at) ≡ None → number_at s at ≡ None
  unfolding number_at
  number-none e = rw e

  number-some : (n end : ℕ) → number (word_at s at) ≡ Some n → end_at s at ≡ end → number_at s at ≡ Some (n, record { at = end })
  unfolding number_at
  number-some n end e f = rw (e, f)

-- ---- digits, one by one

pub record Run (s : List ℕ) (from n at : ℕ) : Type 0 where
  pub low : from ≤ at
  pub few : at - from ≤ length (word_at s from)
  pub rest : drop (at - from) (word_at s from) ≡ word_at s at
  pub small : n ≤ 65535
  pub value : as_digits 0 (word_at s from) ≡ as_digits n (drop (at - from) (word_at s from))
  pub digits : (k : ℕ) → k < at - from → (48 ≤ get_or (word_at s from) k 0) × (get_or (word_at s from) k 0 ≤ 57)

pub run-first : (s : List ℕ) (from : ℕ) → Run s from 0 from
run-first s from =
    let z : 0 ≡ from - from = omega arith in
    record {
      low = omega arith;
      few = omega arith;
      rest = ap (λ (i : ℕ). drop i (word_at s from)) (sym z);
      small = omega arith;
      value = ap (λ (i : ℕ). as_digits 0 (drop i (word_at s from))) z;
      digits = λ k l. absurd (omega arith);
    }

module _ (s : List ℕ) (from n at : ℕ) (r : Run s from n at) where
  -- the byte at a place of the text is the field's at its place there
  record Here : Type 0 where
    inside : at - from < length (word_at s from)
    byte : get_or (word_at s from) (at - from) 0 ≡ get_or s at 0
    behind : drop (at - from + 1) (word_at s from) ≡ word_at s (at + 1)

  here : word_at s at ≡ get_or s at 0 ∷ word_at s (at + 1) → Here
  here e =
      let both : drop (at - from) (word_at s from) ≡ get_or s at 0 ∷ word_at s (at + 1) = r.rest ∙ e in
      let l : at - from < length (word_at s from) = omega (arith, length-drop (at - from) (word_at s from), ap length both) in
      let cut = drop-cons (word_at s from) (at - from) 0 l in
      record {
        inside = l;
        byte = cc;
        behind = ap (λ (k : ℕ). drop k (word_at s from)) (add-one (at - from)) ∙ cc;
      }

  next-value : Here → as_digits 0 (word_at s from) ≡ as_digits (n * 10 + (get_or s at 0 - 48)) (drop (at - from + 1) (word_at s from))
  next-value h =
      r.value
      ∙ value-step (word_at s from) (at - from) n h.inside
      ∙ ap (λ (b : ℕ). as_digits (n * 10 + (b - 48)) (drop (at - from + 1) (word_at s from))) h.byte

  -- all of the field is read
  run-done : from < length s → 48 < get_or s from 0 → from < at → word_at s at ≡ [] → number_at s from ≡ Some (n, record { at = at })
  unfolding end_at
  run-done f first b e =
      let w : List ℕ = word_at s from in
      let none_left : length (drop (at - from) (word_at s from)) ≡ 0 = ap length (r.rest ∙ e) in
      let long : length (word_at s from) ≡ at - from = omega (arith, length-drop (at - from) (word_at s from), none_left, r.few) in
      let head : get_or (word_at s from) 0 0 ≡ get_or s from 0 = ap (λ (x : List ℕ). get_or x 0 0) (inner s from f (omega arith)) in
      number-some s from n at
      (number-all (word_at s from) n (omega arith) (λ z. omega (arith, head, z)) (λ k l. r.digits k (omega arith)) (r.value ∙ value-end (word_at s from) (at - from) n (omega arith)) r.small)
      (omega (arith, long, r.low))

  module _ (l : at < length s) where
    pub run_on : 48 ≤ get_or s at 0 → get_or s at 0 ≤ 57 → n * 10 + (get_or s at 0 - 48) ≤ 65535 → Run s from (n * 10 + (get_or s at 0 - 48)) (at + 1)
    run_on a b c =
        let h = here (inner s at l (omega arith)) in
        let e : at - from + 1 ≡ at + 1 - from = omega (arith, r.low) in
        record {
          low = omega (arith, r.low);
          few = omega (arith, h.inside);
          rest = ap (λ (i : ℕ). drop i (word_at s from)) (sym e) ∙ h.behind;
          small = c;
          value = next-value h ∙ ap (λ (i : ℕ). as_digits (n * 10 + (get_or s at 0 - 48)) (drop i (word_at s from))) e;
          digits = λ k m. below_more (λ (i : ℕ). (48 ≤ get_or (word_at s from) i 0) × (get_or (word_at s from) i 0 ≤ 57)) (at - from) r.digits (omega (arith, h.byte), omega (arith, h.byte)) k (omega arith);
        }

    pub run_large : 48 ≤ get_or s at 0 → 65535 < n * 10 + (get_or s at 0 - 48) → number_at s from ≡ None
    run_large a c =
        let h = here (inner s at l (omega arith)) in
        number-none s from (number_large (word_at s from) (n * 10 + (get_or s at 0 - 48)) (at - from + 1) (next-value h) c)

    no_digit : (48 ≤ get_or s at 0 → get_or s at 0 ≤ 57 → ⊥) → Here → number_at s from ≡ None
    no_digit o h = number-none s from (number_other (word_at s from) (at - from) h.inside (λ d. o (omega (arith, h.byte, d.0)) (omega (arith, h.byte, d.1))))

    pub run_other : 57 < get_or s at 0 → number_at s from ≡ None
    run_other a = no_digit (λ x y. omega arith) (here (inner s at l (omega arith)))

    -- a byte before the digits ends the field, or breaks it
    pub run-closed : from < length s → 48 < get_or s from 0 → get_or s at 0 < 48 → number_at s from ≡ closed_at s at n
    run-closed f first a = go (next s at l)
      where
        apart : from ≡ at → ⊥
        apart e = let z : get_or s from 0 ≡ get_or s at 0 = ap (λ (k : ℕ). get_or s k 0) e in omega arith

        lower : from ≤ at → (from ≡ at → ⊥) → from < at
        lower x y = omega arith

        go : Next s at → number_at s from ≡ closed_at s at n
        go (ends e) = run-done f first (lower r.low apart) e ∙ sym (closed_none s at n e)
        go (goes e) = no_digit (λ x y. omega arith) (here e) ∙ sym (closed_some s at n (get_or s at 0) (word_at s (at + 1)) e)

  pub run_end : from < length s → 48 < get_or s from 0 → length s ≤ at → number_at s from ≡ Some (n, record { at = at })
  run_end f first l = run-done f first (omega arith) (word_out s at l)

-- ---- the first byte

module _ (s : List ℕ) (at : ℕ) (l : at < length s) where
  -- a zero is all of its field, or the field is no number
  pub zero-first : get_or s at 0 ≡ 48 → number_at s at ≡ closed_at s (at + 1) 0
  unfolding end_at
  zero-first z = go (word_at s (at + 1)) refl
    where
      whole : word_at s at ≡ get_or s at 0 ∷ word_at s (at + 1)
      whole = inner s at l (omega arith)

      head : get_or (word_at s at) 0 0 ≡ 48
      head = ap (λ (x : List ℕ). get_or x 0 0) whole ∙ z

      go : (w : List ℕ) → word_at s (at + 1) ≡ w → number_at s at ≡ closed_at s (at + 1) 0
      go [] e =
          let one : length (word_at s at) ≡ 1 = ap length (whole ∙ ap (λ (x : List ℕ). get_or s at 0 ∷ x) e) in
          number-some s at 0 (at + 1) (zero-alone (word_at s at) head one) (omega (arith, one)) ∙ sym (closed_none s (at + 1) 0 e)
      go (b ∷ w) e =
          let more : length (word_at s at) ≡ suc (suc (length w)) = ap length (whole ∙ ap (λ (x : List ℕ). get_or s at 0 ∷ x) e) in
          number-none s at (zero_leads (word_at s at) head (λ o. omega (arith, more, o))) ∙ sym (closed_some s (at + 1) 0 b w e)

  -- a byte before the digits begins no number
  pub low_first : get_or s at 0 < 48 → number_at s at ≡ None
  low_first a = number-none s at (go (next s at l))
    where
      go : Next s at → number (word_at s at) ≡ None
      go (ends e) = ap number e ∙ number-empty
      go (goes e) =
          let h : get_or (word_at s at) 0 0 ≡ get_or s at 0 = ap (λ (x : List ℕ). get_or x 0 0) e in
          number_other (word_at s at) 0 (omega (arith, ap length e)) (λ d. omega (arith, h, d.0))

-- ---- a field that is all of a text

past_word : (l : List ℕ) → word_of (drop (length (word_of l)) l) ≡ []
unfolding word_of
past_word [] = refl
past_word (b ∷ l) = go (eqb b 32) (stops (b ∷ l)) refl refl (past_word l)
  where
    go : (t u : Bool) → eqb b 32 ≡ t → stops (b ∷ l) ≡ u → word_of (drop (length (word_of l)) l) ≡ [] → word_of (drop (length (pick_bytes t [] (pick_bytes u [] (b ∷ word_of l)))) (b ∷ l)) ≡ []
    go true u p q more = rw p
    go false true p q more = rw (p, q)
    go false false p q more = more

module _ (w : List ℕ) where
  word-all : end_at w 0 ≡ length w → word_at w 0 ≡ w
  word-all e =
      let n : length w ≤ length w - 0 = omega arith in
      sym (part-is w 0 (length w) (sym e)) ∙ take_all (length w - 0) w n

  -- a field that ends before the text does: what stands there is no digit
  word_some : (end_at w 0 ≡ length w → ⊥) → number w ≡ None
  unfolding end_at word_at
  word_some e =
      let end : ℕ = length (word_of w) in
      let l : length (word_of w) < length w = omega (arith, end_le w 0 (omega arith), e) in
      number_other w (length (word_of w)) l
      (λ d.
      let c : word_at w (length (word_of w)) ≡ get_or w (length (word_of w)) 0 ∷ word_at w (length (word_of w) + 1) = inner w (length (word_of w)) l (omega (arith, d.0)) in
      let z : ◌≡◌ {A = ℕ} 0 1 = cc (past_word w) in
      omega arith)

  whole-found : (n : ℕ) (c : Cursor) → number_at w 0 ≡ Some (n, c) → (number (word_at w 0) ≡ Some n) × (c.at ≡ end_at w 0)
  unfolding number_at
  whole-found n c e = go (number (word_at w 0)) refl e
    where
      go : (o : Option ℕ) → number (word_at w 0) ≡ o → number_of o (end_at w 0) ≡ Some (n, c) → (number (word_at w 0) ≡ Some n) × (c.at ≡ end_at w 0)
      go None p q = let z : ◌≡◌ {A = ℕ} 0 1 = cc in absurd (omega arith)
      go (Some k) p q = (p ∙ ap Some (found-number q), sym (ap (λ (x : Cursor). x.at) (found-cursor q)))

  pub whole_is : (n : ℕ) (c : Cursor) → number_at w 0 ≡ Some (n, c) → c.at ≡ length w → number w ≡ Some n
  whole_is n c e l = let f = whole-found n c e in ap number (sym (word-all (sym f.1 ∙ l))) ∙ f.0

  pub whole-not : (n : ℕ) (c : Cursor) → number_at w 0 ≡ Some (n, c) → (c.at ≡ length w → ⊥) → number w ≡ None
  whole-not n c e l = word_some (λ q. l ((whole-found n c e).1 ∙ q))

  pub whole-none : number_at w 0 ≡ None → number w ≡ None
  unfolding number_at
  whole-none e = go (number (word_at w 0)) (eqb (end_at w 0) (length w)) refl refl e
    where
      go : (o : Option ℕ) (t : Bool) → number (word_at w 0) ≡ o → eqb (end_at w 0) (length w) ≡ t → number_of o (end_at w 0) ≡ None → number w ≡ None
      go (Some k) t p r q = let z : ◌≡◌ {A = ℕ} 0 1 = cc in absurd (omega arith)
      go None true p r q = ap number (sym (word-all (eqb-true (end_at w 0) (length w) r))) ∙ p
      go None false p r q = word_some (eqb-false (end_at w 0) (length w) r)
