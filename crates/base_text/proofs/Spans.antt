-- The line at a place, byte by byte: where its contents stop, and where the next line begins.
use Rattle.base.specs.{ℕ, suc, ◌+◌, ◌-◌, ◌≤◌, ◌<◌, add-one, add-zero, zero-add, arith, ◌≡◌, refl, sym, ap, ◌∙◌, Bool, true, false, ◌&&◌, List, []}
use Rattle.base.specs.{◌∷◌, ltb, length, take, drop, get_or, drop_of_length-le, length-drop, drop-cons, lt-ltb, le-ltb, ltb-true, ltb-false}
use Rattle.model.specs.{same, ended}
use Rattle.base_text.specs.{pick_bytes, end_of, stops, line_of, ending_of, line_at, past_line, span_at, first_is}
use Rattle.base_text.specs.declared.Span.{Span}
use Rattle.base_text.proofs.CursorReads.{line_stop, ending_stop}
use Rattle.base_text.proofs.TextWords.{some_end}

-- a line's end stands here
pub span_stop : (s : List ℕ) (at : ℕ) → (end_of (drop at s) ≡ 0 → ⊥) → span_at s at ≡ record { stop = at; next = at + end_of (drop at s) }
unfolding span_at
span_stop s at ne = let e = some_end (drop at s) ne in rw (line_stop (drop at s) e, ending_stop (drop at s) e, add-zero at, zero-add (end_of (drop at s)))

-- the text ends here
pub span_out : (s : List ℕ) (at : ℕ) → length s ≤ at → span_at s at ≡ record { stop = at; next = at }
unfolding span_at line_of ending_of
span_out s at h = rw (drop_of_length-le s h, add-zero at)

-- a byte of the contents
pub span-step : (s : List ℕ) (at : ℕ) → at < length s → end_of (drop at s) ≡ 0 → span_at s at ≡ span_at s (at + 1)
unfolding span_at line_of ending_of
span-step s at h b =
    let n : end_of (get_or s at 0 ∷ drop (suc at) s) ≡ 0 = ap end_of (sym (drop-cons s at 0 h)) ∙ b in
    let p : at + suc (length (line_of (drop (suc at) s))) ≡ suc at + length (line_of (drop (suc at) s)) = omega arith in
    let q : at + (suc (length (line_of (drop (suc at) s))) + ending_of (drop (suc at) s)) ≡ suc at + (length (line_of (drop (suc at) s)) + ending_of (drop (suc at) s)) = omega arith in
    rw (add-one at, drop-cons s at 0 h, n, p, q)

-- ---- what a span says of the line

line_le : (l : List ℕ) → length (line_of l) ≤ length l
unfolding line_of
line_le [] = omega arith
line_le (b ∷ l) = go (stops (b ∷ l)) (line_le l)
  where
    go : (t : Bool) → length (line_of l) ≤ length l → length (pick_bytes t [] (b ∷ line_of l)) ≤ suc (length l)
    go true h = omega arith
    go false h = omega arith

line-take : (l : List ℕ) → take (length (line_of l)) l ≡ line_of l
unfolding line_of
line-take [] = refl
line-take (b ∷ l) = go (stops (b ∷ l)) (line-take l)
  where
    go : (t : Bool) → take (length (line_of l)) l ≡ line_of l → take (length (pick_bytes t [] (b ∷ line_of l))) (b ∷ l) ≡ pick_bytes t [] (b ∷ line_of l)
    go true e = refl
    go false e = ap (λ (x : List ℕ). b ∷ x) e

module _ (s : List ℕ) (at : ℕ) where
  -- its contents lie in the text
  pub span_fits : at ≤ length s → (span_at s at).stop ≤ length s
  unfolding span_at
  span_fits h = omega (arith, line_le (drop at s), length-drop at s)

  pub span-from : at ≤ (span_at s at).stop
  unfolding span_at
  span-from = omega arith

  pub span-contents : take ((span_at s at).stop - at) (drop at s) ≡ (line_at s at).bytes
  unfolding span_at line_at
  span-contents =
      let e : at + length (line_of (drop at s)) - at ≡ length (line_of (drop at s)) = omega arith in
      ap (λ (k : ℕ). take k (drop at s)) e ∙ line-take (drop at s)

  -- it has its end where the next line begins further on
  pub span-ended : ltb (span_at s at).stop (span_at s at).next ≡ ended (line_at s at)
  unfolding span_at line_at
  span-ended = go (ltb 0 (ending_of (drop at s))) refl
    where
      go : (t : Bool) → ltb 0 (ending_of (drop at s)) ≡ t → ltb (at + length (line_of (drop at s))) (at + (length (line_of (drop at s)) + ending_of (drop at s))) ≡ t
      go true e =
          let l : 0 < ending_of (drop at s) = ltb-true 0 (ending_of (drop at s)) e in
          lt-ltb (at + length (line_of (drop at s))) (at + (length (line_of (drop at s)) + ending_of (drop at s))) (omega arith)
      go false e =
          let l : ending_of (drop at s) ≤ 0 = ltb-false 0 (ending_of (drop at s)) e in
          le-ltb (at + length (line_of (drop at s))) (at + (length (line_of (drop at s)) + ending_of (drop at s))) (omega arith)

  pub span-next : (span_at s at).next ≡ past_line s at
  unfolding span_at past_line
  span-next = refl

  -- and by as many bytes as the end has: a reader that takes byte 10 alone asks for one
  pub span-long : (span_at s at).next ≡ (span_at s at).stop + (line_at s at).ending
  unfolding span_at line_at
  span-long = omega arith

-- ---- the first line of a text

pub first-contents : (s : List ℕ) → take (span_at s 0).stop s ≡ (line_at s 0).bytes
first-contents s = let z : (span_at s 0).stop - 0 ≡ (span_at s 0).stop = omega arith in ap (λ (k : ℕ). take k s) (sym z) ∙ span-contents s 0

-- the test of it
pub first-is : (s bytes : List ℕ) → first_is s (span_at s 0) bytes ≡ (ended (line_at s 0) && same (line_at s 0).bytes bytes)
unfolding first_is
first-is s bytes = rw (span-ended s 0, first-contents s)

-- as it is handed back
pub first_fits : (s : List ℕ) (l : Span) → l ≡ span_at s 0 → l.stop ≤ length s
first_fits s l is = omega (arith, ap (λ (x : Span). x.stop) is, span_fits s 0 (omega arith))
