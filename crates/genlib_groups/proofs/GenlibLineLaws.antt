-- Laws of the line at a place: its bounds, its contents and its first word.
use Rattle.base.specs.{ℕ, suc, ◌+◌, ◌-◌, ◌≤◌, ◌<◌, zero-add, le_of_lt, arith, ◌≡◌, refl, sym, ap, subst, ◌∙◌, Bool, true, false, cond, List}
use Rattle.base.specs.{[], ◌∷◌, ltb, length, take, drop, length-drop, ltb-true, ltb-false, le-ltb}
use Rattle.model.specs.{same, ended, is_name_byte, is_blank, span, tokens, first_name, starts_gate, line_is, line_tokens}
use Rattle.base_text.specs.declared.Span.{Span}
use Rattle.base_text.specs.{pick_bytes, pick_n, end_of, stops, line_of, ending_of, line_at, span_at}
use Rattle.base_text.proofs.{end_fits, lines_at_lem, lines_none, span-from as stop_from, span_fits, span-contents, span-ended, span-long}
use Rattle.base_text.proofs.{span-next}
use Rattle.base_text.specs.{span_end}
use Rattle.genlib_expression.specs.{part}
use Rattle.base_text.proofs.{class_from, class_le, class_part}
use Rattle.genlib_groups.specs.{lines_of, gate_word}

-- ---- a line

-- what is known of the line at a place
pub record Bounded (s : List ℕ) (at : ℕ) (l : Span) : Type 0 where
  pub starts : at ≤ l.stop
  pub stopped : l.stop ≤ length s
  pub ordered : l.stop ≤ l.next
  pub later : at < l.next
  pub within : l.next ≤ length s
  pub bytes : part s at l.stop ≡ (line_at s at).bytes
  pub ends : ltb l.stop l.next ≡ ended (line_at s at)
  pub lines : lines_of s at ≡ line_at s at ∷ lines_of s l.next

-- a line and its end are within the text, and a line without its end is all that is left
line-capacity : (l : List ℕ) → (length (line_of l) + ending_of l ≤ length l) × (ending_of l ≡ 0 → length (line_of l) ≡ length l)
unfolding line_of ending_of
line-capacity [] = (omega arith, λ e. refl)
line-capacity (b ∷ l) = go (stops (b ∷ l)) refl (line-capacity l)
  where
    some : 0 < end_of (b ∷ l) → end_of (b ∷ l) ≡ 0 → ⊥
    some p e = omega arith

    go : (t : Bool) → stops (b ∷ l) ≡ t → (length (line_of l) + ending_of l ≤ length l) × (ending_of l ≡ 0 → length (line_of l) ≡ length l)
        → (length (pick_bytes t [] (b ∷ line_of l)) + pick_n t (end_of (b ∷ l)) (ending_of l) ≤ suc (length l))
        × (pick_n t (end_of (b ∷ l)) (ending_of l) ≡ 0 → length (pick_bytes t [] (b ∷ line_of l)) ≡ suc (length l))
    go true p h =
        let q : 0 < end_of (b ∷ l) = ltb-true 0 (end_of (b ∷ l)) p in
        (omega (arith, end_fits (b ∷ l) 0 (some q)), λ e. absurd (some q e))
    go false p h = (omega (arith, h.0), λ e. ap suc (h.1 e))

module _ (s : List ℕ) (at : ℕ) (h : at < length s) where
  capacity : ((span_at s at).next ≤ length s) × ((line_at s at).ending ≡ 0 → (span_at s at).next ≡ length s)
  unfolding span_at line_at
  capacity = let r = line-capacity (drop at s) in (omega (arith, r.0, length-drop at s), λ e. omega (arith, r.1 e, length-drop at s))

  after : at < (span_at s at).next
  after = go (ltb 0 (line_at s at).ending) refl
    where
      go : (t : Bool) → ltb 0 (line_at s at).ending ≡ t → at < (span_at s at).next
      go true p = let q = ltb-true 0 (line_at s at).ending p in omega (arith, stop_from s at, span-long s at)
      go false p =
          let q = ltb-false 0 (line_at s at).ending p in
          let z : (line_at s at).ending ≡ 0 = omega arith in
          omega (arith, capacity.1 z)

  behind : lines_of s at ≡ line_at s at ∷ lines_of s (span_at s at).next
  behind = lines_at_lem s at h ∙ rw (sym (span-next s at)) (go (ended (line_at s at)) refl)
    where
      go : (t : Bool) → ended (line_at s at) ≡ t → line_at s at ∷ cond t (lines_of s (span_at s at).next) [] ≡ line_at s at ∷ lines_of s (span_at s at).next
      go true p = refl
      go false p =
          let q = ltb-false 0 (line_at s at).ending p in
          let z : (line_at s at).ending ≡ 0 = omega arith in
          rw (lines_none s (span_at s at).next (omega (arith, capacity.1 z)))

  here : Bounded s at (span_at s at)
  here = record {
    starts = stop_from s at;
    stopped = span_fits s at (le_of_lt h);
    ordered = omega (arith, span-long s at);
    later = after;
    within = capacity.0;
    bytes = span-contents s at;
    ends = span-ended s at;
    lines = behind;
  }

  pub bounded : (l : Span) → l ≡ span_at s at → Bounded s at l
  bounded l e = subst (Bounded s at) (sym e) here

-- ---- what a line is, by its contents

module _ (s : List ℕ) (at : ℕ) (l : Span) (b : Bounded s at l) where
  pub starts-gate : same (first_name (part s at l.stop)) gate_word ≡ starts_gate (line_at s at)
  unfolding starts_gate gate_word
  starts-gate = rw b.bytes

  pub tokens-at : tokens (part s at l.stop) ≡ line_tokens (line_at s at)
  unfolding line_tokens
  tokens-at = rw b.bytes

  module _ (p : List (List ℕ) → Bool) where
    -- a line without its end passes nothing
    pub not-ended : l.stop ≡ l.next → line_is p (line_at s at) ≡ false
    unfolding line_is
    not-ended e = rw (sym b.ends ∙ le-ltb l.stop l.next (omega arith))

    pub is-ended : (l.stop ≡ l.next → ⊥) → line_is p (line_at s at) ≡ p (tokens (part s at l.stop))
    unfolding line_is
    is-ended ne = rw (sym b.ends ∙ some (ltb l.stop l.next) refl, b.bytes)
      where
        some : (t : Bool) → ltb l.stop l.next ≡ t → t ≡ true
        some true q = refl
        some false q = let k = ltb-false l.stop l.next q in absurd (ne (omega (arith, b.ordered)))

-- ---- the first word

module _ (w : List ℕ) (from to : ℕ) (e : from ≡ span_end is_blank w 0) (f : to ≡ span_end is_name_byte w from) where
  pub gate_bounds : (from ≤ to) × (to ≤ length w)
  gate_bounds = (omega (arith, class_from is_name_byte w from), omega (arith, class_le is_name_byte w from (omega (arith, class_le is_blank w 0 (omega arith)))))

  pub gate-part : part w from to ≡ first_name w
  unfolding first_name span_end
  gate-part = ap (λ (n : ℕ). take (n - from) (drop from w)) f ∙ class_part is_name_byte w from ∙ ap (λ (n : ℕ). span is_name_byte (drop n w)) (e ∙ zero-add (length (span is_blank w)))
