-- The line at a place as the code sees it.
use Rattle.base.specs.{ℕ, ◌+◌, ◌-◌, ◌≤◌, arith, ◌≡◌, sym, ap, subst, Bool, false, ◌&&◌, List, eq-eqb, ne_eqb, length, take, drop}
use Rattle.model.specs.{same, Line, is_line}
use Rattle.base_text.specs.declared.Span.{Span}
use Rattle.base_text.specs.{line_of, line_at, past_line, span_at}
use Rattle.base_text.proofs.{span-from, span_fits, span-contents, span-next, span-long}

-- a line that must be certain bytes: byte 10 alone ends it
pub line-not : (w : List ℕ) (l : Line) → (l.ending ≡ 1 → ⊥) → is_line w l ≡ false
unfolding is_line
line-not w l h = ap (λ (b : Bool). b && same l.bytes w) (ne_eqb l.ending 1 h)

pub line-is : (w : List ℕ) (l : Line) → l.ending ≡ 1 → is_line w l ≡ same l.bytes w
unfolding is_line
line-is w l h = ap (λ (b : Bool). b && same l.bytes w) (eq-eqb l.ending 1 h)

module _ (s : List ℕ) (at : ℕ) (line : Span) (is : line ≡ span_at s at) where
  pub stop_from : at ≤ line.stop
  stop_from = subst (λ (x : Span). at ≤ x.stop) (sym is) (span-from s at)

  pub stop_fits : at ≤ length s → line.stop ≤ length s
  stop_fits h = subst (λ (x : Span). x.stop ≤ length s) (sym is) (span_fits s at h)

  pub stop_next : line.next ≡ line.stop + (line_at s at).ending
  stop_next = subst (λ (x : Span). x.next ≡ x.stop + (line_at s at).ending) (sym is) (span-long s at)

  pub line-bytes : take (line.stop - at) (drop at s) ≡ (line_at s at).bytes
  line-bytes = subst (λ (x : Span). take (x.stop - at) (drop at s) ≡ (line_at s at).bytes) (sym is) (span-contents s at)

  pub line-next : line.next ≡ past_line s at
  line-next = subst (λ (x : Span). x.next ≡ past_line s at) (sym is) (span-next s at)

  pub line-long : length (line_at s at).bytes ≡ line.stop - at
  unfolding line_at span_at
  line-long = subst (λ (x : Span). length (line_at s at).bytes ≡ x.stop - at) (sym is) (let z : length (line_of (drop at s)) ≡ at + length (line_of (drop at s)) - at = omega arith in z)
