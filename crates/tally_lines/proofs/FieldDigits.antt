-- Fields by their bytes: digits, a letter and digits, a pin and its net, and a number's own digits.
use Rattle.base.specs.{ℕ, ◌+◌, ◌-◌, ◌≤◌, ◌<◌, arith, ◌≡◌, refl, sym, ap, ◌∙◌, zero-add, true, false, List, [], ◌∷◌, eqb, length, take, drop, get_or}
use Rattle.base.specs.{replicate, length-drop, take-append_seam, take_all, eq-eqb, ne_eqb, lt-ltb, le-ltb}
use Rattle.model.specs.{decimal, is_digit, span, are_digits, is_label, is_phase_net, is_inner_net, is_gate_net, is_bound}
use Rattle.base_words.specs.{put_at}
use Rattle.base_text.specs.{span_end}
use Rattle.base_text.proofs.{class_all}
use Rattle.base_text.proofs.{and-false, dec_below, put_front}

-- ---- fields

-- the part behind the first k bytes
pub rest_part : (w : List ℕ) (k : ℕ) → take (length w - k) (drop k w) ≡ drop k w
rest_part w k = take_all (length w - k) (drop k w) (omega (arith, length-drop k w))

pub digits-none : (w : List ℕ) → length w ≡ 0 → false ≡ are_digits w
unfolding are_digits
digits-none w e = sym (rw (le-ltb 0 (length w) (omega arith)))

pub digits-some : (w : List ℕ) → 0 < length w → eqb (span_end is_digit w 0) (length w) ≡ are_digits w
unfolding are_digits span_end is_digit
digits-some w h = ap (λ (n : ℕ). eqb n (length w)) (zero-add (length (span is_digit w))) ∙ sym (class_all is_digit w) ∙ sym (rw (lt-ltb 0 (length w) h))

none-behind : (w : List ℕ) → length w ≡ 0 → are_digits (drop 1 w) ≡ false
none-behind [] e = sym (digits-none [] refl)
none-behind (b ∷ w) e = absurd (omega arith)

pub label-none : (b : ℕ) (w : List ℕ) → length w ≡ 0 → false ≡ is_label b w
unfolding is_label
label-none b w e = sym (rw (none-behind w e) (and-false (eqb (get_or w 0 0) b)))

pub label_other : (b : ℕ) (w : List ℕ) → (get_or w 0 0 ≡ b → ⊥) → false ≡ is_label b w
unfolding is_label
label_other b w n = sym (rw (ne_eqb (get_or w 0 0) b n))

pub label_is : (b : ℕ) (w : List ℕ) → get_or w 0 0 ≡ b → are_digits (drop 1 w) ≡ is_label b w
unfolding is_label
label_is b w e = sym (rw (eq-eqb (get_or w 0 0) b e))

pub phase-first : (w : List ℕ) → is_label 112 w ≡ true → true ≡ is_phase_net w
unfolding is_phase_net
phase-first w e = sym (rw e)

pub phase-second : (w : List ℕ) → is_label 112 w ≡ false → is_label 109 w ≡ is_phase_net w
unfolding is_phase_net
phase-second w e = sym (rw e)

phase-none : (w : List ℕ) → length w ≡ 0 → is_phase_net w ≡ false
unfolding is_phase_net
phase-none w e = rw (sym (label-none 112 w e), sym (label-none 109 w e))

pub inner-none : (w : List ℕ) → length w ≡ 0 → false ≡ is_inner_net w
inner-none [] e = sym (unfold is_inner_net in refl)
inner-none (b ∷ w) e = absurd (omega arith)

pub inner_other : (w : List ℕ) → (get_or w 0 0 ≡ 115 → ⊥) → false ≡ is_inner_net w
unfolding is_inner_net
inner_other w n = sym (rw (ne_eqb (get_or w 0 0) 115 n))

pub inner-is : (w : List ℕ) → get_or w 0 0 ≡ 115 → is_phase_net (drop 1 w) ≡ is_inner_net w
unfolding is_inner_net
inner-is w e = sym (rw (eq-eqb (get_or w 0 0) 115 e))

pub gate-first : (w : List ℕ) → is_phase_net w ≡ true → true ≡ is_gate_net w
unfolding is_gate_net
gate-first w e = sym (rw e)

pub gate-second : (w : List ℕ) → is_phase_net w ≡ false → is_inner_net w ≡ is_gate_net w
unfolding is_gate_net
gate-second w e = sym (rw e)

net-none : is_gate_net [] ≡ false
net-none = sym (gate-second [] (phase-none [] refl)) ∙ sym (inner-none [] refl)

drop-short : (w : List ℕ) → length w < 2 → drop 2 w ≡ []
drop-short [] h = refl
drop-short (a ∷ []) h = refl
drop-short (a ∷ b ∷ w) h = absurd (omega arith)

module _ (b : ℕ) (w : List ℕ) where
  pub bound-short : length w < 2 → false ≡ is_bound b w
  unfolding is_bound
  bound-short h = sym (rw (drop-short w h, net-none) (rw (and-false (eqb (get_or w 1 0) 61)) (and-false (eqb (get_or w 0 0) b))))

  pub bound-letter : (get_or w 0 0 ≡ b → ⊥) → false ≡ is_bound b w
  unfolding is_bound
  bound-letter n = sym (rw (ne_eqb (get_or w 0 0) b n))

  pub bound-sign : (get_or w 1 0 ≡ 61 → ⊥) → false ≡ is_bound b w
  unfolding is_bound
  bound-sign n = sym (rw (ne_eqb (get_or w 1 0) 61 n) (and-false (eqb (get_or w 0 0) b)))

  pub bound-is : get_or w 0 0 ≡ b → get_or w 1 0 ≡ 61 → is_gate_net (drop 2 w) ≡ is_bound b w
  unfolding is_bound
  bound-is e f = sym (rw (eq-eqb (get_or w 0 0) b e, eq-eqb (get_or w 1 0) 61 f))

-- ---- a number's digits

pub ten-digits : (n : ℕ) → n < 4294967296 → length (decimal n) ≤ 10
ten-digits n h = dec_below 9 n (omega arith)

pub written : (n end : ℕ) (ds : List ℕ) → end ≡ 0 + length (decimal n) → ds ≡ put_at (replicate 10 0) 0 (decimal n) → take end ds ≡ decimal n
written n end ds e f =
    let z : end ≡ length (decimal n) = omega arith in
    rw (z, f, put_front (replicate 10 0) (decimal n), take-append_seam (decimal n) (drop (length (decimal n)) (replicate 10 0)))
