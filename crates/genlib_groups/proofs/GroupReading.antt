-- Laws of groups: the lines from a place up to the next GATE line.
use Rattle.base.specs.{ℕ, suc, ◌+◌, ◌-◌, ◌≤◌, ◌<◌, add-one, arith, ◌≡◌, refl, sym, ap, ◌∙◌, Bool, true, false, cond, ◌&&◌, ◌||◌, and_assoc}
use Rattle.base.specs.{Option, None, Some, List, [], ◌∷◌, ◌++◌, map, length}
use Rattle.std.proofs.Common.{is_some}
use Rattle.model.specs.{and_then, all, any, same, from, Line, is_word, is_empty, is_pin, with_name, add_pins, pins_of, starts_gate, grouped, groups}
use Rattle.model.specs.{line_tokens, pin_line, has_line, is_there, delay_of}
use Rattle.base_text.specs.{line_at}
use Rattle.base_text.proofs.{lines_none, and-true, same-eq}
use Rattle.genlib_groups.specs.{lines_of, lines_behind, line_found, pin_has, delay_for}

module _ (s : List ℕ) (at : ℕ) where
  module _ (l : Line) (ls : List Line) (e : lines_of s at ≡ l ∷ ls) where
    pub gate-here : starts_gate l ≡ true → ((grouped (lines_of s at)).0 ≡ []) × ((grouped (lines_of s at)).1 ≡ groups (lines_of s at))
    unfolding grouped groups
    gate-here g = (rw (e, g), rw (e, g))

    pub line-here : starts_gate l ≡ false → ((grouped (lines_of s at)).0 ≡ l ∷ (grouped ls).0) × ((grouped (lines_of s at)).1 ≡ (grouped ls).1)
    unfolding grouped groups
    line-here g = (rw (e, g), rw (e, g))

  pub none_here : length s ≤ at → ((grouped (lines_of s at)).0 ≡ []) × ((grouped (lines_of s at)).1 ≡ groups (lines_of s at))
  unfolding grouped groups
  none_here h = (rw (lines_none s at h), rw (lines_none s at h))

  -- the same by the lines' tokens
  pub lines_end : (grouped (lines_of s at)).0 ≡ [] → lines_behind s at ≡ []
  unfolding lines_behind
  lines_end e = rw e

  pub lines_more : (l : Line) (n : ℕ) → (grouped (lines_of s at)).0 ≡ l ∷ (grouped (lines_of s n)).0 → lines_behind s at ≡ line_tokens l ∷ lines_behind s n
  unfolding lines_behind
  lines_more l n e = rw e

-- ---- PIN lines that count

pub has-found : (lines : List (List (List ℕ))) (t : List ℕ) (s : List ℕ) (r : Option ℕ) → pin_line t lines ≡ line_found s r → has_line lines t ≡ is_some r
unfolding has_line is_there
has-found lines t s None e = ap is_there e
has-found lines t s (Some at) e = ap is_there e

-- ---- what holds of all names of a list holds of all tokens of which it was made

module _ (f : List ℕ → Bool) where
  known-name : (t : List ℕ) (seen : List (List ℕ)) → any (same t) seen ≡ true → (all f seen && f t) ≡ all f seen
  unfolding any all
  known-name t [] e = let z : ◌≡◌ {A = ℕ} 0 1 = cc in absurd (omega arith)
  known-name t (u ∷ seen) e = go (same t u) refl (f u) refl (known-name t seen)
    where
      go : (s : Bool) → same t u ≡ s → (b : Bool) → f u ≡ b → (any (same t) seen ≡ true → (all f seen && f t) ≡ all f seen) → ((b && all f seen) && f t) ≡ (b && all f seen)
      go s p false q h = refl
      go true p true q h = rw (ap f (same-eq t u p) ∙ q) (and-true (all f seen))
      go false p true q h = h (sym (ap (λ (x : Bool). x || any (same t) seen) p) ∙ e)

  with_last : (seen : List (List ℕ)) (t : List ℕ) → all f (seen ++ (t ∷ [])) ≡ (all f seen && f t)
  unfolding all
  with_last [] t = and-true (f t)
  with_last (u ∷ seen) t = ap (λ (x : Bool). f u && x) (with_last seen t) ∙ sym (and_assoc (f u) (all f seen) (f t))

  name-more : (seen : List (List ℕ)) (t : List ℕ) → all f (with_name seen t) ≡ (all f seen && f t)
  unfolding with_name
  name-more seen t = go (any (same t) seen) refl
    where
      go : (s : Bool) → any (same t) seen ≡ s → all f (cond s seen (seen ++ (t ∷ []))) ≡ (all f seen && f t)
      go true e = sym (known-name t seen e)
      go false e = with_last seen t

  module _ (free : (t : List ℕ) → is_pin t ≡ false → f t ≡ true) where
    pins-more : (seen ts : List (List ℕ)) → all f (add_pins seen ts) ≡ (all f seen && all f ts)
    unfolding add_pins all
    pins-more seen [] = sym (and-true (all f seen))
    pins-more seen (t ∷ ts) = pins-more (cond (is_pin t) (with_name seen t) seen) ts ∙ go (is_pin t) refl
      where
        go : (s : Bool) → is_pin t ≡ s → (all f (cond s (with_name seen t) seen) && all f ts) ≡ (all f seen && (f t && all f ts))
        go true e = ap (λ (x : Bool). x && all f ts) (name-more seen t) ∙ and_assoc (all f seen) (f t) (all f ts)
        go false e = rw (free t e)

    pub pins-all : (ts : List (List ℕ)) → all f ts ≡ all f (pins_of ts)
    unfolding pins_of all
    pins-all ts = sym (pins-more [] ts)

  -- pin by pin
  module _ (g : ℕ → List ℕ) (i n : ℕ) where
    pub pins-step : i < n → all f (map g (from i (n - i))) ≡ (f (g i) && all f (map g (from (i + 1) (n - (i + 1)))))
    unfolding all from
    pins-step h = let e : n - i ≡ suc (n - (i + 1)) = omega arith in rw (e, add-one i)

    pub pins-end : n ≤ i → all f (map g (from i (n - i))) ≡ true
    unfolding all from
    pins-end h = let e : n - i ≡ 0 = omega arith in rw e

pub has-free : (lines : List (List (List ℕ))) (t : List ℕ) → is_pin t ≡ false → pin_has lines t ≡ true
unfolding pin_has
has-free lines t e = rw e

pub has-none : (lines : List (List (List ℕ))) → pin_has lines [] ≡ true
unfolding pin_has is_pin is_word is_empty
has-none lines = refl

pub delay_found : (lines : List (List (List ℕ))) (t : List ℕ) (s : List ℕ) (r : ℕ) → pin_line t lines ≡ line_found s (Some r) → delay_for lines t ≡ delay_of (line_tokens (line_at s r))
unfolding delay_for and_then
delay_found lines t s r e = rw e

pub delay_missing : (lines : List (List (List ℕ))) (t : List ℕ) → pin_line t lines ≡ None → delay_for lines t ≡ None
unfolding delay_for and_then
delay_missing lines t e = rw e
