-- The bytes 10 of a text, from the last on.
use Rattle.base.specs.{ℕ, suc, ◌+◌, ◌-◌, ◌≤◌, ◌<◌, arith, ◌≡◌, sym, ◌∙◌, ap, Bool, cond, List, ◌∷◌, eq-eqb, ne_eqb, length, drop, get_or}
use Rattle.base.specs.{drop_of_length-le, drop-cons}
use Rattle.model.specs.{line_ends}

pub ends-none : (s : List ℕ) → 0 ≡ line_ends (drop (length s) s)
unfolding line_ends
ends-none s = sym (ap line_ends (drop_of_length-le s (let z : length s ≤ length s = omega arith in z)))

module _ (s : List ℕ) (i n : ℕ) (fits : i ≤ length s) (is : n ≡ line_ends (drop i s)) (more : 0 < i) where
  here : drop (i - 1) s ≡ get_or s (i - 1) 0 ∷ drop i s
  here = drop-cons s (i - 1) 0 (omega arith) ∙ ap (λ (k : ℕ). get_or s (i - 1) 0 ∷ drop k s) (let z : suc (i - 1) ≡ i = omega arith in z)

  pub ends-one : get_or s (i - 1) 0 ≡ 10 → n + 1 ≡ line_ends (drop (i - 1) s)
  unfolding line_ends
  ends-one e =
      (let z : n + 1 ≡ suc n = omega arith in z) ∙ ap suc is
      ∙ sym (ap line_ends here ∙ ap (λ (b : Bool). cond b (suc (line_ends (drop i s))) (line_ends (drop i s))) (eq-eqb (get_or s (i - 1) 0) 10 e))

  pub ends_other : (get_or s (i - 1) 0 ≡ 10 → ⊥) → n ≡ line_ends (drop (i - 1) s)
  unfolding line_ends
  ends_other e = is ∙ sym (ap line_ends here ∙ ap (λ (b : Bool). cond b (suc (line_ends (drop i s))) (line_ends (drop i s))) (ne_eqb (get_or s (i - 1) 0) 10 e))
