-- The bytes 10 of a text are as many as `Tens` says.
use Rattle.base.specs.{ℕ, suc, ◌≡◌, refl, sym, ◌∙◌, ap, subst, Bool, true, false, cond, List, [], ◌∷◌, eqb, eqb-true, eqb-false, ne_eqb}
use Rattle.model.specs.{line_ends}
use Rattle.promises.specs.CheckRefusals.{Tens, no_byte, a_ten, another}

pub tens_are : (s : List ℕ) → Tens s (line_ends s)
unfolding line_ends
tens_are [] = no_byte
tens_are (b ∷ s) = go (eqb b 10) refl (tens_are s)
  where
    go : (e : Bool) → eqb b 10 ≡ e → Tens s (line_ends s) → Tens (b ∷ s) (cond e (suc (line_ends s)) (line_ends s))
    go true p r = subst (λ (x : ℕ). Tens (x ∷ s) (suc (line_ends s))) (sym (eqb-true b 10 p)) (a_ten r)
    go false p r = another (eqb-false b 10 p) r

pub tens_only : {s : List ℕ} {n : ℕ} → Tens s n → n ≡ line_ends s
unfolding line_ends
tens_only no_byte = refl
tens_only (a_ten r) = ap suc (tens_only r)
tens_only (another {b} {s} ne r) = tens_only r ∙ sym (ap (λ (e : Bool). cond e (suc (line_ends s)) (line_ends s)) (ne_eqb b 10 ne))
