-- Where a text ends:
--     before_position     the bytes before the first byte 0, by its place
--     end-past            at the end of the input, where it begins there or behind it
--     end-within          no earlier than it begins, and within the input where it begins there
use Rattle.std.specs.Prelude.{◌==◌, position, unwrap_or}
use Rattle.std.specs.List.{position_or_len}
use Rattle.std.proofs.Math.Numerals.{one-add}
use Rattle.std.proofs.lemmas.List.Recursion.{is_position_or_len}
use Rattle.std.proofs.lemmas.List.Sums.{prefix_len-le-length}
use Rattle.base.specs.{◌≡◌, refl, sym, ap, ◌∙◌, Bool, not, ltb, ltb-false, true, false, cond, Some, None, List, [], ◌∷◌, ℕ, suc, ◌+◌, ◌-◌, ◌≤◌, add-zero}
use Rattle.base.specs.{arith, eqb, length, drop, length-drop, drop_of_length-le}
use Rattle.program_files.specs.{before, end_from}

before_is : (bs : List ℕ) → before bs ≡ position_or_len (λ b. b == 0) bs
unfolding before
before_is = is_position_or_len before (λ b. b == 0) refl (λ b bs. ap (λ (n : ℕ). cond (b == 0) 0 n) (sym (one-add (before bs))))

pub before_position : (bs : List ℕ) → unwrap_or (position (λ b. b == 0) bs) (length bs) ≡ before bs
before_position bs = go (ltb at (length bs)) refl ∙ sym (before_is bs)
  where
    at : ℕ
    at = position_or_len (λ b. b == 0) bs

    go : (t : Bool) → ltb at (length bs) ≡ t → unwrap_or (cond t (Some at) None) (length bs) ≡ at
    go true e = refl
    go false e = omega (arith, ltb-false at (length bs) e, prefix_len-le-length (λ b. not (b == 0)) bs)

before-none : before [] ≡ 0
unfolding before
before-none = refl

pub end-past : (s : List ℕ) (at : ℕ) → length s ≤ at → end_from s at ≡ at
unfolding end_from
end-past s at h = ap (λ (bs : List ℕ). at + before bs) (drop_of_length-le s h) ∙ ap (λ (n : ℕ). at + n) before-none ∙ add-zero at

few : (bs : List ℕ) → before bs ≤ length bs
unfolding before
few [] = omega arith
few (b ∷ bs) = go (eqb b 0) (few bs)
  where
    go : (t : Bool) → before bs ≤ length bs → cond t 0 (suc (before bs)) ≤ suc (length bs)
    go true h = omega arith
    go false h = omega arith

pub end-within : (s : List ℕ) (from : ℕ) → (from ≤ end_from s from) × (end_from s from ≤ length s + (from - length s))
unfolding end_from
end-within s from = (omega arith, omega (arith, few (drop from s), length-drop from s))
