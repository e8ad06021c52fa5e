-- Signatures of cuts.
--     Within                      all bits of the one are the other's
--     signed                      the signature of leaves, one by one
--     one-within .. within_both   within a leaf more on one side, or on both
--     within_conflict                 nothing within b is shut out by it
use lib.Arith.{bin_ind}
use Rattle.base.specs.{◌≡◌, refl, sym, ap, ◌∙◌, List, [], ◌∷◌, ℕ, zero, suc, ◌-◌, ◌/◌, ◌%◌, ◌^◌, ◌<◌, min, max, pow-suc, arith, bit_and}
use Rattle.base.specs.{bit_or, or_step, and_step, or_comm, or_self}

abbrev pub Within : ℕ → ℕ → Type 0
Within a b = bit_or a b ≡ b

-- the bit of a leaf
abbrev pub mark : ℕ → ℕ
mark x = 2 ^ ((4096 - x) % 32)

unfoldable pub signed : List ℕ → ℕ
signed [] = 1
signed (x ∷ xs) = bit_or (signed xs) (mark x)

-- the lowest bit of a union, and the others
parts : (a b : ℕ) → (bit_or a b / 2 ≡ bit_or (a / 2) (b / 2)) × (bit_or a b % 2 ≡ max (a % 2) (b % 2))
parts a b = (omega (arith, or_step a b), omega (arith, or_step a b))

or_assoc : (a b c : ℕ) → bit_or (bit_or a b) c ≡ bit_or a (bit_or b c)
or_assoc =
    bin_ind (λ (a : ℕ). (b c : ℕ) → bit_or (bit_or a b) c ≡ bit_or a (bit_or b c)) (λ b c. refl)
    (λ a ih b c.
    let p = parts a b in
    let q = parts b c in
    let low : max (max (a % 2) (b % 2)) (c % 2) ≡ max (a % 2) (max (b % 2) (c % 2)) = omega arith in
    or_step (bit_or a b) c ∙ rw (p.0, p.1, ih (b / 2) (c / 2), low) (sym (or_step a (bit_or b c) ∙ rw (q.0, q.1))))

pub within_more : (a b m : ℕ) → Within a b → Within a (bit_or b m)
within_more a b m h = sym (or_assoc a b m) ∙ ap (λ (x : ℕ). bit_or x m) h

pub within_both : (a b m : ℕ) → Within a b → Within (bit_or a m) (bit_or b m)
within_both a b m h =
    or_assoc a m (bit_or b m)
    ∙ ap (bit_or a) (ap (bit_or m) (or_comm b m) ∙ sym (or_assoc m m b) ∙ ap (λ (x : ℕ). bit_or x b) (or_self m) ∙ or_comm m b)
    ∙ within_more a b m h

pub one-within : (c : List ℕ) → Within 1 (signed c)
unfolding signed
one-within [] = refl
one-within (x ∷ c) = within_more 1 (signed c) (mark x) (one-within c)

pub within_conflict : (k a b : ℕ) → b < 2 ^ k → Within a b → bit_and (2 ^ k - 1 - b) a ≡ 0
within_conflict zero a b h e = let z : 2 ^ 0 - 1 - b ≡ 0 = omega arith in rw z
within_conflict (suc k) a b h e =
    let p = parts a b in
    let c : ℕ = 2 ^ suc k - 1 - b in
    let half : c / 2 ≡ 2 ^ k - 1 - b / 2 = omega (arith, pow-suc 2 k) in
    let rest : bit_and (c / 2) (a / 2) ≡ 0 =
    rw half (within_conflict k (a / 2) (b / 2) (omega (arith, pow-suc 2 k)) (sym p.0 ∙ ap (λ (x : ℕ). x / 2) e)) in
    let low : max (a % 2) (b % 2) ≡ b % 2 = sym p.1 ∙ ap (λ (x : ℕ). x % 2) e in
    let none : min (c % 2) (a % 2) ≡ 0 = omega (arith, pow-suc 2 k) in
    and_step c a ∙ rw (rest, none)
