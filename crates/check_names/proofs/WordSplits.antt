-- A line parted at its spaces.
use Rattle.base.specs.{ℕ, zero, suc, ◌+◌, ◌-◌, ◌≤◌, ◌<◌, add-one, arith, ◌≡◌, refl, sym, ◌∙◌, ap, ap₂, Bool, true, false, cond, List, []}
use Rattle.base.specs.{◌∷◌, eqb, length, take, drop, get_or, length-drop, drop-cons, no_eqb, yes_eqb, le-leb, lt-leb, dec_le, lt_of_not-le}
use Rattle.model.specs.{onto, split, fields}
use Rattle.theory_graph.proofs.{is_true, is_false}
use Rattle.check_names.specs.{pick_bytes, until_space, space_from, fields_from}

-- ---- the end of a field

module _ (l : List ℕ) (at : ℕ) where
  pub space-here : at < length l → get_or l at 0 ≡ 32 → space_from l at ≡ at
  unfolding space_from until_space
  space-here h e = rw (drop-cons l at 0) (ap (λ (b : Bool). at + length (pick_bytes b [] (get_or l at 0 ∷ until_space (drop (suc at) l)))) (is_true (eqb (get_or l at 0) 32) (yes_eqb e)) ∙ (let z : at + 0 ≡ at = omega arith in z))

  pub space-later : at < length l → (get_or l at 0 ≡ 32 → ⊥) → space_from l at ≡ space_from l (at + 1)
  unfolding space_from until_space
  space-later h e =
      rw (add-one, drop-cons l at 0)
      (ap (λ (b : Bool). at + length (pick_bytes b [] (get_or l at 0 ∷ until_space (drop (suc at) l)))) (is_false (eqb (get_or l at 0) 32) (no_eqb e))
      ∙ (let z : at + suc (length (until_space (drop (suc at) l))) ≡ suc at + length (until_space (drop (suc at) l)) = omega arith in z))

  pub space-end : length l ≤ at → space_from l at ≡ at
  unfolding space_from until_space
  space-end h = rw (nothing l at h) (let z : at + 0 ≡ at = omega arith in z)
    where
      nothing : (xs : List ℕ) (i : ℕ) → length xs ≤ i → until_space (drop i xs) ≡ []
      nothing [] zero q = refl
      nothing [] (suc i) q = refl
      nothing (x ∷ xs) zero q = absurd (let z : suc (length xs) ≤ 0 = q in omega arith)
      nothing (x ∷ xs) (suc i) q = nothing xs i (let z : suc (length xs) ≤ suc i = q in omega arith)

-- ---- the fields

-- the fields from a place on, by the test
pub fields-there : (l : List ℕ) (at : ℕ) → at ≤ length l → fields_from l at ≡ fields (drop at l)
unfolding fields_from
fields-there l at h = ap (λ (b : Bool). cond b (fields (drop at l)) []) (le-leb at (length l) h)

pub fields-none : (l : List ℕ) (at : ℕ) → length l < at → fields_from l at ≡ []
unfolding fields_from
fields-none l at h = ap (λ (b : Bool). cond b (fields (drop at l)) []) (lt-leb at (length l) h)

fields_cons : (b : ℕ) (l : List ℕ) (k : ℕ) → fields_from (b ∷ l) (suc k) ≡ fields_from l k
fields_cons b l k = elim (dec_le k (length l)) [
  | yes h ↦ fields-there (b ∷ l) (suc k) (omega arith) ∙ sym (fields-there l k h)
  | no h ↦ let z : length l < k = lt_of_not-le h in fields-none (b ∷ l) (suc k) (omega arith) ∙ sym (fields-none l k z)
]

-- the first field, and the fields behind its end
fields-first : (l : List ℕ) → fields l ≡ until_space l ∷ fields_from l (suc (length (until_space l)))
unfolding fields until_space
fields-first [] = ap (λ (ws : List (List ℕ)). [] ∷ ws) (sym (fields-none [] 1 (omega arith)))
fields-first (b ∷ l) = go (eqb b 32) (fields-first l)
  where
    go : (t : Bool) → fields l ≡ until_space l ∷ fields_from l (suc (length (until_space l)))
        → split t b (fields l) ≡ pick_bytes t [] (b ∷ until_space l) ∷ fields_from (b ∷ l) (suc (length (pick_bytes t [] (b ∷ until_space l))))
    go true e = unfold split in ap (λ (ws : List (List ℕ)). [] ∷ ws) (sym (fields_cons b l 0 ∙ fields-there l 0 (omega arith)))
    go false e = unfold split onto in ap (onto b) e ∙ ap (λ (ws : List (List ℕ)). (b ∷ until_space l) ∷ ws) (sym (fields_cons b l (suc (length (until_space l)))))

from-drop : (l : List ℕ) (at k : ℕ) → at ≤ length l → fields_from (drop at l) k ≡ fields_from l (at + k)
from-drop l zero k h = ap (fields_from l) (let z : k ≡ 0 + k = omega arith in z)
from-drop [] (suc at) k h = absurd (let z : suc at ≤ 0 = h in omega arith)
from-drop (b ∷ l) (suc at) k h = from-drop l at k (let z : suc at ≤ suc (length l) = h in omega arith) ∙ sym (fields_cons b l (at + k)) ∙ ap (fields_from (b ∷ l)) (let z : suc (at + k) ≡ suc at + k = omega arith in z)

until_take : (l : List ℕ) → take (length (until_space l)) l ≡ until_space l
unfolding until_space
until_take [] = refl
until_take (b ∷ l) = go (eqb b 32) (until_take l)
  where
    go : (t : Bool) → take (length (until_space l)) l ≡ until_space l → take (length (pick_bytes t [] (b ∷ until_space l))) (b ∷ l) ≡ pick_bytes t [] (b ∷ until_space l)
    go true e = refl
    go false e = ap (λ (w : List ℕ). b ∷ w) e

until_short : (l : List ℕ) → length (until_space l) ≤ length l
unfolding until_space
until_short [] = omega arith
until_short (b ∷ l) = go (eqb b 32) (until_short l)
  where
    go : (t : Bool) → length (until_space l) ≤ length l → length (pick_bytes t [] (b ∷ until_space l)) ≤ suc (length l)
    go true h = omega arith
    go false h = omega arith

module _ (l : List ℕ) (at : ℕ) (h : at ≤ length l) where
  -- the field at a place, and those behind it
  pub fields-part : fields_from l at ≡ take (space_from l at - at) (drop at l) ∷ fields_from l (space_from l at + 1)
  unfolding space_from
  fields-part =
      let n = length (until_space (drop at l)) in
      fields-there l at h ∙ fields-first (drop at l)
      ∙ ap₂ (λ (w : List ℕ) (ws : List (List ℕ)). w ∷ ws)
      (sym (ap (λ (k : ℕ). take k (drop at l)) (let z : at + n - at ≡ n = omega arith in z) ∙ until_take (drop at l)))
      (from-drop l at (suc n) h ∙ ap (fields_from l) (let z : at + suc n ≡ at + n + 1 = omega arith in z))

  pub space-fits : space_from l at ≤ length l
  unfolding space_from
  space-fits = omega (arith, until_short (drop at l), length-drop at l)

pub space-from : (l : List ℕ) (at : ℕ) → at ≤ space_from l at
unfolding space_from
space-from l at = omega arith
