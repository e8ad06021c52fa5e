-- Laws of names, by what the reader met in a field.
use Rattle.base.specs.{ℕ, zero, suc, ◌-◌, ◌≤◌, ◌<◌, zero-add, arith, ◌≡◌, refl, ap, ◌∙◌, true, false, ◌&&◌, List, [], ◌∷◌, leb, length}
use Rattle.base.specs.{take, get_or, drop, replicate, take-append_seam, leb-true, le-leb, lt-leb}
use Rattle.model.specs.{all, is_letter, is_name_byte, is_name, name_bytes}
use Rattle.base_words.specs.{put_at, zeros}
use Rattle.base_text.proofs.Bytes.{and-false, and-true, and_right}

pub name-empty : (w : List ℕ) → length w ≡ 0 → is_name w ≡ false
unfolding is_name
name-empty [] e = refl
name-empty (b ∷ w) e = absurd (omega arith)

pub name-long : (w : List ℕ) → 8 < length w → is_name w ≡ false
unfolding is_name
name-long [] h = refl
name-long (b ∷ w) h = let l : 7 < length w = omega arith in rw (lt-leb (length w) 7 l, and-false, and-false)

pub name-first : (w : List ℕ) → is_letter (get_or w 0 0) ≡ false → is_name w ≡ false
unfolding is_name
name-first [] e = refl
name-first (b ∷ w) e = rw e

pub name-rest : (w : List ℕ) → (length w ≡ 0 → ⊥) → length w ≤ 8 → is_letter (get_or w 0 0) ≡ true → is_name w ≡ all is_name_byte (drop 1 w)
unfolding is_name
name-rest [] ne h e = absurd (ne refl)
name-rest (b ∷ w) ne h e = let l : length w ≤ 7 = omega arith in rw (e, le-leb (length w) 7 l, and-true)

-- a name has at most eight bytes
pub name-fits : (w : List ℕ) → is_name w ≡ true → length w ≤ 8
unfolding is_name
name-fits [] e = omega arith
name-fits (b ∷ w) e =
    let t : leb (length w) 7 ≡ true = and_right (all is_name_byte w) (leb (length w) 7) (and_right (is_letter b) (all is_name_byte w && leb (length w) 7) e) in
    omega (arith, leb-true (length w) 7 t)

-- ---- a name in eight bytes

drop-zeros : (k n : ℕ) → drop k (zeros n) ≡ zeros (n - k)
drop-zeros zero n = let e : n ≡ n - 0 = omega arith in ap zeros e
drop-zeros (suc k) zero = let e : 0 ≡ 0 - suc k = omega arith in ap zeros e
drop-zeros (suc k) (suc n) = let e : n - k ≡ suc n - suc k = omega arith in drop-zeros k n ∙ ap zeros e

pub name-put : (w : List ℕ) → put_at (zeros 8) 0 w ≡ name_bytes w
unfolding put_at name_bytes
name-put w = rw (zero-add (length w), drop-zeros (length w) 8)

-- its bytes without the zeros
pub name_taken : (w : List ℕ) → take (length w) (name_bytes w) ≡ w
unfolding name_bytes
name_taken w = take-append_seam w (replicate (8 - length w) 0)
