-- Laws of hexadecimal digits: two of them, and four by two pairs.
use Rattle.base.specs.{ℕ, ◌+◌, ◌-◌, ◌*◌, ◌<◌, arith, ◌≡◌, refl, sym, ap, ◌∙◌, Bool, true, false, cond, ◌&&◌, Option, None, Some, List, []}
use Rattle.base.specs.{◌∷◌, leb, length, get_or, eq-eqb, ne_eqb, leb-true}
use Rattle.model.specs.{and_then, only, between, hex_digit, hex_from, hex_table}

pub digit-small : (b d : ℕ) → hex_digit b ≡ Some d → d < 16
unfolding hex_digit between
digit-small b d e = go (leb 48 b) (leb b 57) (leb 97 b) (leb b 102) refl refl refl refl e
  where
    go : (t u v w : Bool) → leb 48 b ≡ t → leb b 57 ≡ u → leb 97 b ≡ v → leb b 102 ≡ w
        → cond (t && u) (Some (b - 48)) (cond (v && w) (Some (b - 87)) None) ≡ Some d → d < 16
    go true true v w a f g h k = let q : b - 48 ≡ d = cc in omega (arith, leb-true b 57 f)
    go true false true true a f g h k = let q : b - 87 ≡ d = cc in omega (arith, leb-true b 102 h)
    go true false true false a f g h k = let z : ◌≡◌ {A = ℕ} 0 1 = cc in absurd (omega arith)
    go true false false w a f g h k = let z : ◌≡◌ {A = ℕ} 0 1 = cc in absurd (omega arith)
    go false u true true a f g h k = let q : b - 87 ≡ d = cc in omega (arith, leb-true b 102 h)
    go false u true false a f g h k = let z : ◌≡◌ {A = ℕ} 0 1 = cc in absurd (omega arith)
    go false u false w a f g h k = let z : ◌≡◌ {A = ℕ} 0 1 = cc in absurd (omega arith)

-- two digits, after a number
module _ (n a b : ℕ) where
  pub two : (h l : ℕ) → hex_digit a ≡ Some h → hex_digit b ≡ Some l → hex_from n (a ∷ b ∷ []) ≡ Some ((n * 16 + h) * 16 + l)
  unfolding hex_from and_then
  two h l e f = rw (e, f)

  pub two-first : hex_digit a ≡ None → hex_from n (a ∷ b ∷ []) ≡ None
  unfolding hex_from and_then
  two-first e = rw e

  pub two-second : (h : ℕ) → hex_digit a ≡ Some h → hex_digit b ≡ None → hex_from n (a ∷ b ∷ []) ≡ None
  unfolding hex_from and_then
  two-second h e f = rw (e, f)

pub pair_is : (a b h l : ℕ) → hex_digit a ≡ Some h → hex_digit b ≡ Some l → hex_from 0 (a ∷ b ∷ []) ≡ Some (h * 16 + l)
pair_is a b h l e f = two 0 a b h l e f ∙ ap Some (omega arith)

-- two digits and what they are, by their cases
pub data Pair (a b : ℕ) : Type 0 where
  both : (h l : ℕ) → hex_digit a ≡ Some h → hex_digit b ≡ Some l → Pair a b
  not_first : hex_digit a ≡ None → Pair a b
  not_second : (h : ℕ) → hex_digit a ≡ Some h → hex_digit b ≡ None → Pair a b

pair_of : (a b : ℕ) → Pair a b
pair_of a b = go (hex_digit a) (hex_digit b) refl refl
  where
    go : (o p : Option ℕ) → hex_digit a ≡ o → hex_digit b ≡ p → Pair a b
    go None p e f = not_first e
    go (Some h) None e f = not_second h e f
    go (Some h) (Some l) e f = both h l e f

pub pair_small : (a b n : ℕ) → hex_from 0 (a ∷ b ∷ []) ≡ Some n → n < 256
pair_small a b n e = go (pair_of a b)
  where
    go : Pair a b → n < 256
    go (both h l p q) =
        let r : Some (h * 16 + l) ≡ Some n = sym (pair_is a b h l p q) ∙ e in
        let k : h * 16 + l ≡ n = cc in
        omega (arith, digit-small a h p, digit-small b l q)
    go (not_first p) = let r = sym (two-first 0 a b p) ∙ e in let z : ◌≡◌ {A = ℕ} 0 1 = cc in absurd (omega arith)
    go (not_second h p q) = let r = sym (two-second 0 a b h p q) ∙ e in let z : ◌≡◌ {A = ℕ} 0 1 = cc in absurd (omega arith)

-- ---- four digits

four : (w : List ℕ) → length w ≡ 4 → w ≡ get_or w 0 0 ∷ get_or w 1 0 ∷ get_or w 2 0 ∷ get_or w 3 0 ∷ []
four (a ∷ b ∷ c ∷ d ∷ []) e = refl
four [] e = absurd (omega arith)
four (a ∷ []) e = absurd (omega arith)
four (a ∷ b ∷ []) e = absurd (omega arith)
four (a ∷ b ∷ c ∷ []) e = absurd (omega arith)
four (a ∷ b ∷ c ∷ d ∷ x ∷ w) e = absurd (omega arith)

-- the last two digits stand behind the first two
from-two : (n c d l : ℕ) → hex_from 0 (c ∷ d ∷ []) ≡ Some l → hex_from n (c ∷ d ∷ []) ≡ Some (n * 256 + l)
from-two n c d l e = go (pair_of c d)
  where
    go : Pair c d → hex_from n (c ∷ d ∷ []) ≡ Some (n * 256 + l)
    go (both h k p q) =
        let r : Some (h * 16 + k) ≡ Some l = sym (pair_is c d h k p q) ∙ e in
        let s : h * 16 + k ≡ l = cc in
        two n c d h k p q ∙ ap Some (omega arith)
    go (not_first p) = let r = sym (two-first 0 c d p) ∙ e in let z : ◌≡◌ {A = ℕ} 0 1 = cc in absurd (omega arith)
    go (not_second h p q) = let r = sym (two-second 0 c d h p q) ∙ e in let z : ◌≡◌ {A = ℕ} 0 1 = cc in absurd (omega arith)

from-none : (n c d : ℕ) → hex_from 0 (c ∷ d ∷ []) ≡ None → hex_from n (c ∷ d ∷ []) ≡ None
from-none n c d e = go (pair_of c d)
  where
    go : Pair c d → hex_from n (c ∷ d ∷ []) ≡ None
    go (both h k p q) = let r = sym (pair_is c d h k p q) ∙ e in let z : ◌≡◌ {A = ℕ} 0 1 = cc in absurd (omega arith)
    go (not_first p) = two-first n c d p
    go (not_second h p q) = two-second n c d h p q

two-more : (a b x y : ℕ) (w : List ℕ) → hex_digit a ≡ Some x → hex_digit b ≡ Some y → hex_from 0 (a ∷ b ∷ w) ≡ hex_from (x * 16 + y) w
unfolding hex_from and_then
two-more a b x y w p q = let e : (0 * 16 + x) * 16 + y ≡ x * 16 + y = omega arith in rw (p, q) (ap (λ (k : ℕ). hex_from k w) e)

first_two : (a b h : ℕ) (w : List ℕ) → hex_from 0 (a ∷ b ∷ []) ≡ Some h → hex_from 0 (a ∷ b ∷ w) ≡ hex_from h w
first_two a b h w e = go (pair_of a b)
  where
    go : Pair a b → hex_from 0 (a ∷ b ∷ w) ≡ hex_from h w
    go (both x y p q) =
        let r : Some (x * 16 + y) ≡ Some h = sym (pair_is a b x y p q) ∙ e in
        let s : x * 16 + y ≡ h = cc in
        two-more a b x y w p q ∙ ap (λ (k : ℕ). hex_from k w) s
    go (not_first p) = let r = sym (two-first 0 a b p) ∙ e in let z : ◌≡◌ {A = ℕ} 0 1 = cc in absurd (omega arith)
    go (not_second x p q) = let r = sym (two-second 0 a b x p q) ∙ e in let z : ◌≡◌ {A = ℕ} 0 1 = cc in absurd (omega arith)

first-none : (a b : ℕ) (w : List ℕ) → hex_from 0 (a ∷ b ∷ []) ≡ None → hex_from 0 (a ∷ b ∷ w) ≡ None
unfolding hex_from and_then
first-none a b w e = go (pair_of a b)
  where
    go : Pair a b → hex_from 0 (a ∷ b ∷ w) ≡ None
    go (both x y p q) = let r = sym (pair_is a b x y p q) ∙ e in let z : ◌≡◌ {A = ℕ} 0 1 = cc in absurd (omega arith)
    go (not_first p) = rw p
    go (not_second x p q) = rw (p, q)

-- a table's field
pub table-length : (w : List ℕ) → (length w ≡ 4 → ⊥) → hex_table w ≡ None
unfolding hex_table and_then only
table-length w ne = rw (ne_eqb (length w) 4 ne)

pub table_empty : hex_table [] ≡ None
table_empty = table-length [] (λ e. omega arith)

module _ (w : List ℕ) (long : length w ≡ 4) where
  table-from : hex_table w ≡ hex_from 0 (get_or w 0 0 ∷ get_or w 1 0 ∷ get_or w 2 0 ∷ get_or w 3 0 ∷ [])
  unfolding hex_table and_then only
  table-from = rw (eq-eqb (length w) 4 long) (ap (hex_from 0) (four w long))

  pub table_is : (h l : ℕ) → hex_from 0 (get_or w 0 0 ∷ get_or w 1 0 ∷ []) ≡ Some h → hex_from 0 (get_or w 2 0 ∷ get_or w 3 0 ∷ []) ≡ Some l → hex_table w ≡ Some (h * 256 + l)
  table_is h l e f = table-from ∙ first_two (get_or w 0 0) (get_or w 1 0) h (get_or w 2 0 ∷ get_or w 3 0 ∷ []) e ∙ from-two h (get_or w 2 0) (get_or w 3 0) l f

  pub table-first : hex_from 0 (get_or w 0 0 ∷ get_or w 1 0 ∷ []) ≡ None → hex_table w ≡ None
  table-first e = table-from ∙ first-none (get_or w 0 0) (get_or w 1 0) (get_or w 2 0 ∷ get_or w 3 0 ∷ []) e

  pub table-second : (h : ℕ) → hex_from 0 (get_or w 0 0 ∷ get_or w 1 0 ∷ []) ≡ Some h → hex_from 0 (get_or w 2 0 ∷ get_or w 3 0 ∷ []) ≡ None → hex_table w ≡ None
  table-second h e f = table-from ∙ first_two (get_or w 0 0) (get_or w 1 0) h (get_or w 2 0 ∷ get_or w 3 0 ∷ []) e ∙ from-none h (get_or w 2 0) (get_or w 3 0) f
