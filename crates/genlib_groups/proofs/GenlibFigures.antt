-- Laws of figures, by where their digits end.
use Rattle.base.specs.{ℕ, zero, suc, ◌+◌, ◌-◌, ◌*◌, ◌≤◌, ◌<◌, min, zero-add, add-one, arith, ◌≡◌, refl, sym, ap, subst, ◌∙◌, Bool, true}
use Rattle.base.specs.{false, not, Option, None, Some, List, [], ◌∷◌, ◌++◌, eqb, leb, ltb, length, take, drop, get_or, replicate, drop_of_length-le, length-drop, eqb-true, eqb-false, ◌&&◌}
use Rattle.base.specs.{drop-cons, drop-drop, get_or-drop, take-suc, eq-eqb, ne_eqb, le-leb, lt-leb, leb-true, ltb-true, ltb-false}
use Rattle.std.proofs.Common.{Result, Ok, Err, OkIff}
use Rattle.std.specs.Result.{result_ok}
use Rattle.std.proofs.lemmas.List.{get_or_past}
use Rattle.model.specs.{all, only, as_digits, between, is_digit, is_digits, is_empty, is_figure, is_fraction, wholes, decimals, in_thousandths}
use Rattle.model.specs.{thousandths, span}
use Rattle.base_text.proofs.{and_left, and_right}
use Rattle.base_text.specs.{span_end}
use Rattle.base_text.proofs.{class_all, class_take, class_passes, class_short}

pub digits-past : (w : List ℕ) (from : ℕ) → length w ≤ from → is_digits (drop from w) ≡ false
unfolding is_digits is_empty
digits-past w from h = rw (drop_of_length-le w h)

-- digits up to the end
pub digits_from_lem : (w : List ℕ) (from : ℕ) → from < length w → is_digits (drop from w) ≡ eqb (span_end is_digit w from) (length w)
unfolding is_digits is_empty span_end
digits_from_lem w from h = some_digits ∙ class_all is_digit (drop from w) ∙ go (eqb (length (span is_digit (drop from w))) (length (drop from w))) refl
  where
    some_digits : (not (is_empty (drop from w)) && all is_digit (drop from w)) ≡ all is_digit (drop from w)
    some_digits = rw (drop-cons w from 0 h)

    n : length (drop from w) ≡ length w - from
    n = length-drop from w

    go : (t : Bool) → eqb (length (span is_digit (drop from w))) (length (drop from w)) ≡ t → t ≡ eqb (from + length (span is_digit (drop from w))) (length w)
    go true e = sym (eq-eqb (from + length (span is_digit (drop from w))) (length w) (omega (arith, n, eqb-true (length (span is_digit (drop from w))) (length (drop from w)) e)))
    go false e = sym (ne_eqb (from + length (span is_digit (drop from w))) (length w) (λ z. eqb-false (length (span is_digit (drop from w))) (length (drop from w)) e (omega (arith, n))))

-- the digits before the point end where all digits from the start do
pub wholes-end : (w : List ℕ) → span_end is_digit w 0 ≡ length (wholes w)
unfolding span_end wholes
wholes-end w = zero-add (length (span is_digit w))

empty-none : (w : List ℕ) → length w ≡ 0 → is_empty w ≡ true
unfolding is_empty
empty-none [] e = refl
empty-none (b ∷ w) e = absurd (omega arith)

empty-some : (w : List ℕ) → (length w ≡ 0 → ⊥) → is_empty w ≡ false
unfolding is_empty
empty-some [] ne = absurd (ne refl)
empty-some (b ∷ w) ne = refl

module _ (w : List ℕ) (end : ℕ) (e : end ≡ span_end is_digit w 0) where
  ends : length (wholes w) ≡ end
  ends = sym (e ∙ wholes-end w)

  pub figure-none : end ≡ 0 → is_figure w ≡ false
  unfolding is_figure
  figure-none z = rw (empty-none (wholes w) (ends ∙ z))

  module _ (ne : end ≡ 0 → ⊥) where
    behind : is_figure w ≡ is_fraction (drop end w)
    unfolding is_figure
    behind = rw (empty-some (wholes w) (λ z. ne (sym ends ∙ z)), ends)

    pub figure-whole : length w ≤ end → is_figure w ≡ true
    unfolding is_fraction
    figure-whole h = behind ∙ rw (drop_of_length-le w h)

    module _ (h : end < length w) where
      pub figure_other : (get_or w end 0 ≡ 46 → ⊥) → is_figure w ≡ false
      unfolding is_fraction
      figure_other o = behind ∙ rw (drop-cons w end 0 h, ne_eqb (get_or w end 0) 46 o)

      pub figure_point : get_or w end 0 ≡ 46 → is_figure w ≡ is_digits (drop (end + 1) w)
      unfolding is_fraction
      figure_point o = behind ∙ rw (drop-cons w end 0 h, eq-eqb (get_or w end 0) 46 o, add-one end)

-- ---- digits read as a number

digits_snoc : (n : ℕ) (l : List ℕ) (b : ℕ) → as_digits n (l ++ (b ∷ [])) ≡ as_digits n l * 10 + (b - 48)
unfolding as_digits
digits_snoc n [] b = refl
digits_snoc n (x ∷ l) b = digits_snoc (n * 10 + (x - 48)) l b

-- beyond 65,535 all numbers are one
cap : (a d : ℕ) → min 65536 (min 65536 a * 10 + d) ≡ min 65536 (a * 10 + d)
cap a d = omega arith

pub cap_digit : (n : ℕ) (l : List ℕ) (b m : ℕ) → m ≡ min 65536 (as_digits n l) → min 65536 (m * 10 + (b - 48)) ≡ min 65536 (as_digits n (l ++ (b ∷ [])))
cap_digit n l b m e = ap (λ (x : ℕ). min 65536 (x * 10 + (b - 48))) e ∙ cap (as_digits n l) (b - 48) ∙ ap (min 65536) (sym (digits_snoc n l b))

pub take_more : (w : List ℕ) (i : ℕ) → i < length w → take (i + 1) w ≡ take i w ++ (get_or w i 0 ∷ [])
take_more w i h = rw (add-one i) (take-suc w i 0 h)

pub digit_bounds : (b : ℕ) → is_digit b ≡ true → (48 ≤ b) × (b ≤ 57)
unfolding is_digit between
digit_bounds b e = (leb-true 48 b (and_left (leb 48 b) (leb b 57) e), leb-true b 57 (and_right (leb 48 b) (leb b 57) e))

-- each of the bytes that pass
pub all-at : (p : ℕ → Bool) (w : List ℕ) (i : ℕ) (d : ℕ) → all p w ≡ true → i < length w → p (get_or w i d) ≡ true
unfolding all
all-at p [] i d e h = absurd (omega arith)
all-at p (b ∷ w) zero d e h = and_left (p b) (all p w) e
all-at p (b ∷ w) (suc i) d e h = all-at p w i d (and_right (p b) (all p w) e) (omega arith)

-- ---- a figure's decimals

take-three : (ds : List ℕ) → take 3 (ds ++ replicate 3 48) ≡ get_or ds 0 48 ∷ get_or ds 1 48 ∷ get_or ds 2 48 ∷ []
take-three [] = refl
take-three (a ∷ []) = refl
take-three (a ∷ b ∷ []) = refl
take-three (a ∷ b ∷ c ∷ ds) = refl

digits_byte : (ds : List ℕ) → is_digits ds ≡ true → (k : ℕ) → (48 ≤ get_or ds k 48) × (get_or ds k 48 ≤ 57)
unfolding is_digits
digits_byte ds e k = go (ltb k (length ds)) refl
  where
    go : (q : Bool) → ltb k (length ds) ≡ q → (48 ≤ get_or ds k 48) × (get_or ds k 48 ≤ 57)
    go true p = digit_bounds (get_or ds k 48) (all-at is_digit ds k 48 (and_right (not (is_empty ds)) (all is_digit ds) e) (ltb-true k (length ds) p))
    go false p = let z = get_or_past ds k 48 (ltb-false k (length ds) p) in (omega arith, omega arith)

fraction_byte : (r : List ℕ) → is_fraction r ≡ true → (k : ℕ) → (48 ≤ get_or (drop 1 r) k 48) × (get_or (drop 1 r) k 48 ≤ 57)
unfolding is_fraction
fraction_byte [] e k = let z = get_or_past {X = ℕ} [] k 48 (omega arith) in (omega arith, omega arith)
fraction_byte (b ∷ bs) e k = digits_byte bs (and_right (eqb b 46) (is_digits bs) e) k

module _ (w : List ℕ) (end : ℕ) (e : end ≡ span_end is_digit w 0) where
  pub whole_is : (end ≤ length w) × (take end w ≡ wholes w) × (all is_digit (take end w) ≡ true)
  unfolding wholes
  whole_is =
      let n : end ≡ length (wholes w) = e ∙ wholes-end w in
      let t : take end w ≡ wholes w = ap (λ (k : ℕ). take k w) n ∙ class_take is_digit w in
      (omega (arith, n, class_short is_digit w), t, ap (all is_digit) t ∙ class_passes is_digit w)

  pub decimals_are : decimals w ≡ drop (end + 1) w
  unfolding decimals
  decimals_are = let n : suc (length (wholes w)) ≡ end + 1 = omega (arith, e, wholes-end w) in ap (λ (k : ℕ). drop k w) n

  -- three decimals, 0 where none stands
  pub three : in_thousandths w ≡ as_digits 0 (take end w ++ (get_or w (end + 1) 48 ∷ get_or w (end + 2) 48 ∷ get_or w (end + 3) 48 ∷ []))
  unfolding in_thousandths
  three =
      ap (λ (x : List ℕ). as_digits 0 (x ++ take 3 (decimals w ++ replicate 3 48))) (sym whole_is.1)
      ∙ ap (λ (x : List ℕ). as_digits 0 (take end w ++ x)) (ap (λ (ds : List ℕ). take 3 (ds ++ replicate 3 48)) decimals_are ∙ take-three (drop (end + 1) w) ∙ places)
    where
      at0 : get_or (drop (end + 1) w) 0 48 ≡ get_or w (end + 1) 48
      at0 = let n : end + 1 + 0 ≡ end + 1 = omega arith in get_or-drop (end + 1) w 0 48 ∙ ap (λ (k : ℕ). get_or w k 48) n

      at1 : get_or (drop (end + 1) w) 1 48 ≡ get_or w (end + 2) 48
      at1 = let n : end + 1 + 1 ≡ end + 2 = omega arith in get_or-drop (end + 1) w 1 48 ∙ ap (λ (k : ℕ). get_or w k 48) n

      at2 : get_or (drop (end + 1) w) 2 48 ≡ get_or w (end + 3) 48
      at2 = let n : end + 1 + 2 ≡ end + 3 = omega arith in get_or-drop (end + 1) w 2 48 ∙ ap (λ (k : ℕ). get_or w k 48) n

      places : get_or (drop (end + 1) w) 0 48 ∷ get_or (drop (end + 1) w) 1 48 ∷ get_or (drop (end + 1) w) 2 48 ∷ [] ≡ get_or w (end + 1) 48 ∷ get_or w (end + 2) 48 ∷ get_or w (end + 3) 48 ∷ []
      places = cc (at0, at1, at2)

  pub decimal_byte : is_figure w ≡ true → (k j : ℕ) → j ≡ end + 1 + k → (48 ≤ get_or w j 48) × (get_or w j 48 ≤ 57)
  unfolding is_figure
  decimal_byte f k j i =
      let n : end ≡ length (wholes w) = e ∙ wholes-end w in
      let r : is_fraction (drop end w) ≡ true = ap (λ (m : ℕ). is_fraction (drop m w)) n ∙ and_right (not (is_empty (wholes w))) _ f in
      let g : get_or (drop 1 (drop end w)) k 48 ≡ get_or w j 48 = ap (λ (x : List ℕ). get_or x k 48) (drop-drop 1 end w) ∙ get_or-drop (end + 1) w k 48 ∙ ap (λ (m : ℕ). get_or w m 48) (sym i) in
      subst (λ (x : ℕ). (48 ≤ x) × (x ≤ 57)) g (fraction_byte (drop end w) r k)

  pub figure-broken : is_figure w ≡ false → None ≡ thousandths w
  unfolding thousandths only
  figure-broken f = rw f

  module _ (f : is_figure w ≡ true) where
    pub figure-long : end + 4 < length w → None ≡ thousandths w
    unfolding thousandths only
    figure-long h = rw (f, lt-leb (length (decimals w)) 3 (omega (arith, ap length decimals_are, length-drop (end + 1) w)))

    module _ (h : length w ≤ end + 4) (n : ℕ) (m : n ≡ min 65536 (in_thousandths w)) where
      short : leb (length (decimals w)) 3 ≡ true
      short = le-leb (length (decimals w)) 3 (omega (arith, ap length decimals_are, length-drop (end + 1) w))

      figure-fits : n ≤ 65535 → Some n ≡ thousandths w
      unfolding thousandths only
      figure-fits k =
          let z : in_thousandths w ≡ n = omega arith in
          rw (f, short, le-leb (in_thousandths w) 65535 (omega arith)) (ap {B = Option ℕ} Some (sym z))

      figure_large : 65535 < n → None ≡ thousandths w
      unfolding thousandths only
      figure_large k = rw (f, short, lt-leb (in_thousandths w) 65535 (omega arith))

      -- the number as a 16-bit one
      pub figure-ok : {E : Type 0} (r : Result ℕ E) → OkIff r (n < 65536) n → result_ok r ≡ thousandths w
      figure-ok (Ok x) k = ap Some k.1 ∙ figure-fits (omega (arith, k.0))
      figure-ok (Err x) k = figure_large (omega (arith, k))
