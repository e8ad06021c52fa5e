-- Laws of the list of pins.
use Rattle.base.specs.{ℕ, zero, suc, ◌+◌, ◌-◌, ◌≤◌, ◌<◌, add-zero, add-one, arith, ◌≡◌, refl, sym, ap, ◌∙◌, Bool, true, false, cond, ◌||◌}
use Rattle.base.specs.{List, [], ◌∷◌, ◌++◌, map, map-append, ltb, length, drop, get_or, length-map, length-append, get_or-set_same}
use Rattle.base.specs.{get_or-set_other, lt-ltb, le-ltb, ltb-true, ltb-false}
use Rattle.model.specs.{from, below, any, same, is_word, is_word_byte, span, is_pin, with_name, add_pins, index_of}
use Rattle.base_text.proofs.{and_left}
use Rattle.genlib_expression.specs.declared.Token.{Token}
use Rattle.genlib_expression.specs.declared.Pins.{Pins}
use Rattle.genlib_expression.specs.{token_at, rest_at, part, pick_l, parts_at, name_at, names_at, pushed, add_pin, pins_from}
use Rattle.genlib_expression.proofs.ExpressionWalk.{Step}

ltb-suc : (m n : ℕ) → ltb (suc m) (suc n) ≡ ltb m n
ltb-suc m n = go (ltb m n) refl
  where
    go : (t : Bool) → ltb m n ≡ t → ltb (suc m) (suc n) ≡ t
    go true p = let h = ltb-true m n p in lt-ltb (suc m) (suc n) (omega arith)
    go false p = let h = ltb-false m n p in le-ltb (suc m) (suc n) (omega arith)

length_from : (i n : ℕ) → length (from i n) ≡ n
unfolding from
length_from i zero = refl
length_from i (suc n) = ap suc (length_from (suc i) n)

pub length-names : (w : List ℕ) (p : Pins) → length (names_at w p) ≡ p.n
unfolding names_at below
length-names w p = length-map (from 0 p.n) (name_at w p) ∙ length_from 0 p.n

-- a name is listed just where its place is below the list's length
any-index : (t : List ℕ) (us : List (List ℕ)) → any (same t) us ≡ ltb (index_of t us) (length us)
unfolding any index_of
any-index t [] = refl
any-index t (u ∷ us) = go (same t u) (any-index t us)
  where
    go : (q : Bool) → any (same t) us ≡ ltb (index_of t us) (length us) → (q || any (same t) us) ≡ ltb (cond q 0 (suc (index_of t us))) (suc (length us))
    go true e = sym (lt-ltb 0 (suc (length us)) (omega arith))
    go false e = e ∙ sym (ltb-suc (index_of t us) (length us))

module _ (w : List ℕ) (p : Pins) (t : List ℕ) (i : ℕ) (e : i ≡ index_of t (names_at w p)) where
  pub with_known : i < p.n → with_name (names_at w p) t ≡ names_at w p
  unfolding with_name
  with_known h = rw (any-index t (names_at w p), lt-ltb (index_of t (names_at w p)) (length (names_at w p)) (omega (arith, length-names w p)))

  pub with_new : p.n ≤ i → with_name (names_at w p) t ≡ names_at w p ++ (t ∷ [])
  unfolding with_name
  with_new h = rw (any-index t (names_at w p), le-ltb (index_of t (names_at w p)) (length (names_at w p)) (omega (arith, length-names w p)))

from_snoc : (i n : ℕ) → from i (suc n) ≡ from i n ++ ((i + n) ∷ [])
unfolding from
from_snoc i zero = ap (λ (k : ℕ). k ∷ []) (sym (add-zero i))
from_snoc i (suc n) = let e : suc i + n ≡ i + suc n = omega arith in ap (λ (l : List ℕ). i ∷ l) (from_snoc (suc i) n ∙ ap (λ (k : ℕ). from (suc i) n ++ (k ∷ [])) e)

map_same : (f g : ℕ → List ℕ) (i n : ℕ) → ((j : ℕ) → j < i + n → f j ≡ g j) → map f (from i n) ≡ map g (from i n)
unfolding from
map_same f g i zero h = refl
map_same f g i (suc n) h =
    let a : f i ≡ g i = h i (omega arith) in
    let b = map_same f g (suc i) n (λ j k. h j (omega arith)) in
    cc

-- one pin more
pub names-pushed : (w : List ℕ) (p : Pins) (at : ℕ) → p.n < 4 → length p.at ≡ 4 → names_at w (pushed p at) ≡ names_at w p ++ (span is_word_byte (drop at w) ∷ [])
unfolding names_at below
names-pushed w p at h l =
    let q = pushed p at in
    let here : name_at w q p.n ≡ span is_word_byte (drop at w) = ap (λ (a : ℕ). span is_word_byte (drop a w)) (get_or-set_same p.at p.n at 0 (omega arith)) in
    let before : map (name_at w q) (from 0 p.n) ≡ map (name_at w p) (from 0 p.n) =
    map_same (name_at w q) (name_at w p) 0 p.n (λ j k. ap (λ (a : ℕ). span is_word_byte (drop a w)) (get_or-set_other p.at p.n j at 0 (λ z. omega arith))) in
    let z : 0 + p.n ≡ p.n = omega arith in
    ap (λ (n : ℕ). map (name_at w q) (from 0 n)) (add-one p.n)
    ∙ ap (map (name_at w q)) (from_snoc 0 p.n)
    ∙ map-append (name_at w q) (from 0 p.n) ((0 + p.n) ∷ [])
    ∙ rw (before, z, here)

-- ---- tokens

pub pin-word : (t : List ℕ) → is_pin t ≡ true → is_word t ≡ true
unfolding is_pin
pin-word t e = and_left (is_word t) _ e

module _ (w : List ℕ) (t : Token) (names : List (List ℕ)) where
  pub add-one-pin : t.from < t.to → is_pin (part w t.from t.to) ≡ true → add_pins names (parts_at w t) ≡ with_name names (part w t.from t.to)
  unfolding add_pins parts_at
  add-one-pin h e = rw (lt-ltb t.from t.to h, e)

  pub add_no_pin : t.from < t.to → is_pin (part w t.from t.to) ≡ false → add_pins names (parts_at w t) ≡ names
  unfolding add_pins parts_at
  add_no_pin h e = rw (lt-ltb t.from t.to h, e)

  pub add_none : t.to ≤ t.from → add_pins names (parts_at w t) ≡ names
  unfolding add_pins parts_at
  add_none h = rw (le-ltb t.from t.to h)

  pub add-negated_by_signs : (at : ℕ) → Step w at t → add_pins names (rest_at w at) ≡ add_pins (add_pins names (parts_at w t)) (rest_at w t.to)
  unfolding add_pins parts_at
  add-negated_by_signs at k = go (ltb t.from t.to) refl
    where
      go : (q : Bool) → ltb t.from t.to ≡ q → add_pins names (rest_at w at) ≡ add_pins (add_pins names (pick_l q (part w t.from t.to ∷ []) [])) (rest_at w t.to)
      go true p = ap (add_pins names) (k.one (ltb-true t.from t.to p))
      go false p = let n = k.none (ltb-false t.from t.to p) in ap (add_pins names) (n.0 ∙ sym n.1)

-- the list only grows
with_grows : (names : List (List ℕ)) (t : List ℕ) → length names ≤ length (with_name names t)
unfolding with_name
with_grows names t = go (any (same t) names)
  where
    go : (q : Bool) → length names ≤ length (cond q names (names ++ (t ∷ [])))
    go true = omega arith
    go false = omega (arith, length-append names (t ∷ []))

pub add_grows : (names ts : List (List ℕ)) → length names ≤ length (add_pins names ts)
unfolding add_pins
add_grows names [] = omega arith
add_grows names (t ∷ ts) = go (is_pin t) (with_grows names t) (add_grows (cond (is_pin t) (with_name names t) names) ts)
  where
    go : (q : Bool) → length names ≤ length (with_name names t) → length (cond (is_pin t) (with_name names t) names) ≤ length (add_pins (cond (is_pin t) (with_name names t) names) ts)
        → length names ≤ length (add_pins (cond (is_pin t) (with_name names t) names) ts)
    go q h k = omega (arith, step (is_pin t))
      where
        step : (r : Bool) → length names ≤ length (cond r (with_name names t) names)
        step true = h
        step false = omega arith

-- the name of a pin
map_at : (f : ℕ → List ℕ) (i n j : ℕ) → j < n → get_or (map f (from i n)) j [] ≡ f (i + j)
unfolding from
map_at f i zero j h = absurd (omega arith)
map_at f i (suc n) zero h = ap f (sym (add-zero i))
map_at f i (suc n) (suc j) h = let e : suc i + j ≡ i + suc j = omega arith in map_at f (suc i) n j (omega arith) ∙ ap f e

pub name_of_lem : (w : List ℕ) (p : Pins) (j : ℕ) → j < p.n → get_or (names_at w p) j [] ≡ name_at w p j
unfolding names_at below
name_of_lem w p j h = let e : 0 + j ≡ j = omega arith in map_at (name_at w p) 0 p.n j h ∙ ap (name_at w p) e

-- ---- the list by places

-- behind the line's end nothing is added
pub pins-end : (f : ℕ) (w : List ℕ) (p : Pins) (at : ℕ) → length w ≤ at → p ≡ pins_from f w p at
unfolding pins_from
pins-end zero w p at h = refl
pins-end (suc f) w p at h = sym (rw (le-ltb at (length w) h))

-- a token more: a fifth pin ends the list, else it goes on behind the token
abbrev pub PinsOn : List ℕ → Pins → ℕ → Pins → Type 0
PinsOn w p at r = (f : ℕ) × (length w - at ≤ f) × (r ≡ pins_from f w p at)

module _ (w : List ℕ) (p : Pins) (at : ℕ) (h : at < length w) (t : Token) (is : t ≡ token_at w at) (q : Pins) (e : q ≡ add_pin w p t) (r : Pins) where
  next : (f : ℕ) → pins_from (suc f) w p at ≡ cond (ltb 4 q.n) q (pins_from f w q t.to)
  unfolding pins_from
  next f =
      ap (λ (b : Bool). cond b (let x = add_pin w p (token_at w at) in cond (ltb 4 x.n) x (pins_from f w x (token_at w at).to)) p) (lt-ltb at (length w) h)
      ∙ ap (λ (u : Token). let x = add_pin w p u in cond (ltb 4 x.n) x (pins_from f w x u.to)) (sym is)
      ∙ ap (λ (x : Pins). cond (ltb 4 x.n) x (pins_from f w x t.to)) (sym e)

  pub pins_fifth : 4 < q.n → PinsOn w p at r → q ≡ r
  pins_fifth l (zero, m, s) = absurd (omega arith)
  pins_fifth l (suc f, m, s) = sym (s ∙ next f ∙ ap (λ (b : Bool). cond b q (pins_from f w q t.to)) (lt-ltb 4 q.n l))

  pub pins-on : q.n ≤ 4 → at < t.to → PinsOn w p at r → PinsOn w q t.to r
  pins-on l later (zero, m, s) = absurd (omega arith)
  pins-on l later (suc f, m, s) = (f, omega arith, s ∙ next f ∙ ap (λ (b : Bool). cond b q (pins_from f w q t.to)) (le-ltb 4 q.n l))
