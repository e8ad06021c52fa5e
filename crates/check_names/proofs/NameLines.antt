-- A `.names` line, and an output's own name.
use Rattle.base.specs.{ℕ, suc, ◌+◌, ◌-◌, ◌≤◌, ◌<◌, arith, ◌≡◌, refl, sym, ◌∙◌, ap, ap₂, subst, Bool, true, false, cond, ◌&&◌, Option, None, Some}
use Rattle.base.specs.{List, [], ◌∷◌, tail-eq_of_cons-eq, eqb, leb, length, take, drop, get_or, length-take-le, le-leb, ne_eqb, eqb-true}
use Rattle.base.specs.{eqb-false}
use Rattle.model.specs.{same, only, text, decimal, as_digits, number, fields, out_name, Driver, is_net, name_driver}
use Rattle.theory_text.proofs.{decimal-value}
use Rattle.base_text.proofs.{same-eq, same_refl, not_same, and_right}
use Rattle.check_names.specs.{code, net_code, space_from, fields_from, two_words, name_code}
use Rattle.check_names.proofs.WordSplits.{fields-there, fields-part, fields-none, space-fits}

-- ---- an output's own name

pub out_empty : (w : List ℕ) (k : ℕ) → length w ≡ 0 → same w (out_name k) ≡ false
unfolding out_name same
out_empty [] k e = refl
out_empty (b ∷ w) k e = absurd (let z : suc (length w) ≡ 0 = e in omega arith)

pub out_letter : (w : List ℕ) (k : ℕ) → (length w ≡ 0 → ⊥) → (get_or w 0 0 ≡ 111 → ⊥) → same w (out_name k) ≡ false
unfolding out_name
out_letter [] k n e = absurd (n refl)
out_letter (b ∷ w) k n e = not_same (b ∷ w) (111 ∷ decimal k) (λ q. e (ap (λ (x : List ℕ). get_or x 0 0) q))

-- a number's bytes are those that it is written with
number-bytes : (v : List ℕ) (n : ℕ) → number v ≡ Some n → v ≡ decimal n
unfolding number only
number-bytes v n e = go (leb (as_digits 0 v) 65535 && same v (decimal (as_digits 0 v))) refl e
  where
    go : (t : Bool) → (leb (as_digits 0 v) 65535 && same v (decimal (as_digits 0 v))) ≡ t → only t (as_digits 0 v) ≡ Some n → v ≡ decimal n
    go true q f = let z : as_digits 0 v ≡ n = cc in same-eq v (decimal (as_digits 0 v)) (and_right (leb (as_digits 0 v) 65535) _ q) ∙ ap decimal z
    go false q f = absurd (let z : ◌≡◌ {A = ℕ} 0 1 = cc in omega arith)

number_is : (k : ℕ) → k ≤ 65535 → number (decimal k) ≡ Some k
unfolding number
number_is k h =
    ap (λ (n : ℕ). only (leb n 65535 && same (decimal k) (decimal n)) n) (decimal-value k)
    ∙ ap₂ (λ (a b : Bool). only (a && b) k) (le-leb k 65535 h) (same_refl (decimal k)) ∙ (unfold only in refl)

module _ (w : List ℕ) (k : ℕ) (ne : length w ≡ 0 → ⊥) (letter : get_or w 0 0 ≡ 111) where
  split : w ≡ 111 ∷ drop 1 w
  split = go w ne letter
    where
      go : (v : List ℕ) → (length v ≡ 0 → ⊥) → get_or v 0 0 ≡ 111 → v ≡ 111 ∷ drop 1 v
      go [] n e = absurd (n refl)
      go (b ∷ v) n e = ap (λ (x : ℕ). x ∷ v) e

  pub out_number : (n : ℕ) → number (drop 1 w) ≡ Some n → eqb n k ≡ same w (out_name k)
  unfolding out_name
  out_number n e = go (eqb n k) refl
    where
      is : w ≡ 111 ∷ decimal n
      is = split ∙ ap (λ (v : List ℕ). 111 ∷ v) (number-bytes (drop 1 w) n e)

      go : (t : Bool) → eqb n k ≡ t → t ≡ same w (out_name k)
      go true q = sym (ap (λ (v : List ℕ). same v (111 ∷ decimal k)) (is ∙ ap (λ (m : ℕ). 111 ∷ decimal m) (eqb-true n k q)) ∙ same_refl (111 ∷ decimal k))
      go false q = sym (not_same w (111 ∷ decimal k) (λ f. eqb-false n k q (sym (decimal-value n) ∙ ap (as_digits 0) (tail-eq_of_cons-eq (sym is ∙ f)) ∙ decimal-value k)))

  pub out_none : k ≤ 65535 → number (drop 1 w) ≡ None → same w (out_name k) ≡ false
  unfolding out_name
  out_none h e = not_same w (111 ∷ decimal k) (λ f.
      let q : number (decimal k) ≡ None = ap number (tail-eq_of_cons-eq (sym f ∙ split)) ∙ e in
      let r : number (decimal k) ≡ Some k = number_is k h in
      let z : ◌≡◌ {A = ℕ} 0 1 = cc in omega arith)

-- ---- two words

module _ (l : List ℕ) (at k : ℕ) where
  pub two_none : length l < at → two_words k (fields_from l at) ≡ None
  unfolding two_words
  two_none h = ap (two_words k) (fields-none l at h)

  module _ (h : at ≤ length l) (e : ℕ) (is-end : e ≡ space_from l at) where
    part : fields_from l at ≡ take (e - at) (drop at l) ∷ fields_from l (e + 1)
    part = subst (λ (x : ℕ). fields_from l at ≡ take (x - at) (drop at l) ∷ fields_from l (x + 1)) (sym is-end) (fields-part l at h)

    pub two-one : length l ≤ e → two_words k (fields_from l at) ≡ None
    unfolding two_words
    two-one q = ap (two_words k) (part ∙ ap (λ (ws : List (List ℕ)). take (e - at) (drop at l) ∷ ws) (fields-none l (e + 1) (omega arith)))

    module _ (q : e < length l) (f : ℕ) (is_last : f ≡ space_from l (e + 1)) where
      both : fields_from l at ≡ take (e - at) (drop at l) ∷ take (f - (e + 1)) (drop (e + 1) l) ∷ fields_from l (f + 1)
      both = part ∙ ap (λ (ws : List (List ℕ)). take (e - at) (drop at l) ∷ ws)
          (subst (λ (x : ℕ). fields_from l (e + 1) ≡ take (x - (e + 1)) (drop (e + 1) l) ∷ fields_from l (x + 1)) (sym is_last) (fields-part l (e + 1) (omega arith)))

      pub two-more : f < length l → two_words k (fields_from l at) ≡ None
      unfolding two_words
      two-more r = ap (two_words k) (both ∙ ap (λ (ws : List (List ℕ)). take (e - at) (drop at l) ∷ take (f - (e + 1)) (drop (e + 1) l) ∷ ws) (fields-part l (f + 1) (omega arith)))

      pub two_are : length l ≤ f → two_words k (fields_from l at) ≡ cond (same (take (f - (e + 1)) (drop (e + 1) l)) (out_name k)) (net_code (take (e - at) (drop at l))) None
      unfolding two_words
      two_are r = ap (two_words k) (both ∙ ap (λ (ws : List (List ℕ)). take (e - at) (drop at l) ∷ take (f - (e + 1)) (drop (e + 1) l) ∷ ws) (fields-none l (f + 1) (omega arith)))

-- ---- the line

first_field : (l : List ℕ) (e : ℕ) → e ≡ space_from l 0 → fields l ≡ take e l ∷ fields_from l (e + 1)
first_field l e is = sym (fields-there l 0 (omega arith)) ∙ fields-part l 0 (omega arith)
    ∙ ap₂ (λ (n m : ℕ). take n l ∷ fields_from l (m + 1)) (let z : space_from l 0 - 0 ≡ e = omega arith in z) (sym is)

pub first-is : (l : List ℕ) (e : ℕ) → e ≡ space_from l 0 → get_or (fields l) 0 [] ≡ take e l
first-is l e is = ap (λ (ws : List (List ℕ)). get_or ws 0 []) (first_field l e is)

name_of-fields : ℕ → List (List ℕ) → Option Driver
name_of-fields k ws =
    only (true && (eqb (length ws) 3 && (same (get_or ws 0 []) (text ".names") && (is_net (get_or ws 1 []) && same (get_or ws 2 []) (out_name k)))))
    (record { offset = 0; table = 2; uses = get_or ws 1 [] ∷ []; net = out_name k })

name-fields : (k : ℕ) (l : List ℕ) → name_driver k (record { offset = 0; bytes = l; ending = 1 }) ≡ name_of-fields k (fields l)
unfolding name_driver name_of-fields
name-fields k l = refl

-- the line of a first word and others
words-code : (k : ℕ) (w : List ℕ) (ws : List (List ℕ)) → name_code (name_of-fields k (w ∷ ws)) ≡ cond (same w (text ".names")) (two_words k ws) None
unfolding name_of-fields two_words net_code only
words-code k w [] = go (same w (text ".names"))
  where
    go : (t : Bool) → None ≡ cond {A = Option ℕ} t None None
    go true = refl
    go false = refl
words-code k w (a ∷ []) = go (same w (text ".names"))
  where
    go : (t : Bool) → None ≡ cond {A = Option ℕ} t None None
    go true = refl
    go false = refl
words-code k w (a ∷ b ∷ []) = go (same w (text ".names")) (is_net a) (same b (out_name k))
  where
    go : (t n s : Bool) → name_code (only (true && (true && (t && (n && s)))) (record { offset = 0; table = 2; uses = a ∷ []; net = out_name k })) ≡ cond t (cond s (only n (code a)) None) None
    go true true true = refl
    go true true false = refl
    go true false true = refl
    go true false false = refl
    go false n s = refl
words-code k w (a ∷ b ∷ c ∷ cs) = ap (λ (t : Bool). name_code (only (true && (t && (same w (text ".names") && (is_net a && same b (out_name k))))) (record { offset = 0; table = 2; uses = a ∷ []; net = out_name k }))) long ∙ go (same w (text ".names"))
  where
    long : eqb (suc (suc (suc (suc (length cs))))) 3 ≡ false
    long = ne_eqb (suc (suc (suc (suc (length cs))))) 3 (λ e. omega arith)

    go : (t : Bool) → None ≡ cond {A = Option ℕ} t None None
    go true = refl
    go false = refl

pub line_code : (l : List ℕ) (k e : ℕ) → e ≡ space_from l 0
    → name_code (name_driver k (record { offset = 0; bytes = l; ending = 1 })) ≡ cond (same (take e l) (text ".names")) (two_words k (fields_from l (e + 1))) None
line_code l k e is = ap name_code (name-fields k l ∙ ap (name_of-fields k) (first_field l e is)) ∙ words-code k (take e l) (fields_from l (e + 1))

-- a gate's line has the keyword's five bytes
pub gate-long : (l : List ℕ) → same (get_or (fields l) 0 []) (text ".gate") ≡ true → 5 ≤ length l
unfolding text
gate-long l e =
    let q : take (space_from l 0) l ≡ text ".gate" = sym (first-is l (space_from l 0) refl) ∙ same-eq (get_or (fields l) 0 []) (text ".gate") e in
    let n : length (take (space_from l 0) l) ≡ space_from l 0 = length-take-le (space_from l 0) l (space-fits l 0 (omega arith)) in
    let m : length (take (space_from l 0) l) ≡ 5 = ap length q in
    omega (arith, space-fits l 0 (omega arith))
