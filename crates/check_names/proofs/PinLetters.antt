-- A word `A=net` by its bytes, and the words of a gate's line one by one.
use Rattle.base.specs.{ℕ, zero, suc, ◌+◌, ◌-◌, ◌*◌, ◌≤◌, ◌<◌, arith, ◌≡◌, refl, sym, ◌∙◌, ap, ap₂, subst, dec_le, lt_of_not-le, Bool, true}
use Rattle.base.specs.{false, true≢false, cond, ◌&&◌, ◌||◌, Option, None, Some, List, [], ◌∷◌, eqb, leb, length, take, drop, get_or, length-drop}
use Rattle.base.specs.{take_all, yes_eqb, no_eqb}
use Rattle.model.specs.{all, and_then, only, between, is_letter, is_net, pin_net, bound_nets}
use Rattle.theory_graph.proofs.{is_true, is_false}
use Rattle.base_text.proofs.{and_left, and_right}
use Rattle.check_names.proofs.WordSplits.{fields-none, fields-part}
use Rattle.check_names.specs.{is_net_byte, code, net_code, space_from, fields_from, opt_code, pin_of, pin_with, pin_at}
use Rattle.check_names.specs.declared.Pin.{Pin}

-- all that is left of a list
pub rest_all : (n : ℕ) (w : List ℕ) → take (length w - n) (drop n w) ≡ drop n w
rest_all n w = take_all (length w - n) (drop n w) (omega (arith, length-drop n w))

-- ---- a word

only_code : (t : Bool) (w : List ℕ) → opt_code (only (t && is_net w) w) ≡ cond t (net_code w) None
unfolding only net_code
only_code false w = refl
only_code true w = go (is_net w)
  where
    go : (b : Bool) → opt_code (only b w) ≡ only b (code w)
    go true = refl
    go false = refl

and_assoc : (a b c : Bool) → (a && (b && c)) ≡ ((a && b) && c)
and_assoc true b c = refl
and_assoc false b c = refl

module _ (b : ℕ) where
  word-code : (c e : ℕ) (w : List ℕ) → opt_code (pin_net b (c ∷ e ∷ w)) ≡ cond (eqb c b && eqb e 61) (net_code w) None
  unfolding pin_net
  word-code c e w = ap (λ (t : Bool). opt_code (only t w)) (and_assoc (eqb c b) (eqb e 61) (is_net w)) ∙ only_code (eqb c b && eqb e 61) w

  pub pin-short : (w : List ℕ) → length w < 2 → opt_code (pin_net b w) ≡ None
  unfolding pin_net
  pin-short [] h = refl
  pin-short (c ∷ []) h = refl
  pin-short (c ∷ e ∷ w) h = absurd (let z : suc (suc (length w)) < 2 = h in omega arith)

  pub pin-letter : (w : List ℕ) → 2 ≤ length w → (get_or w 0 0 ≡ b → ⊥) → opt_code (pin_net b w) ≡ None
  pin-letter [] h n = absurd (let z : 2 ≤ 0 = h in omega arith)
  pin-letter (c ∷ []) h n = absurd (let z : 2 ≤ 1 = h in omega arith)
  pin-letter (c ∷ e ∷ w) h n = word-code c e w ∙ ap (λ (t : Bool). cond (t && eqb e 61) (net_code w) None) (is_false (eqb c b) (no_eqb n))

  pub pin-sign : (w : List ℕ) → 2 ≤ length w → (get_or w 1 0 ≡ 61 → ⊥) → opt_code (pin_net b w) ≡ None
  pin-sign [] h n = absurd (let z : 2 ≤ 0 = h in omega arith)
  pin-sign (c ∷ []) h n = absurd (let z : 2 ≤ 1 = h in omega arith)
  pin-sign (c ∷ e ∷ w) h n = word-code c e w ∙ ap (λ (t : Bool). cond (eqb c b && t) (net_code w) None) (is_false (eqb e 61) (no_eqb n)) ∙ go (eqb c b)
    where
      go : (t : Bool) → cond (t && false) (net_code w) None ≡ None
      go true = refl
      go false = refl

  pub pin-rest : (w : List ℕ) → 2 ≤ length w → get_or w 0 0 ≡ b → get_or w 1 0 ≡ 61 → opt_code (pin_net b w) ≡ net_code (drop 2 w)
  pin-rest [] h p q = absurd (let z : 2 ≤ 0 = h in omega arith)
  pin-rest (c ∷ []) h p q = absurd (let z : 2 ≤ 1 = h in omega arith)
  pin-rest (c ∷ e ∷ w) h p q = word-code c e w ∙ ap₂ (λ (s t : Bool). cond (s && t) (net_code w) None) (is_true (eqb c b) (yes_eqb p)) (is_true (eqb e 61) (yes_eqb q))

-- a word by the number of its net
pub with-none : (at : ℕ) (o : Option (List ℕ)) → opt_code o ≡ None → pin_with at o ≡ None
with-none at None e = refl
with-none at (Some n) e = absurd (let z : ◌≡◌ {A = ℕ} 0 1 = cc in omega arith)

pub with-some : (at : ℕ) (o : Option (List ℕ)) (k : ℕ) → opt_code o ≡ Some k → pin_with at o ≡ Some (record { code = k; next = at })
with-some at None k e = absurd (let z : ◌≡◌ {A = ℕ} 0 1 = cc in omega arith)
with-some at (Some n) k e = let z : code n ≡ k = cc in ap (λ (x : ℕ). Some (record { code = x; next = at })) z

-- ---- the words one by one

-- a net's number is not 0
pub code-some : (w : List ℕ) → is_net w ≡ true → 0 < code w
unfolding is_net all code is_net_byte is_letter between
code-some [] e = absurd (true≢false (sym e))
code-some (b ∷ w) e = pos b zero_no
  where
    first : (is_letter b || between 48 57 b) ≡ true
    first = and_left (is_letter b || between 48 57 b) _ (and_right (leb (suc (length w)) 8) _ (and_right (leb 1 (suc (length w))) _ e))

    zero_no : b ≡ 0 → ⊥
    zero_no z = true≢false (sym first ∙ ap (λ (x : ℕ). is_letter x || between 48 57 x) z)

    pos : (x : ℕ) → (x ≡ 0 → ⊥) → 0 < x + 256 * code w
    pos zero n = absurd (n refl)
    pos (suc x) n = omega arith

pub pin-named : (b : ℕ) (w m : List ℕ) → pin_net b w ≡ Some m → is_net m ≡ true
unfolding pin_net only
pin-named b [] m e = absurd (none-some e)
  where
    none-some : ¬ (◌≡◌ {A = Option (List ℕ)} None (Some m))
    none-some q = let z : ◌≡◌ {A = ℕ} 0 1 = cc in omega arith
pin-named b (c ∷ []) m e = absurd (none-some e)
  where
    none-some : ¬ (◌≡◌ {A = Option (List ℕ)} None (Some m))
    none-some q = let z : ◌≡◌ {A = ℕ} 0 1 = cc in omega arith
pin-named b (c ∷ x ∷ w) m e = go (eqb c b && (eqb x 61 && is_net w)) refl e
  where
    go : (t : Bool) → (eqb c b && (eqb x 61 && is_net w)) ≡ t → only t w ≡ Some m → is_net m ≡ true
    go true q f = let z : w ≡ m = cc in subst (λ (v : List ℕ). is_net v ≡ true) z (and_right (eqb x 61) (is_net w) (and_right (eqb c b) (eqb x 61 && is_net w) q))
    go false q f = let z : ◌≡◌ {A = ℕ} 0 1 = cc in absurd (let y : ⊥ = omega arith in y)

-- what is known of a word that is expected: it breaks its form, or it is a net's, and the words behind it are expected
pub data Word (l : List ℕ) (at b : ℕ) (bs : List ℕ) (r : Option Pin) : Type 0 where
  broken : r ≡ None → bound_nets (b ∷ bs) (fields_from l at) ≡ None → Word l at b bs r
  good : (m : List ℕ) (k : ℕ) → r ≡ Some (record { code = code m; next = k })
      → bound_nets (b ∷ bs) (fields_from l at) ≡ and_then (bound_nets bs (fields_from l k)) (λ ns. Some (m ∷ ns)) → Word l at b bs r

pub word-is : (l : List ℕ) (at b : ℕ) (bs : List ℕ) → Word l at b bs (pin_at l at b)
unfolding pin_at
word-is l at b bs = elim (dec_le at (length l)) [
  | yes h ↦ subst (λ (ws : List (List ℕ)). fields_from l at ≡ ws → Word l at b bs (pin_of b ws (space_from l at + 1))) (sym (fields-part l at h))
      (λ e. there (take (space_from l at - at) (drop at l)) e (pin_net b (take (space_from l at - at) (drop at l))) refl) refl
  | no h ↦ let e = fields-none l at (lt_of_not-le h) in
      subst (λ (ws : List (List ℕ)). Word l at b bs (pin_of b ws (space_from l at + 1))) (sym e) (broken refl (ap (bound_nets (b ∷ bs)) e ∙ (unfold bound_nets in refl)))
]
  where
    there : (w : List ℕ) → fields_from l at ≡ w ∷ fields_from l (space_from l at + 1) → (o : Option (List ℕ)) → pin_net b w ≡ o
        → Word l at b bs (pin_with (space_from l at + 1) (pin_net b w))
    there w e None q = broken (ap (pin_with (space_from l at + 1)) q) (ap (bound_nets (b ∷ bs)) e ∙ (unfold bound_nets and_then in ap (λ (x : Option (List ℕ)). and_then x (λ n. and_then (bound_nets bs (fields_from l (space_from l at + 1))) (λ ns. Some (n ∷ ns)))) q))
    there w e (Some m) q = good m (space_from l at + 1) (ap (pin_with (space_from l at + 1)) q)
        (ap (bound_nets (b ∷ bs)) e ∙ (unfold bound_nets and_then in ap (λ (x : Option (List ℕ)). and_then x (λ n. and_then (bound_nets bs (fields_from l (space_from l at + 1))) (λ ns. Some (n ∷ ns)))) q))
